-- What a refused call of the C functions leaves: a result that is the refusal's number and nothing else, and every lent byte as it came.
use Rattle.std.specs.Prelude.{ℕ, suc, ◌+◌, ◌*◌, ◌%◌, ◌^◌, true, false, List, ◌≡◌, length}
use Rattle.std.proofs.Common.{sym, ap, ◌∙◌, arith}
use Rattle.model.specs.Sizes.{card_size, fuse_at}
use Rattle.model.specs.Lists.{at, Bytes}
use Rattle.model.specs.Call.{calling}
use Rattle.model.specs.LogCheck.{missing, find, fetch, count_of}
use Rattle.model.specs.Refusal.{state_out_of_range, not_a_log, no_such_answer}
use Rattle.model.specs.Session.{run}
use Rattle.model.specs.Box.{box_run}
use Rattle.model.specs.Single.{is_fuse_byte, staging_fits, command}
use Rattle.model.specs.Writer.{Parts, write_session}
use Rattle.model.specs.Mender.{mend}
use Rattle.properties.specs.HeadersRead.{fetched_found, headers_no_answer, headers_no_log}
use Rattle.properties.specs.Refused.{refused_command, refused_run, refused_box, refused_writing, refused_mending}
use Rattle.exports.specs.Exports.{run_call, told_run, exported_run, exported_box_run, command_call, told_command, exported_command, told_answer}
use Rattle.exports.specs.Exports.{exported_answer, exported_writing, told_mending, exported_mending}
use Rattle.exports.specs.ExportedCommandLaws.{unread_refused, result_read}
use Rattle.results.specs.Results.{run_result, command_result, answer_result, mend_result}
use Rattle.state_bytes.specs.StateBytes.{is_state, state_of}

-- a number beside which nothing is told
number_alone : (n : ℕ) → command_result n 0 0 0 ≡ n
number_alone n = omega arith

length_none : (n : ℕ) → run_result n 0 ≡ n
length_none n = omega arith

-- at88sc1608_command: the card, the state's bytes and the response space
pub refused_exported : (c b sent space : List ℕ) (n : ℕ) → (command c (state_of b) (calling sent space)).reply.refusal ≡ suc n
    → exported_command c b sent space ≡ command_call (suc n) c b space
refused_exported c b sent space n e =
    ap (told_command b) (refused_command c (state_of b) (calling sent space) n e) ∙ ap (λ (r : ℕ). command_call r c b space) (number_alone (suc n))

-- the same by the first 8 bits of the result, as its caller reads it
pub refused_read : (c b sent space : List ℕ) (n : ℕ) → Bytes sent → (exported_command c b sent space).result % 2 ^ 8 ≡ suc n
    → exported_command c b sent space ≡ command_call (suc n) c b space
refused_read c b sent space n bytes e = refused_exported c b sent space n (sym (result_read c b sent space bytes).0 ∙ e)

-- bytes that stand for no state: 12, where none of 11, 5 and 16 applies
pub unread_exported : (c b sent space : List ℕ) → length c ≡ card_size → is_fuse_byte (at c fuse_at) ≡ true → staging_fits c ≡ true → is_state b ≡ false
    → exported_command c b sent space ≡ command_call state_out_of_range c b space
unread_exported c b sent space l f g e =
    ap (told_command b) (unread_refused c b (calling sent space) l f g e) ∙ ap (λ (r : ℕ). command_call r c b space) (number_alone state_out_of_range)

-- at88sc1608_run: the log space
pub refused_run_exported : (session log : List ℕ) (n : ℕ) → (run session log).refusal ≡ suc n → exported_run session log ≡ run_call (suc n) log
refused_run_exported session log n e =
    ap told_run (refused_run session log n e) ∙ ap (λ (r : ℕ). run_call r log) (length_none (suc n))

-- at88sc1608_box_run: the log space
pub refused_box_exported : (session log : List ℕ) (n : ℕ) → (box_run session log).refusal ≡ suc n → exported_box_run session log ≡ run_call (suc n) log
refused_box_exported session log n e =
    ap told_run (refused_box session log n e) ∙ ap (λ (r : ℕ). run_call r log) (length_none (suc n))

-- at88sc1608_answer lends nothing that it could write: with 13 the number alone, with 14 also the headers that were read, as many as the log counts
pub no_log_exported : (l : List ℕ) (k : ℕ) → find l k ≡ missing not_a_log → exported_answer (fetch l k) ≡ not_a_log
no_log_exported l k e =
    (λ i. told_answer ((fetched_found l k ∙ e) i) (headers_no_log l k e i)) ∙ (let z : answer_result not_a_log 0 0 0 ≡ not_a_log = omega arith in z)

pub no_answer_exported : (l : List ℕ) (k : ℕ) → find l k ≡ missing no_such_answer → exported_answer (fetch l k) ≡ no_such_answer + 2 ^ 24 * count_of l
no_answer_exported l k e =
    (λ i. told_answer ((fetched_found l k ∙ e) i) (headers_no_answer l k e i))
    ∙ (let z : answer_result no_such_answer 0 (count_of l) 0 ≡ no_such_answer + 2 ^ 24 * count_of l = omega arith in z)

-- at88sc1608_write_session: the space for the session
pub refused_writing_exported : (p : Parts) (session : List ℕ) (n : ℕ) → (write_session p session).refusal ≡ suc n
    → exported_writing p session ≡ run_call (suc n) session
refused_writing_exported p session n e =
    ap told_run (refused_writing p session n e) ∙ ap (λ (r : ℕ). run_call r session) (length_none (suc n))

-- at88sc1608_mend and at88sc1608_mend_by_search: the session
pub refused_mending_exported : (session : List ℕ) (n : ℕ) → (mend session).refusal ≡ suc n → exported_mending session ≡ run_call (suc n) session
refused_mending_exported session n e =
    ap told_mending (refused_mending session n e) ∙ ap (λ (r : ℕ). run_call r session) (let z : mend_result (suc n) 0 0 ≡ suc n = omega arith in z)
