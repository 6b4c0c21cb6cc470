-- The exported calls, from what the functions that they call give back.
use Prim.Native.Nat.{ℕ, suc, ◌*◌, ◌≤◌, ◌^◌}
use mathlib.Core.Bool.{Bool, true, false, cond, not}
use mathlib.Core.List.{List}
use mathlib.Core.Path.{◌≡◌, refl, sym, ap, ◌∙◌}
use native.Mathlib.Omega.{arith}
use lib.Dec.{eqb}
use lib.ListN.{length}
use Rattle.std.specs.Prelude.{Result, Ok, Err, IfOk, is_ok}
use Rattle.busy.specs.declared.State as code
use Rattle.command.specs.declared.Reply.{Reply}
use Rattle.command.specs.Reply.{called_of}
use Rattle.session.specs.Run.{ran_of}
use Rattle.writer.specs.Writing.{written_of}
use Rattle.record.specs.declared.refusal.Refusal.{Refusal}
use Rattle.model.specs.Sizes.{card_size, fuse_at, greatest_session, most_records}
use Rattle.model.specs.Lists.{at, Bytes}
use Rattle.model.specs.Call.{Called, calling}
use Rattle.model.specs.Call as calls
use Rattle.model.specs.Refusal.{card_length, fuse_byte, staging_bytes, state_out_of_range}
use Rattle.model.specs.Box.{box_run}
use Rattle.model.specs.LogCheck.{Found, located, Fetched, find, fetch}
use Rattle.model.specs.Session.{Ran, run}
use Rattle.model.specs.Single.{is_fuse_byte, staging_fits, check_of, check, command}
use Rattle.model.specs.State.{State}
use Rattle.model.specs.Writer.{Parts, write_session}
use Rattle.model.specs.Mender.{Mended, mend}
use Rattle.properties.specs.HeadersRead.{fetched_found, headers_most}
use Rattle.exports.specs.Exports.{run_call, told_run, exported_run, exported_box_run, command_call, told_command, exported_command, told_answer}
use Rattle.exports.specs.Exports.{exported_answer, exported_writing, told_mending, exported_mending}
use Rattle.results.specs.Results.{run_result, command_result, mend_result}
use Rattle.exports.specs.Lengths.{response_small, run_small, box_run_small, answer_small, writing_small, mending_small}
use Rattle.state_bytes.specs.StateBytes.{is_state, state_of, state_after}
use Rattle.state_bytes.specs.StateLaws.{state_long, state_range}

-- ---- a result with a length

pub within : (r : Result ℕ Refusal) (space : List ℕ) (m : ℕ) → (ran_of r space).size ≤ m → IfOk r (λ n. n ≤ m)
within (Ok n) space m h = h
within (Err why) space m h = tt

pub written_within : (r : Result ℕ Refusal) (space : List ℕ) (m : ℕ) → (written_of r space).size ≤ m → IfOk r (λ n. n ≤ m)
written_within (Ok n) space m h = h
written_within (Err why) space m h = tt

-- ---- a session

module _ (s space : List ℕ) (x : Ran) (ran : x ≡ run s space) where
  pub log_fits : Bytes s → x.size ≤ 2 ^ 32
  log_fits b = let e = ap (λ (y : Ran). y.size) ran in let h = run_small s space b in omega arith

  pub run_told : (r : ℕ) → r ≡ run_result x.refusal x.size → run_call r x.space ≡ exported_run s space
  run_told r e = ap (λ (n : ℕ). run_call n x.space) e ∙ ap told_run ran

-- ---- a session in the box

module _ (s space : List ℕ) (x : Ran) (ran : x ≡ box_run s space) where
  pub box_log_fits : Bytes s → x.size ≤ 2 ^ 32
  box_log_fits b = let e = ap (λ (y : Ran). y.size) ran in let h = box_run_small s space b in omega arith

  pub box_run_told : (r : ℕ) → r ≡ run_result x.refusal x.size → run_call r x.space ≡ exported_box_run s space
  box_run_told r e = ap (λ (n : ℕ). run_call n x.space) e ∙ ap told_run ran

-- ---- an answer

module _ (l : List ℕ) (k : ℕ) (x : Fetched) (fetches : x ≡ fetch l k) (f : Found) (found : x.found ≡ f) where
  finds : find l k ≡ f
  finds = sym (fetched_found l k) ∙ ap (λ (y : Fetched). y.found) (sym fetches) ∙ found

  pub headers_fit : x.headers ≤ most_records
  headers_fit = let e = ap (λ (y : Fetched). y.headers) fetches in let h = headers_most l k in omega arith

  pub answer_fits : (from n : ℕ) → f ≡ located from n → (n ≤ 256) × (x.headers ≤ most_records) × (from ≤ 260 * most_records)
  answer_fits from n e = let s = answer_small l k from n (finds ∙ e) in (s.0, headers_fit, s.1)

  pub answer_told : (r : ℕ) → r ≡ told_answer f x.headers → r ≡ exported_answer (fetch l k)
  answer_told r e = e ∙ ap (λ (g : Found). told_answer g x.headers) (sym found) ∙ ap exported_answer fetches

-- ---- a command

-- bytes that stand for no state are refused
not_accepted : (c b : List ℕ) → is_state b ≡ false → (n : ℕ) × (check c (state_of b) ≡ suc n)
unfolding check_of
not_accepted c b e = rw (state_range b, e) (go (eqb (length c) card_size) (is_fuse_byte (at c fuse_at)) (staging_fits c))
  where
    go : (l f g : Bool) → (n : ℕ) × (cond (not l) card_length (cond (not f) fuse_byte (cond (not g) staging_bytes state_out_of_range)) ≡ suc n)
    go true true true = (11, refl)
    go true true false = (15, refl)
    go true false g = (4, refl)
    go false f g = (10, refl)

module _ (c b sent space : List ℕ) (v : State) (read : v ≡ state_of b) (x : Called State) (called : x ≡ command c v (calling sent space)) where
  same : x ≡ command c (state_of b) (calling sent space)
  same = called ∙ ap (λ (s : State). command c s (calling sent space)) read

  pub accepted_long : x.reply.refusal ≡ 0 → length b ≡ 9
  unfolding calls.admission calls.command
  accepted_long e = state_long b (go (is_state b) refl)
    where
      go : (t : Bool) → is_state b ≡ t → t ≡ true
      go true q = refl
      go false q =
          let w = not_accepted c b q in
          let z : suc w.0 ≡ 0 = sym (ap (λ (y : Called State). y.reply.refusal) same ∙ rw w.1) ∙ e in
          absurd (let f : ⊥ = omega arith in f)

  pub response_fits : Bytes sent → x.reply.size ≤ 2 ^ 32
  response_fits h =
      let e = ap (λ (y : Called State). y.reply.size) called in
      let s = response_small c v (calling sent space) h in
      omega arith

  pub command_told : (r : ℕ) (b' : List ℕ) → r ≡ command_result x.reply.refusal x.reply.size x.reply.tries x.reply.kind
      → b' ≡ state_after x.reply.refusal x.reply.state b
      → command_call r x.card b' x.reply.space ≡ exported_command c b sent space
  command_told r b' e w = (λ i. command_call (e i) x.card (w i) x.reply.space) ∙ ap (told_command b) same

-- the state after a call is written where it was accepted
pub still_long : (s : code.State) (r : Result Reply Refusal) (card space : List ℕ) (after : Result code.State Refusal) (long : Type 0)
    → is_ok after ≡ is_ok r → ((called_of s r card space).reply.refusal ≡ 0 → long) → IfOk after (λ _. long)
still_long s r card space (Err why) long e f = tt
still_long s (Ok r) card space (Ok after) long e f = f refl
still_long s (Err because) card space (Ok after) long e f = absurd (let z : true ≡ false = e in cc)

-- ---- a session that is written

module _ (p : Parts) (space : List ℕ) (x : Ran) (written : x ≡ write_session p space) where
  pub session_fits : x.size ≤ 2 ^ 32
  session_fits = let e = ap (λ (y : Ran). y.size) written in let h = writing_small p space in omega arith

  pub writing_told : (r : ℕ) → r ≡ run_result x.refusal x.size → run_call r x.space ≡ exported_writing p space
  writing_told r e = ap (λ (n : ℕ). run_call n x.space) e ∙ ap told_run written

-- ---- a session that is mended

module _ (s : List ℕ) (x : Mended) (mended : x ≡ mend s) where
  pub mending_fits : (x.count ≤ most_records) × (x.start ≤ greatest_session)
  mending_fits = rw mended (mending_small s)

  pub mending_told : (r : ℕ) → r ≡ mend_result x.refusal x.count x.start → run_call r x.session ≡ exported_mending s
  mending_told r e = ap (λ (n : ℕ). run_call n x.session) e ∙ ap told_mending mended
