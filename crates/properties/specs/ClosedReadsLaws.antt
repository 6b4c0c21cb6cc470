-- Of what reads answer on a card that heeds the record, and what a single command hands back.
use Rattle.std.specs.Prelude.{ℕ, ◌+◌, ◌*◌, ◌%◌, ◌≤◌, ◌<◌, false, List, ◌++◌, ◌≡◌, length, drop}
use Rattle.std.proofs.Common.{ap, ◌∙◌, arith}
use Rattle.std.proofs.Math.ListN.{get_or-append}
use Rattle.model.specs.Sizes.{fuse_at}
use Rattle.model.specs.Lists.{at, tab}
use Rattle.model.specs.Instruction.{Command, read_zone, read_configuration, issue}
use Rattle.model.specs.Access.{zone_readable, configuration_allows}
use Rattle.model.specs.At88sc1608.{at88sc1608, zone_byte, register_at, configuration_at}
use Rattle.model.specs.Call.{Acted, Called, whole, calling}
use Rattle.model.specs.State.{State}
use Rattle.model.specs.Busy.{ignores}
use Rattle.model.specs.Record.{decode}
use Rattle.model.specs.Single.{check, apply, act, command}
use Rattle.laws.specs.AccessLaws.{read_at_seven}
use Rattle.laws.specs.Effects.{answer_length, answer_length_lem}
use Rattle.laws.specs.HeededLaws.{issued, issued_call}
use Rattle.laws.specs.ListLaws.{tab_cong}
use Rattle.laws.specs.ReadLaws.{zone_answer, configuration_answer, zone_closed, configuration_closed}

-- the answer of a command that is not ignored, and the space of a call with its record
answered : (c : List ℕ) (s : State) (k : Command) → ignores at88sc1608 c s (issue k) ≡ false
    → (act c s (issue k)).report.answer ≡ (apply c s.volatile k).report.answer
answered c s k e = ap (λ (m : Acted State). m.report.answer) (issued at88sc1608 c s k e)

spaced : (c : List ℕ) (s : State) (k : Command) (bytes space : List ℕ) → check c s ≡ 0 → decode bytes ≡ whole (issue k) (length bytes)
    → ignores at88sc1608 c s (issue k) ≡ false → answer_length at88sc1608 k ≤ length space
    → (command c s (calling bytes space)).reply.space ≡ (apply c s.volatile k).report.answer ++ drop (answer_length at88sc1608 k) space
spaced c s k bytes space checked decoded e room =
    ap (λ (m : Called State). m.reply.space) (issued_call c s k bytes space checked decoded e room)
    ∙ ap (λ (n : ℕ). (apply c s.volatile k).report.answer ++ drop n space) (answer_length_lem at88sc1608 c s.volatile k)

module _ (c : List ℕ) (s : State) (a n : ℕ) where
  module _ (heeds : ignores at88sc1608 c s (issue (read_zone a n)) ≡ false) where
    pub zone_shows : zone_readable (at c fuse_at) (at c (register_at s.volatile.zone)) s.volatile ≡ false
        → (act c s (issue (read_zone a n))).report.answer ≡ tab (λ k. at c fuse_at) n
    zone_shows e = answered c s (read_zone a n) heeds ∙ zone_closed c s.volatile a n e

    pub zone_called : (bytes space : List ℕ) → check c s ≡ 0 → decode bytes ≡ whole (issue (read_zone a n)) (length bytes) → n ≤ length space
        → zone_readable (at c fuse_at) (at c (register_at s.volatile.zone)) s.volatile ≡ false
        → (command c s (calling bytes space)).reply.space ≡ tab (λ k. at c fuse_at) n ++ drop n space
    zone_called bytes space checked decoded room e =
        spaced c s (read_zone a n) bytes space checked decoded heeds room
        ∙ ap (λ (x : List ℕ). x ++ drop n space) (zone_closed c s.volatile a n e)

    pub zone_free : s.volatile.zone < 8 → at c fuse_at ≡ 7
        → (act c s (issue (read_zone a n))).report.answer ≡ tab (λ k. at c (s.volatile.zone * 256 + (a + k) % 256)) n
    zone_free l f =
        answered c s (read_zone a n) heeds
        ∙ zone_answer c s.volatile a n
        ∙ tab_cong _ _ n (λ k h. rw f (ap (at c) (let q : zone_byte s.volatile.zone a k ≡ s.volatile.zone * 256 + (a + k) % 256 = omega arith in q)))

  module _ (inside : a + n ≤ 128) (heeds : ignores at88sc1608 c s (issue (read_configuration a n)) ≡ false) where
    pub configuration_shows : (k : ℕ) → k < n → configuration_allows 0 (at c fuse_at) (a + k) s.volatile.active ≡ false
        → at (act c s (issue (read_configuration a n))).report.answer k ≡ 0
    configuration_shows k l e =
        ap (λ (x : List ℕ). at x k) (answered c s (read_configuration a n) heeds) ∙ configuration_closed c s.volatile a n k inside l e

    pub configuration_called : (bytes space : List ℕ) → check c s ≡ 0 → decode bytes ≡ whole (issue (read_configuration a n)) (length bytes)
        → n ≤ length space → (k : ℕ) → k < n → configuration_allows 0 (at c fuse_at) (a + k) s.volatile.active ≡ false
        → at (command c s (calling bytes space)).reply.space k ≡ 0
    configuration_called bytes space checked decoded room k l e =
        let m = answer_length_lem at88sc1608 c s.volatile (read_configuration a n) in
        ap (λ (x : List ℕ). at x k) (spaced c s (read_configuration a n) bytes space checked decoded heeds room)
        ∙ get_or-append (apply c s.volatile (read_configuration a n)).report.answer (drop n space) 0 k (omega arith)
        ∙ configuration_closed c s.volatile a n k inside l e

    pub configuration_free : at c fuse_at ≡ 7 → (act c s (issue (read_configuration a n))).report.answer ≡ tab (λ k. at c (configuration_at + (a + k))) n
    configuration_free f =
        answered c s (read_configuration a n) heeds
        ∙ configuration_answer c s.volatile a n inside
        ∙ tab_cong _ _ n (λ k h. rw (f, read_at_seven (a + k) s.volatile.active))
