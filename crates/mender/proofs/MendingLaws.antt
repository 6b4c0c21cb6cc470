-- The mended session, from what the check and the search gave.
use Rattle.std.specs.Prelude.{ℕ, ◌+◌, ◌≤◌, List, ◌++◌, Result, Err, ◌≡◌, leb, length, take}
use Rattle.std.proofs.Common.{sym, ap, ◌∙◌, arith}
use mathlib.Core.List.{append-nil}
use borrow.Author.Tests.{leb-true, not-false}
use lib.ListN.{drop_of_length-le}
use lib.Seq.{sets, sets-eq}
use Rattle.model.specs.Sizes.{least_session}
use Rattle.model.specs.Reader.{records_end}
use Rattle.model.specs.Refusal.{no_start}
use Rattle.model.specs.Session.{wrong_length}
use Rattle.model.specs.Writer.{trailer_bytes}
use Rattle.model.specs.Mender.{Search, nowhere, found, smallest_start, unmended, mended_by, untrailed_refusal, mend}
use Rattle.laws.specs.BoolLaws.{and_left}
use Rattle.laws.specs.CallLaws.{clear}
use Rattle.record.specs.RefusalNumber.{refusal_number, number_some}
use Rattle.record.specs.declared.refusal.Refusal.{Refusal}
use Rattle.mender.specs.Mending.{mended_of}
use Rattle.mender.specs.declared.Found.{Found}

module _ (s : List ℕ) where
  pub not_searched : (why : Refusal) (r : Result Found Refusal) → refusal_number why ≡ untrailed_refusal s → r ≡ Err why → mended_of r s ≡ mend s
  unfolding mend
  not_searched why r e told = rw (told, ← e, (number_some why).1)

  module _ (accepted : 0 ≡ untrailed_refusal s) where
    pub long_enough : least_session ≤ length s
    unfolding untrailed_refusal
    long_enough = leb-true _ _ (and_left (leb least_session (length s)) _ (not-false _ (clear (wrong_length s) 0 _ (sym accepted)).0))

    pub mended_by_lem : (got : Search) → got ≡ smallest_start s → mended_by s got ≡ mend s
    unfolding mend
    mended_by_lem got e = rw (← accepted) (ap (mended_by s) e)

    pub none_mended : nowhere ≡ smallest_start s → unmended no_start s ≡ mend s
    none_mended e = mended_by_lem nowhere e

    pub found_mended : (start count : ℕ) (l : List ℕ) → found start count ≡ smallest_start s
        → l ≡ sets s (records_end (length s)) (trailer_bytes start count)
        → record { refusal = 0; start = start; count = count; session = l } ≡ mend s
    unfolding mend
    found_mended start count l e put =
        let h = long_enough in
        let tail : List ℕ = trailer_bytes start count in
        let all : l ≡ take (records_end (length s)) s ++ tail =
        put ∙ sets-eq tail s (records_end (length s)) (omega arith)
        ∙ ap (λ (x : List ℕ). (take (records_end (length s)) s ++ tail) ++ x) (drop_of_length-le s {i = records_end (length s) + 8} (omega arith))
        ∙ append-nil (take (records_end (length s)) s ++ tail)
        in
        (λ t. record { refusal = 0; start = start; count = count; session = all t }) ∙ mended_by_lem (found start count) e
