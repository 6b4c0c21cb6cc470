-- The box's limits, from what the tests of the code found, in their order; and the run.
use Prim.Native.Nat.{ℕ, ◌≤◌, ◌<◌}
use mathlib.Core.Bool.{Bool, true, false, cond, not, ◌&&◌, ◌||◌}
use mathlib.Core.List.{List}
use mathlib.Core.Path.{◌≡◌, refl, sym, ap, ◌∙◌}
use borrow.Author.Tests.{lt-ltb, le-ltb, leb-true, not-false}
use lib.Dec.{ltb, leb}
use lib.ListN.{length}
use Rattle.model.specs.Sizes.{least_session, box_session, box_records}
use Rattle.model.specs.Refusal.{box_limits}
use Rattle.model.specs.Session.{count_of, wrong_length, wrong_trailer, wrong_start, wrong_count, wrong_fuses, wrong_staging, frame, Ran, rejected, run}
use Rattle.model.specs.Box.{beyond_box, box_refuses, box_run}
use Rattle.laws.specs.BoolLaws.{and_left}
use Rattle.properties.proofs.BoxLaws.{limited, unlimited, neither}

-- whether the frame is refused with one of 1 to 4
abbrev wrong : List ℕ → Bool
wrong s = wrong_length s || (wrong_trailer s || (wrong_start s || wrong_count s))

first_four : (s : List ℕ) → (leb 1 (frame s) && leb (frame s) 4) ≡ wrong s
unfolding frame
first_four s = go (wrong_length s) (wrong_trailer s) (wrong_start s) (wrong_count s) (wrong_fuses s) (wrong_staging s)
  where
    number : Bool → Bool → Bool → Bool → Bool → Bool → ℕ
    number a b c d e f = cond a 1 (cond b 2 (cond c 3 (cond d 4 (cond e 5 (cond f 16 0)))))

    go : (a b c d e f : Bool) → (leb 1 (number a b c d e f) && leb (number a b c d e f) 4) ≡ (a || (b || (c || d)))
    go true b c d e f = refl
    go false true c d e f = refl
    go false false true d e f = refl
    go false false false true e f = refl
    go false false false false true f = refl
    go false false false false false true = refl
    go false false false false false false = refl

module _ (s : List ℕ) (n : ℕ) (t : Bool) (number : n ≡ frame s) (test : t ≡ (leb 1 n && leb n 4)) where
  tested : t ≡ wrong s
  tested = test ∙ ap (λ (m : ℕ). leb 1 m && leb m 4) number ∙ first_four s

  -- one of them comes before
  pub refused_before : t ≡ true → false ≡ box_refuses s
  unfolding box_refuses
  refused_before e = ap (λ (w : Bool). not w && beyond_box s) (sym e ∙ tested)

  module _ (none : t ≡ false) where
    pub long : least_session ≤ length s
    long =
        leb-true _ _ (and_left (leb least_session (length s)) _ (not-false _ (neither (wrong_length s) _ (sym tested ∙ none)).0))

    limits : beyond_box s ≡ box_refuses s
    unfolding box_refuses
    limits = ap (λ (w : Bool). not w && beyond_box s) (sym none ∙ tested)

    pub too_long : box_session < length s → ltb box_session (length s) ≡ box_refuses s
    too_long h = lt-ltb _ _ h ∙ sym (rw (lt-ltb _ _ h)) ∙ limits

    pub count_decides : length s ≤ box_session → (count : ℕ) → count ≡ count_of s → ltb box_records count ≡ box_refuses s
    count_decides h count e = ap (λ (m : ℕ). ltb box_records m) e ∙ sym (rw (le-ltb _ _ h)) ∙ limits

module _ (s space : List ℕ) (t : Bool) (test : t ≡ box_refuses s) where
  pub run_limited : t ≡ true → rejected box_limits space ≡ box_run s space
  run_limited e = sym (limited s space (sym test ∙ e))

  pub run_unlimited : t ≡ false → (r : Ran) → r ≡ run s space → r ≡ box_run s space
  run_unlimited e r ran = ran ∙ sym (unlimited s space (sym test ∙ e))
