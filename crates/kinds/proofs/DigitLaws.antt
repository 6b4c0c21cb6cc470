-- The columns of digits: what the code takes from a digit, or from the count, is what the model says of the kind.
use Prim.Native.Nat.{ℕ, ◌+◌, ◌*◌, ◌/◌, ◌%◌, ◌^◌, ◌≤◌, ◌<◌}
use mathlib.Core.Bool.{Bool, true, false, cond, not, ◌&&◌, ◌||◌}
use mathlib.Core.List.{[]}
use mathlib.Core.Path.{◌≡◌, refl, sym}
use native.Mathlib.Omega.{arith}
use borrow.Author.Tests.{eqb-true, eq-eqb, le-leb, leb-true}
use lib.Dec.{leb, eqb}
use Rattle.model.specs.At88sc1608.{at88sc1608}
use Rattle.laws.specs.BusyLaws.{full_answer}
use Rattle.model.specs.Record.{kinds, fixed_fields, in_range, data_length, made, length_fits}
use Rattle.laws.specs.BoolLaws.{and_left, and_right}
use Rattle.laws.specs.KindLaws.{each_kind, within_known}

abbrev pub digit_of : ℕ → ℕ → ℕ
digit_of digits k = digits / 2 ^ (k % 16 * 4) % 16

pub fields_digit : (k : ℕ) → (1 ≤ k) × (k ≤ 16) → digit_of 0x2011010022221002 k ≡ fixed_fields k
unfolding kinds fixed_fields
fields_digit k h =
    each_kind (λ k. digit_of 0x2011010022221002 k ≡ fixed_fields k)
    refl refl refl refl refl refl refl refl refl refl refl refl refl refl refl refl k (within_known k h)

module _ (n : ℕ) (short : n < 256) where
  none_left : (m : ℕ) → m + n / 256 ≡ m
  none_left m = omega arith

  all_left : (m : ℕ) → m + n / 1 ≡ m + n
  all_left m = omega arith

  pub length_digit : (k : ℕ) → (1 ≤ k) × (k ≤ 16)
      → digit_of 0x312A151133332113 k + n / 2 ^ digit_of 0x888888808088888 k ≡ 1 + fixed_fields k + data_length k n
  unfolding kinds fixed_fields data_length
  length_digit k h =
      each_kind (λ k. digit_of 0x312A151133332113 k + n / 2 ^ digit_of 0x888888808088888 k ≡ 1 + fixed_fields k + data_length k n)
      (none_left 1) (none_left 1) (none_left 2) (none_left 3) (all_left 3) (none_left 3) (all_left 3) (none_left 1)
      (none_left 1) (none_left 5) (none_left 1) (none_left 10) (none_left 2) (none_left 1) (all_left 3) (none_left 3)
      k (within_known k h)

pub answer_digit : (n k : ℕ) → (1 ≤ k) × (k ≤ 16)
    → cond (eqb k 6) n (cond (eqb k 4) (cond (eqb n 0) 256 n) (digit_of 0x100000100000400 k)) ≡ full_answer at88sc1608 (made k 0 n [])
unfolding kinds made
answer_digit n k h =
    each_kind (λ k. cond (eqb k 6) n (cond (eqb k 4) (cond (eqb n 0) 256 n) (digit_of 0x100000100000400 k)) ≡ full_answer at88sc1608 (made k 0 n []))
    refl refl refl refl refl refl refl refl refl refl refl refl refl refl refl refl k (within_known k h)

-- the lengths of answers in a log
pub fits_digit : (n k : ℕ) → (1 ≤ k) × (k ≤ 16)
    → cond (eqb k 4) (leb 1 n && leb n 256) (cond (eqb k 6) (leb 1 n && leb n 128) (eqb n (digit_of 0x100000100000400 k))) ≡ length_fits k n
unfolding kinds length_fits
fits_digit n k h =
    each_kind
    (λ k. cond (eqb k 4) (leb 1 n && leb n 256) (cond (eqb k 6) (leb 1 n && leb n 128) (eqb n (digit_of 0x100000100000400 k))) ≡ length_fits k n)
    refl refl refl refl refl refl refl refl refl refl refl refl refl refl refl refl k (within_known k h)

-- ---- the range of the fixed fields

same : (s t : Bool) → (s ≡ true → t ≡ true) → (t ≡ true → s ≡ true) → s ≡ t
same true t f g = sym (f refl)
same false true f g = g refl
same false false f g = refl

and_true : (t : Bool) → t && true ≡ t
and_true true = refl
and_true false = refl

-- a number fits in so many bits where nothing is left above them
bits : (d m a : ℕ) → (a / d ≡ 0 → a ≤ m) → (a ≤ m → a / d ≡ 0) → eqb (a / d) 0 ≡ leb a m
bits d m a f g = same _ _ (λ e. le-leb a m (f (eqb-true (a / d) 0 e))) (λ e. eq-eqb (a / d) 0 (g (leb-true a m e)))

one_bit : (a : ℕ) → eqb (a / 2) 0 ≡ leb a 1
one_bit a = bits 2 1 a (λ e. omega arith) (λ l. omega arith)

three_bits : (a : ℕ) → eqb (a / 8) 0 ≡ leb a 7
three_bits a = bits 8 7 a (λ e. omega arith) (λ l. omega arith)

four_bits : (a : ℕ) → eqb (a / 16) 0 ≡ leb a 15
four_bits a = bits 16 15 a (λ e. omega arith) (λ l. omega arith)

seven_bits : (a : ℕ) → eqb (a / 128) 0 ≡ leb a 127
seven_bits a = bits 128 127 a (λ e. omega arith) (λ l. omega arith)

-- a count less one fits in so many bits: from 1 on, and up to the greatest
abbrev less_one : ℕ → ℕ
less_one n = (n + 255) % 256

both_hold : (s t : Bool) → s ≡ true → t ≡ true → s && t ≡ true
both_hold true t e f = f
both_hold false t e f = e

counts : (d m n : ℕ) → (less_one n / d ≡ 0 → (1 ≤ n) × (n ≤ m)) → ((1 ≤ n) × (n ≤ m) → less_one n / d ≡ 0) → eqb (less_one n / d) 0 ≡ (leb 1 n && leb n m)
counts d m n f g =
    same _ _ (λ e. let h = f (eqb-true (less_one n / d) 0 e) in both_hold (leb 1 n) (leb n m) (le-leb 1 n h.0) (le-leb n m h.1))
    (λ e. eq-eqb (less_one n / d) 0 (g (leb-true 1 n (and_left (leb 1 n) _ e), leb-true n m (and_right (leb 1 n) _ e))))

-- a sum is 0 where both parts are
no_sum : (x y : ℕ) → eqb (x + y) 0 ≡ (eqb x 0 && eqb y 0)
no_sum x y =
    same _ _ (λ e. let h = eqb-true (x + y) 0 e in both_hold (eqb x 0) (eqb y 0) (eq-eqb x 0 (omega arith)) (eq-eqb y 0 (omega arith)))
    (λ e. let p = eqb-true x 0 (and_left (eqb x 0) _ e) in let q = eqb-true y 0 (and_right (eqb x 0) _ e) in eq-eqb (x + y) 0 (omega arith))

turned : (p q r s : Bool) → (p ≡ true → s ≡ true) → (p && (q && (r && s))) ≡ (q && (r && p))
turned true true true true f = refl
turned true true true false f = f refl
turned true true false s f = refl
turned true false r s f = refl
turned false true true s f = refl
turned false true false s f = refl
turned false false r s f = refl

abbrev fits : ℕ → ℕ → ℕ → Bool
fits k a n = eqb (a / 2 ^ digit_of 0x8881848877883888 k + less_one n / 2 ^ digit_of 0x3888888847488888 k) 0

abbrev timed : ℕ → ℕ → Bool
timed k a = not (eqb k 13) || leb 1 a

abbrev inside : ℕ → ℕ → ℕ → Bool
inside k a n = not (eqb k 6) || leb (a + n) 128

module _ (a n : ℕ) (small : a < 256) (short : n < 256) where
  byte : eqb (a / 256) 0 ≡ true
  byte = eq-eqb (a / 256) 0 (omega arith)

  uncounted : eqb (less_one n / 256) 0 ≡ true
  uncounted = eq-eqb (less_one n / 256) 0 (omega arith)

  sixteen : eqb (less_one n / 16) 0 ≡ (leb 1 n && leb n 16)
  sixteen = counts 16 16 n (λ e. (omega arith, omega arith)) (λ h. let l = h.0 in let m = h.1 in omega arith)

  eight : eqb (less_one n / 8) 0 ≡ (leb 1 n && leb n 8)
  eight = counts 8 8 n (λ e. (omega arith, omega arith)) (λ h. let l = h.0 in let m = h.1 in omega arith)

  configuration : eqb (less_one n / 128) 0 ≡ (leb 1 n && leb n 128)
  configuration = counts 128 128 n (λ e. (omega arith, omega arith)) (λ h. let l = h.0 in let m = h.1 in omega arith)

  pub range_digit : (k : ℕ) → (1 ≤ k) × (k ≤ 16) → ((timed k a && inside k a n) && fits k a n) ≡ in_range k a n
  unfolding kinds in_range
  range_digit k h =
      each_kind (λ k. ((timed k a && inside k a n) && fits k a n) ≡ in_range k a n)
      (rw (no_sum (a / 256) (less_one n / 256), byte, uncounted))
      (rw (no_sum (a / 256) (less_one n / 256), byte, uncounted))
      (rw (no_sum (a / 8) (less_one n / 256), three_bits a, uncounted) (and_true _))
      (rw (no_sum (a / 256) (less_one n / 256), byte, uncounted))
      (rw (no_sum (a / 256) (less_one n / 16), byte, sixteen))
      (rw (no_sum (a / 128) (less_one n / 128), seven_bits a, configuration)
      (turned (leb (a + n) 128) (leb a 127) (leb 1 n) (leb n 128) (λ e. le-leb n 128 (let q = leb-true (a + n) 128 e in omega arith))))
      (rw (no_sum (a / 128) (less_one n / 16), seven_bits a, sixteen))
      (rw (no_sum (a / 256) (less_one n / 256), byte, uncounted))
      (rw (no_sum (a / 256) (less_one n / 256), byte, uncounted))
      (rw (no_sum (a / 16) (less_one n / 256), four_bits a, uncounted) (and_true _))
      (rw (no_sum (a / 256) (less_one n / 256), byte, uncounted))
      (rw (no_sum (a / 2) (less_one n / 256), one_bit a, uncounted) (and_true _))
      (rw (no_sum (a / 256) (less_one n / 256), byte, uncounted, le-leb a 255 (omega arith)) (and_true _))
      (rw (no_sum (a / 256) (less_one n / 256), byte, uncounted))
      (rw (no_sum (a / 256) (less_one n / 8), byte, eight))
      (rw (no_sum (a / 256) (less_one n / 256), byte, uncounted))
      k
      (within_known k h)
