-- Text put piece by piece.
use Prim.Native.Nat.{ℕ, ◌+◌, ◌/◌, ◌%◌, ◌≤◌, ◌<◌}
use mathlib.Core.List.{List, [], ◌∷◌, ◌++◌}
use mathlib.Core.Path.{◌≡◌, refl, ap, ◌∙◌}
use native.Mathlib.Omega.{arith}
use native.Mathlib.Numerals.{add-one}
use lib.ListN.{length, take, length-append, get_or}
use lib.Seq.{take-suc}
use Rattle.laws.specs.NumberLaws.{sets_append}
use Rattle.text.specs.declared.Page.{Page}
use Rattle.text.specs.Put.{Put, Puts}
use Rattle.text.specs.Text.{decimal}
use Rattle.text.specs.TextLaws.{decimal_one, decimal_more, decimal_few}

-- ---- one text behind another

pub put_then : {l : List ℕ} {i : ℕ} {xs l₁ : List ℕ} {i₁ : ℕ} {ys l₂ : List ℕ} {i₂ : ℕ} → Put l i xs l₁ i₁ → Put l₁ i₁ ys l₂ i₂ → Put l i (xs ++ ys) l₂ i₂
put_then {l} {i} {xs} {ys = ys} p q =
    record {
      bytes = q.bytes ∙ rw (p.bytes, p.past) (sets_append l i xs ys);
      past = let a = p.past in let b = q.past in let c = length-append xs ys in omega arith;
    }

pub puts_none : (p : Page) → Puts p [] p
puts_none p = record { same_space = refl; put = record { bytes = refl; past = omega arith } }

pub puts_then : {p : Page} {xs : List ℕ} {p₁ : Page} {ys : List ℕ} {p₂ : Page} → Puts p xs p₁ → Puts p₁ ys p₂ → Puts p (xs ++ ys) p₂
puts_then a b = record { same_space = b.same_space ∙ a.same_space; put = put_then a.put b.put }

-- what a new page leaves of its space
pub page_put : {p p' : Page} {xs space space' : List ℕ} → p.space.now ≡ space → p.at ≡ 0 → Puts p xs p' → space' ≡ p'.space.now → Put space 0 xs space' p'.at
page_put {xs = xs} b z q e = record { bytes = e ∙ q.put.bytes ∙ rw (b, z); past = q.put.past ∙ ap (λ (i : ℕ). i + length xs) z }

-- ---- a slice, byte by byte, where the text of one byte more is that of the bytes before it and a piece
module _ (f : List ℕ → List ℕ) (piece : ℕ → List ℕ) (last : (xs : List ℕ) (x : ℕ) → f (xs ++ (x ∷ [])) ≡ f xs ++ piece x) where
  pub puts_next : {p : Page} (bytes : List ℕ) (k : ℕ) {p₁ p₂ : Page} → k < length bytes → Puts p (f (take k bytes)) p₁
      → Puts p₁ (piece (get_or bytes k 0)) p₂ → Puts p (f (take (k + 1) bytes)) p₂
  puts_next bytes k h a b = rw (add-one k, take-suc bytes k 0 h, last) (puts_then a b)

-- ---- a number, digit by digit
module _ (n : ℕ) where
  pub one_digit : n < 10 → {p p' : Page} → Puts p ((48 + n % 10) ∷ []) p' → Puts p (decimal n) p'
  one_digit h a = let z : n % 10 ≡ n = omega arith in rw (decimal_one n h, ← z) a

  pub more_digits : 10 ≤ n → {p p₁ p₂ : Page} → Puts p (decimal (n / 10)) p₁ → Puts p₁ ((48 + n % 10) ∷ []) p₂ → Puts p (decimal n) p₂
  more_digits h a b = rw (decimal_more n h) (puts_then a b)

  pub fewer_digits : 10 ≤ n → length (decimal n) ≡ length (decimal (n / 10)) + 1
  fewer_digits h = ap length (decimal_more n h) ∙ length-append (decimal (n / 10)) ((48 + n % 10) ∷ [])

pub byte_few : {n : ℕ} → n < 256 → length (decimal n) ≤ 4
byte_few {n} h = decimal_few n (omega arith)
