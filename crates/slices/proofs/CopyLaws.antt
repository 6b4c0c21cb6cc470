-- A run of bytes copied one by one.
use Prim.Native.Nat.{ℕ, suc, ◌+◌, ◌≤◌, ◌<◌}
use mathlib.Core.List.{List, ◌∷◌}
use mathlib.Core.Path.{◌≡◌, refl, sym, ap, ◌∙◌}
use native.Mathlib.Omega.{arith}
use lib.ListN.{length, take, drop, set, length-set, length-take, length-drop, drop_of_length-le}
use lib.Seq.{sets, drop-cons, get_or-take, get_or-drop, length-take-le}
use Rattle.model.specs.Lists.{at}

-- what is known when i bytes are copied: the rest leads to the same
pub record Copying (to₀ : List ℕ) (place : ℕ) (from : List ℕ) (start count i : ℕ) (to : List ℕ) : Type 0 where
  pub few : i ≤ count
  pub long : length to ≡ length to₀
  pub rest : sets to (place + i) (drop i (take count (drop start from))) ≡ sets to₀ place (take count (drop start from))

pub copying_start : (to : List ℕ) (place : ℕ) (from : List ℕ) (start count : ℕ) → Copying to place from start count 0 to
copying_start to place from start count =
    record { few = omega arith; long = refl; rest = ap (λ (k : ℕ). sets to k (take count (drop start from))) (let e : place + 0 ≡ place = omega arith in e) }

module _ (to₀ : List ℕ) (place : ℕ) (from : List ℕ) (start count i : ℕ) (to : List ℕ) (p : Copying to₀ place from start count i to) where
  abbrev part : List ℕ
  part = take count (drop start from)

  pub copying_next : i < count → start + count ≤ length from → Copying to₀ place from start count (i + 1) (set to (place + i) (at from (start + i)))
  copying_next l h =
      let d = length-drop start from in
      let e : drop i part ≡ at from (start + i) ∷ drop (suc i) part =
      drop-cons part i 0 (rw (length-take-le count (drop start from) (omega arith)) l)
      ∙ ap (λ (x : ℕ). x ∷ drop (suc i) part) (get_or-take count (drop start from) i 0 l ∙ get_or-drop start from i 0) in
      let n : i + 1 ≡ suc i = omega arith in
      let k : place + (i + 1) ≡ suc (place + i) = omega arith in
      record {
        few = omega arith;
        long = length-set to (place + i) (at from (start + i)) ∙ p.long;
        rest = (λ t. sets (set to (place + i) (at from (start + i))) (k t) (drop (n t) part)) ∙ sym (ap (sets to (place + i)) e) ∙ p.rest;
      }

  pub copying_done : count ≤ i → to ≡ sets to₀ place part
  copying_done l =
      let h : length part ≤ i = (let e = length-take count (drop start from) in omega arith) in
      sym (ap (sets to (place + i)) (drop_of_length-le part h)) ∙ p.rest
