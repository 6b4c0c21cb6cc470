-- Unwinding: one command on two cards that agree outside the hidden places, at a common state, for any device. Where the hidden
-- places may not be read and the password presented is judged alike, both cards report the same and agree as before.
use Prim.Native.Nat.{ℕ, ◌<◌}
use Rattle.std.specs.Prelude.{Bool, true, false, cond, not, ◌&&◌, ◌≡◌, refl, eqb}
use mathlib.Core.List.{List, [], ◌∷◌}
use Rattle.std.proofs.Math.Path.{ap}
use Rattle.std.proofs.Common.{subst, ◌∙◌}
use Rattle.std.proofs.Math.ListN.{set}
use Rattle.model.specs.Lists.{at, tab, same_list, stores}
use Rattle.laws.specs.ListLaws.{tab_cong}
use Rattle.model.specs.Volatile.{Volatile, is_begun}
use Rattle.model.specs.Instruction.{Command, reset, select, read_zone, write_zone, read_configuration, write_configuration, read_fuses, write_fuses, verify_password}
use Rattle.model.specs.Instruction.{begin_authentication, verify_authentication}
use Rattle.model.specs.Device.{Device, Counter, of_password, of_authentication, counter_place}
use Rattle.model.specs.Staging.{staged_at}
use Rattle.model.specs.Busy.{makes_busy}
use Rattle.model.specs.Call.{Acted, reporting, tried}
use Rattle.model.specs.Apply.{Attempt, locked, right, wrong, attempt_of, Judgement, not_begun, accepted, denied, judgement_of}
use Rattle.model.specs.Apply.{rules, shown, kept, password, counted, presented, started, judged, apply}
use Rattle.secrecy.specs.Secret.{AgreeOutside}
use Rattle.secrecy.specs.Agree.{set_agree, stores_agree}

-- the places by which a card decides and answers for itself are not hidden
pub record Open (D : Device) (hidden : ℕ → Bool) : Type 0 where
  pub rule : (k : ℕ) → hidden (D.rule_at k) ≡ false
  pub counter : (n : Counter) → hidden (counter_place D n) ≡ false
  pub reset_byte : (k : ℕ) → hidden (D.reset_byte k) ≡ false
  pub fuse : hidden D.fuse_at ≡ false
  -- and what a staged write names, but for its values
  pub flag : hidden D.flag_at ≡ false
  pub named : (k : ℕ) → k < 3 → hidden (staged_at D k) ≡ false

-- what a command leaves on two cards: the same report, and cards that agree
abbrev pub Same : (ℕ → Bool) → Acted Volatile → Acted Volatile → Type 0
Same hidden u v = (u.report ≡ v.report) × AgreeOutside hidden u.card v.card

module _ (D : Device) (hidden : ℕ → Bool) (open-places : Open D hidden) where
  pub rules_same : (c₁ c₂ : List ℕ) → AgreeOutside hidden c₁ c₂ → rules D c₁ ≡ rules D c₂
  rules_same c₁ c₂ h = tab_cong _ _ D.rule_count (λ k l. h.same (D.rule_at k) (open-places.rule k))

  -- a command makes both cards busy, or neither
  pub busy_same : (c₁ c₂ : List ℕ) (v : Volatile) (k : Command) → AgreeOutside hidden c₁ c₂ → makes_busy D c₁ v k ≡ makes_busy D c₂ v k
  busy_same c₁ c₂ v reset h = refl
  busy_same c₁ c₂ v (select z) h = refl
  busy_same c₁ c₂ v (read_zone a n) h = refl
  busy_same c₁ c₂ v (write_zone a xs) h = refl
  busy_same c₁ c₂ v (read_configuration a n) h = refl
  busy_same c₁ c₂ v (write_configuration a xs) h = refl
  busy_same c₁ c₂ v read_fuses h = refl
  busy_same c₁ c₂ v write_fuses h = ap (λ (f : ℕ). D.may_blow v && not (eqb f 0)) (h.same _ open-places.fuse)
  busy_same c₁ c₂ v (verify_password k xs) h = ap (λ (x : ℕ). not (eqb x 0)) (h.same _ (open-places.counter (of_password k)))
  busy_same c₁ c₂ v begin_authentication h = ap (λ (x : ℕ). not (eqb x 0)) (h.same _ (open-places.counter of_authentication))
  busy_same c₁ c₂ v (verify_authentication x xs) h = refl

  -- a counter that counts leaves as many tries on both
  counted_same : (c₁ c₂ : List ℕ) (s : Volatile) (n : Counter) → AgreeOutside hidden c₁ c₂
      → Same hidden (counted D (counter_place D n) c₁ s) (counted D (counter_place D n) c₂ s)
  counted_same c₁ c₂ s n h = (
    ap (λ (v : ℕ). (tried c₁ s (D.tries (D.spend v))).report) (h.same _ (open-places.counter n)),
    set_agree hidden c₁ c₂ _ _ _ h (λ o. ap D.spend (h.same _ o)),
  )

  presented_same : (a : Attempt) (c₁ c₂ : List ℕ) (s : Volatile) (k : ℕ) → AgreeOutside hidden c₁ c₂
      → Same hidden (presented D a c₁ s k) (presented D a c₂ s k)
  presented_same locked c₁ c₂ s k h = (refl, h)
  presented_same right c₁ c₂ s k h = (refl, set_agree hidden c₁ c₂ _ _ _ h (λ o. refl))
  presented_same wrong c₁ c₂ s k h = counted_same c₁ c₂ _ (of_password k) h

  started_same : (locked : Bool) (c₁ c₂ : List ℕ) (s : Volatile) → AgreeOutside hidden c₁ c₂
      → Same hidden (started D locked c₁ s) (started D locked c₂ s)
  started_same true c₁ c₂ s h = (refl, h)
  started_same false c₁ c₂ s h = counted_same c₁ c₂ _ of_authentication h

  judged_same : (j : Judgement) (c₁ c₂ : List ℕ) (s : Volatile) (xs : List ℕ) → AgreeOutside hidden c₁ c₂
      → Same hidden (judged D j c₁ s xs) (judged D j c₂ s xs)
  judged_same not_begun c₁ c₂ s xs h = (refl, h)
  judged_same accepted c₁ c₂ s xs h = (refl, set_agree hidden _ _ _ _ _ (stores_agree hidden _ _ xs 0 c₁ c₂ h) (λ o. refl))
  judged_same denied c₁ c₂ s xs h = (refl, h)

  module _ (c₁ c₂ : List ℕ) (s : Volatile) (h : AgreeOutside hidden c₁ c₂)
      (unreadable : (i : ℕ) → hidden i ≡ true → D.may_read (rules D c₁) s i ≡ false) where
    -- what is read at a place
    shown_same : (i : ℕ) → shown D c₁ s i ≡ shown D c₂ s i
    shown_same i = go (hidden i) refl ∙ ap (λ (ρ : List ℕ). cond (D.may_read ρ s i) (at c₂ i) (D.concealed ρ i)) (rules_same c₁ c₂ h)
      where
        go : (t : Bool) → hidden i ≡ t → shown D c₁ s i ≡ cond (D.may_read (rules D c₁) s i) (at c₂ i) (D.concealed (rules D c₁) i)
        go true e = rw (unreadable i e)
        go false e = ap (λ (v : ℕ). cond (D.may_read (rules D c₁) s i) v (D.concealed (rules D c₁) i)) (h.same i e)

    read_same : (f : ℕ → ℕ) (n : ℕ) → tab (λ k. shown D c₁ s (f k)) n ≡ tab (λ k. shown D c₂ s (f k)) n
    read_same f n = tab_cong _ _ n (λ k l. shown_same (f k))

    written_same : (cell : ℕ → ℕ) (xs : List ℕ)
        → AgreeOutside hidden (stores (kept D (rules D c₁) s) cell xs 0 c₁) (stores (kept D (rules D c₂) s) cell xs 0 c₂)
    written_same cell xs =
        subst (λ (ρ : List ℕ). AgreeOutside hidden (stores (kept D (rules D c₁) s) cell xs 0 c₁) (stores (kept D ρ s) cell xs 0 c₂))
        (rules_same c₁ c₂ h)
        (stores_agree hidden (kept D (rules D c₁) s) cell xs 0 c₁ c₂ h)

    pub unwind : (k : Command) → ((j : ℕ) (xs : List ℕ) → k ≡ verify_password j xs → same_list xs (password D c₁ j) ≡ same_list xs (password D c₂ j))
        → Same hidden (apply D c₁ s k) (apply D c₂ s k)
    unfolding apply
    unwind reset g = (ap (reporting _) (tab_cong _ _ D.reset_count (λ k l. ap D.sent (h.same _ (open-places.reset_byte k)))), h)
    unwind (select z) g = (refl, h)
    unwind (read_zone a n) g = (ap (reporting s) (read_same (D.zone_byte s.zone a) n), h)
    unwind (write_zone a xs) g = (refl, written_same (D.zone_cell s.zone a) xs)
    unwind (read_configuration a n) g = (ap (reporting s) (read_same (D.configuration_byte a) n), h)
    unwind (write_configuration a xs) g = (refl, written_same (D.configuration_cell a) xs)
    unwind read_fuses g = (ap (λ (f : ℕ). reporting s (f ∷ [])) (h.same _ open-places.fuse), h)
    unwind write_fuses g = (refl, go (D.may_blow s))
      where
        blown : List ℕ → List ℕ
        blown c = set c D.fuse_at (D.blow (at c D.fuse_at))

        go : (t : Bool) → AgreeOutside hidden (cond t (blown c₁) c₁) (cond t (blown c₂) c₂)
        go true = set_agree hidden c₁ c₂ _ _ _ h (λ o. ap D.blow (h.same _ o))
        go false = h
    unwind (verify_password j xs) g =
        subst (λ (v : ℕ). Same hidden (apply D c₁ s (verify_password j xs))
        (presented D (attempt_of (eqb v 0) (same_list xs (password D c₂ j))) c₂ s j)) (h.same _ (open-places.counter (of_password j)))
        (subst (λ (r : Bool). Same hidden (apply D c₁ s (verify_password j xs))
        (presented D (attempt_of (eqb (at c₁ (D.counter_at j)) 0) r) c₂ s j)) (g j xs refl)
        (presented_same (attempt_of (eqb (at c₁ (D.counter_at j)) 0) (same_list xs (password D c₁ j))) c₁ c₂ s j h))
    unwind begin_authentication g =
        subst (λ (v : ℕ). Same hidden (apply D c₁ s begin_authentication) (started D (eqb v 0) c₂ s))
        (h.same _ (open-places.counter of_authentication))
        (started_same (eqb (at c₁ D.attempts_at) 0) c₁ c₂ s h)
    unwind (verify_authentication v xs) g = judged_same (judgement_of (is_begun s.authentication) v) c₁ c₂ s xs h
