-- What a command can do, for any device, told once over all eleven kinds: which bytes of the card it may change and why, how the
-- volatile state may move, how long the answer is, and what it hands out of a counter.
use Rattle.std.specs.Prelude.{ℕ, suc, ◌<◌, Bool, cond, List, [], ◌∷◌, ◌≡◌, set}
use Rattle.std.proofs.Math.Bool.{true, false}
use Rattle.std.proofs.Math.Path.{refl}
use Rattle.std.proofs.Common.{sym, ap, ◌∙◌, eqb-true, get_or-set_same}
use Rattle.std.proofs.Math.Dec.{eqb}
use Rattle.std.proofs.Math.ListN.{length}
use Rattle.model.specs.Lists.{at, same_list, stores}
use Rattle.laws.specs.ListLaws.{length_tab}
use Rattle.model.specs.Volatile.{Volatile, none, selector, idle, begun, granted, is_begun, selecting, activating, authenticating}
use Rattle.model.specs.Instruction.{Command, reset, select, read_zone, write_zone, read_configuration, write_configuration, read_fuses, write_fuses, verify_password}
use Rattle.model.specs.Instruction.{begin_authentication, verify_authentication}
use Rattle.model.specs.Device.{Device, Counter, of_password, of_authentication, counter_place}
use Rattle.model.specs.Apply.{full_counter, attempt_of, judgement_of, rules, kept, password, presented, started, judged, apply}

-- the bytes that a command carries
abbrev pub carried : Command → List ℕ
carried reset = []
carried (select z) = []
carried (read_zone a n) = []
carried (write_zone a xs) = xs
carried (read_configuration a n) = []
carried (write_configuration a xs) = xs
carried read_fuses = []
carried write_fuses = []
carried (verify_password k xs) = xs
carried begin_authentication = []
carried (verify_authentication v xs) = xs

-- how long a command's answer is
abbrev pub answer_length : Device → Command → ℕ
answer_length D reset = D.reset_count
answer_length D (select z) = 0
answer_length D (read_zone a n) = n
answer_length D (write_zone a xs) = 0
answer_length D (read_configuration a n) = n
answer_length D (write_configuration a xs) = 0
answer_length D read_fuses = 1
answer_length D write_fuses = 0
answer_length D (verify_password k xs) = 0
answer_length D begin_authentication = 0
answer_length D (verify_authentication v xs) = 0

-- the tries left, on a card, of the counter that a command uses: kinds 10 and 11 use one; for every other kind 0
abbrev pub tries_after : Device → Command → List ℕ → ℕ
tries_after D reset c = 0
tries_after D (select z) c = 0
tries_after D (read_zone a n) c = 0
tries_after D (write_zone a xs) c = 0
tries_after D (read_configuration a n) c = 0
tries_after D (write_configuration a xs) c = 0
tries_after D read_fuses c = 0
tries_after D write_fuses c = 0
tries_after D (verify_password k xs) c = D.tries (at c (D.counter_at k))
tries_after D begin_authentication c = D.tries (at c D.attempts_at)
tries_after D (verify_authentication v xs) c = 0

-- Why place i of a card d comes to hold v: a write of the j-th byte carried, judged by the rule bytes ρ and the state s; a
-- counter filled or spent; a byte of the cryptogram replaced; a fuse blown.
pub data Change (D : Device) (ρ : List ℕ) (s : Volatile) (xs : List ℕ) (d : List ℕ) : ℕ → ℕ → Type 0 where
  writes : (i j : ℕ) → Change D ρ s xs d i (kept D ρ s i (at d i) (at xs j))
  fills : (n : Counter) → Change D ρ s xs d (counter_place D n) full_counter
  spends : (n : Counter) → Change D ρ s xs d (counter_place D n) (D.spend (at d (counter_place D n)))
  renews : (k j : ℕ) → Change D ρ s xs d (D.cryptogram_cell k) (at xs j)
  blows : Change D ρ s xs d D.fuse_at (D.blow (at d D.fuse_at))

-- How a command moves the state. A password becomes active only if it was presented rightly, authentication is granted only by
-- verdict 1 where it was begun.
pub data Move (D : Device) (c : List ℕ) (s : Volatile) : Command → Volatile → Type 0 where
  stays : {k : Command} → Move D c s k s
  resets : Move D c s reset (authenticating (activating s none) idle)
  selects : {z : ℕ} → Move D c s (select z) (selecting s z)
  opens : {j : ℕ} {xs : List ℕ} → same_list xs (password D c j) ≡ true → Move D c s (verify_password j xs) (activating s (selector j))
  closes : {j : ℕ} {xs : List ℕ} → Move D c s (verify_password j xs) (activating s none)
  begins : Move D c s begin_authentication (authenticating s begun)
  grants : {xs : List ℕ} → is_begun s.authentication ≡ true → Move D c s (verify_authentication true xs) (authenticating s granted)
  denies : {xs : List ℕ} → Move D c s (verify_authentication false xs) (authenticating s idle)

-- what every store keeps, stores keep
stores_keep : (Inv : List ℕ → Type 0) (rule : ℕ → ℕ → ℕ → ℕ) (cell : ℕ → ℕ) (xs : List ℕ)
    → ((d : List ℕ) (k j : ℕ) → Inv d → Inv (set d (cell k) (rule (cell k) (at d (cell k)) (at xs j))))
    → (k : ℕ) (d : List ℕ) → Inv d → Inv (stores rule cell xs k d)
unfolding stores
stores_keep Inv rule cell [] h k d p = p
stores_keep Inv rule cell (x ∷ xs) h k d p =
    stores_keep Inv rule cell xs (λ e m j. h e m (suc j)) (suc k) (set d (cell k) (rule (cell k) (at d (cell k)) x)) (h d k 0 p)

module _ (D : Device) where
  pub answer_length_lem : (c : List ℕ) (s : Volatile) (k : Command) → length (apply D c s k).report.answer ≡ answer_length D k
  unfolding apply
  answer_length_lem c s reset = length_tab _ _
  answer_length_lem c s (select z) = refl
  answer_length_lem c s (read_zone a n) = length_tab _ n
  answer_length_lem c s (write_zone a xs) = refl
  answer_length_lem c s (read_configuration a n) = length_tab _ n
  answer_length_lem c s (write_configuration a xs) = refl
  answer_length_lem c s read_fuses = refl
  answer_length_lem c s write_fuses = refl
  answer_length_lem c s (verify_password k xs) = go (eqb (at c (D.counter_at k)) 0) (same_list xs (password D c k))
    where
      go : (l r : Bool) → length (presented D (attempt_of l r) c s k).report.answer ≡ 0
      go true r = refl
      go false true = refl
      go false false = refl
  answer_length_lem c s begin_authentication = go (eqb (at c D.attempts_at) 0)
    where
      go : (l : Bool) → length (started D l c s).report.answer ≡ 0
      go true = refl
      go false = refl
  answer_length_lem c s (verify_authentication v xs) = go (is_begun s.authentication) v
    where
      go : (b v : Bool) → length (judged D (judgement_of b v) c s xs).report.answer ≡ 0
      go false v = refl
      go true true = refl
      go true false = refl

  -- what a counter that is used up leaves, and one that was set
  used_left : (c : List ℕ) (i : ℕ) → D.tries 0 ≡ 0 → eqb (at c i) 0 ≡ true → 0 ≡ D.tries (at c i)
  used_left c i z e = sym (ap D.tries (eqb-true _ _ e) ∙ z)

  set_left : (c : List ℕ) (i v : ℕ) → i < length c → D.tries v ≡ D.tries (at (set c i v) i)
  set_left c i v h = ap D.tries (sym (get_or-set_same c i v 0 h))

  -- where a counter of 0 leaves none and the card has its counters, they are those of the card that the command leaves
  pub hands_out : D.tries 0 ≡ 0 → (c : List ℕ) (s : Volatile) (k : Command) → ((n : Counter) → counter_place D n < length c)
      → (apply D c s k).report.tries ≡ tries_after D k (apply D c s k).card
  unfolding apply
  hands_out z c s reset h = refl
  hands_out z c s (select n) h = refl
  hands_out z c s (read_zone a n) h = refl
  hands_out z c s (write_zone a xs) h = refl
  hands_out z c s (read_configuration a n) h = refl
  hands_out z c s (write_configuration a xs) h = refl
  hands_out z c s read_fuses h = refl
  hands_out z c s write_fuses h = refl
  hands_out z c s (verify_password k xs) h = go (eqb (at c (D.counter_at k)) 0) (same_list xs (password D c k)) refl
    where
      go : (l r : Bool) → eqb (at c (D.counter_at k)) 0 ≡ l
          → (presented D (attempt_of l r) c s k).report.tries ≡ D.tries (at (presented D (attempt_of l r) c s k).card (D.counter_at k))
      go true r e = used_left c (D.counter_at k) z e
      go false true e = set_left c (D.counter_at k) full_counter (h (of_password k))
      go false false e = set_left c (D.counter_at k) _ (h (of_password k))
  hands_out z c s begin_authentication h = go (eqb (at c D.attempts_at) 0) refl
    where
      go : (l : Bool) → eqb (at c D.attempts_at) 0 ≡ l → (started D l c s).report.tries ≡ D.tries (at (started D l c s).card D.attempts_at)
      go true e = used_left c D.attempts_at z e
      go false e = set_left c D.attempts_at _ (h of_authentication)
  hands_out z c s (verify_authentication v xs) h = go (is_begun s.authentication) v
    where
      go : (b v : Bool) → (judged D (judgement_of b v) c s xs).report.tries ≡ 0
      go false v = refl
      go true true = refl
      go true false = refl

  -- a command changes a card by such changes alone: what each of them keeps, the command keeps
  module _ (Inv : List ℕ → Type 0) (c : List ℕ) (s : Volatile) where
    pub changes : (k : Command) → ((d : List ℕ) (i v : ℕ) → Inv d → Change D (rules D c) s (carried k) d i v → Inv (set d i v))
        → Inv c → Inv (apply D c s k).card
    unfolding apply
    changes reset h p = p
    changes (select z) h p = p
    changes (read_zone a n) h p = p
    changes (write_zone a xs) h p = stores_keep Inv _ _ xs (λ d k j q. h d _ _ q (writes _ j)) 0 c p
    changes (read_configuration a n) h p = p
    changes (write_configuration a xs) h p = stores_keep Inv _ _ xs (λ d k j q. h d _ _ q (writes _ j)) 0 c p
    changes read_fuses h p = p
    changes write_fuses h p = go (D.may_blow s)
      where
        go : (t : Bool) → Inv (cond t (set c D.fuse_at (D.blow (at c D.fuse_at))) c)
        go true = h c _ _ p blows
        go false = p
    changes (verify_password k xs) h p = go (eqb (at c (D.counter_at k)) 0) (same_list xs (password D c k))
      where
        go : (l r : Bool) → Inv (presented D (attempt_of l r) c s k).card
        go true r = p
        go false true = h c _ _ p (fills (of_password k))
        go false false = h c _ _ p (spends (of_password k))
    changes begin_authentication h p = go (eqb (at c D.attempts_at) 0)
      where
        go : (l : Bool) → Inv (started D l c s).card
        go true = p
        go false = h c _ _ p (spends of_authentication)
    changes (verify_authentication v xs) h p = go (is_begun s.authentication) v
      where
        go : (b v : Bool) → Inv (judged D (judgement_of b v) c s xs).card
        go false v = p
        go true true = h _ _ _ (stores_keep Inv (λ i old new. new) D.cryptogram_cell xs (λ d k j q. h d _ _ q (renews k j)) 0 c p) (fills of_authentication)
        go true false = p

  pub moves : (c : List ℕ) (s : Volatile) (k : Command) → Move D c s k (apply D c s k).report.state
  unfolding apply
  moves c s reset = resets
  moves c s (select z) = selects
  moves c s (read_zone a n) = stays
  moves c s (write_zone a xs) = stays
  moves c s (read_configuration a n) = stays
  moves c s (write_configuration a xs) = stays
  moves c s read_fuses = stays
  moves c s write_fuses = stays
  moves c s (verify_password k xs) = go (eqb (at c (D.counter_at k)) 0) (same_list xs (password D c k)) refl
    where
      go : (l r : Bool) → same_list xs (password D c k) ≡ r → Move D c s (verify_password k xs) (presented D (attempt_of l r) c s k).report.state
      go true r e = stays
      go false true e = opens e
      go false false e = closes
  moves c s begin_authentication = go (eqb (at c D.attempts_at) 0)
    where
      go : (l : Bool) → Move D c s begin_authentication (started D l c s).report.state
      go true = stays
      go false = begins
  moves c s (verify_authentication v xs) = go (is_begun s.authentication) v refl
    where
      go : (b v : Bool) → is_begun s.authentication ≡ b → Move D c s (verify_authentication v xs) (judged D (judgement_of b v) c s xs).report.state
      go false v e = stays
      go true true e = grants e
      go true false e = denies
