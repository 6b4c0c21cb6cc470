-- Two cards under one list of calls, over any state, command type and act. From a relation between two cards at a common state
-- that every act keeps and under which it reports the same: the same is given back along every list.
use Rattle.std.specs.Prelude.{ℕ, cond, ◌≡◌, refl, ltb, length}
use mathlib.Core.List.{List, [], ◌∷◌}
use Rattle.std.proofs.Math.Path.{subst}
use Rattle.model.specs.Refusal.{no_space}
use Rattle.model.specs.Call.{Acted, Powered, Decoded, refused, whole, Call, Called}
use Rattle.model.specs.Call.{checked, exact, fitting, replying, admission, admit, carried, command, step, replies, final}
use Rattle.secrecy.specs.Along.{Along}

-- two cards, each with its state: the states are equal and the cards related
abbrev pub Twin : {S : Type 0} → (List ℕ → List ℕ → S → Type 0) → Powered S → Powered S → Type 0
Twin R m n = (m.state ≡ n.state) × R m.card n.card m.state

module _ {S K : Type 0} (check : List ℕ → S → ℕ) (decode : List ℕ → Decoded K) (act : List ℕ → S → K → Acted S)
    (kind : List ℕ → S → K → ℕ) where
  -- what a call whose admission is known leaves
  abbrev does : List ℕ → S → Call → Decoded K → Called S
  does c s x d = carried check decode act kind c s x.space d

  module _
      (R : List ℕ → List ℕ → S → Type 0)
      (Ok : List ℕ → S → K → Type 0)
      (checks : (c₁ c₂ : List ℕ) (s : S) → R c₁ c₂ s → check c₁ s ≡ check c₂ s)
      (sizes : (c₁ c₂ : List ℕ) (s : S) (k : K) → R c₁ c₂ s → length (act c₁ s k).report.answer ≡ length (act c₂ s k).report.answer)
      (kinds : (c₁ c₂ : List ℕ) (s : S) (k : K) → R c₁ c₂ s → kind c₁ s k ≡ kind c₂ s k)
      (unwinds : (c₁ c₂ : List ℕ) (s : S) (k : K) → R c₁ c₂ s → Ok c₁ s k
      → ((act c₁ s k).report ≡ (act c₂ s k).report) × R (act c₁ s k).card (act c₂ s k).card (act c₁ s k).report.state) where
    -- a call is refused, or carried out, on both cards alike
    fitting_same : (c₁ c₂ : List ℕ) (s : S) (room : ℕ) (d : Decoded K) → R c₁ c₂ s
        → fitting check decode act c₁ s room d ≡ fitting check decode act c₂ s room d
    fitting_same c₁ c₂ s room (refused n) r = refl
    fitting_same c₁ c₂ s room (whole k n) r = λ i. cond (ltb room (sizes c₁ c₂ s k r i)) (refused no_space) (whole k n)

    pub admit_same : (c₁ c₂ : List ℕ) (s : S) (x : Call) → R c₁ c₂ s → admit check decode act c₁ s x ≡ admit check decode act c₂ s x
    unfolding admission
    admit_same c₁ c₂ s x r =
        λ i. checked (checks c₁ c₂ s r i) (fitting_same c₁ c₂ s (length x.space) (exact x.sent (decode x.sent)) r i)

    -- two calls that give back the same and leave related cards
    abbrev Alike : Called S → Called S → Type 0
    Alike u v = (u.reply ≡ v.reply) × R u.card v.card u.reply.state

    does_same : (c₁ c₂ : List ℕ) (s : S) (x : Call) (d : Decoded K) → R c₁ c₂ s → ((k : K) (n : ℕ) → d ≡ whole k n → Ok c₁ s k)
        → Alike (does c₁ s x d) (does c₂ s x d)
    does_same c₁ c₂ s x (refused n) r ok = (refl, r)
    does_same c₁ c₂ s x (whole k n) r ok =
        let u = unwinds c₁ c₂ s k r (ok k n refl) in
        (λ i. replying (kinds c₁ c₂ s k r i) x.space (u.0 i), u.1)

    pub call_same : (c₁ c₂ : List ℕ) (s : S) (x : Call) → R c₁ c₂ s
        → ((k : K) (n : ℕ) → admit check decode act c₁ s x ≡ whole k n → Ok c₁ s k)
        → Alike (command check decode act kind c₁ s x) (command check decode act kind c₂ s x)
    unfolding command
    call_same c₁ c₂ s x r ok =
        subst (λ (d : Decoded K). Alike (does c₁ s x (admit check decode act c₁ s x)) (does c₂ s x d)) (admit_same c₁ c₂ s x r)
        (does_same c₁ c₂ s x (admit check decode act c₁ s x) r ok)

    pub step_same : (m n : Powered S) (x : Call) → Twin R m n
        → ((k : K) (i : ℕ) → admit check decode act m.card m.state x ≡ whole k i → Ok m.card m.state k)
        → ((command check decode act kind m.card m.state x).reply ≡ (command check decode act kind n.card n.state x).reply)
        × Twin R (step check decode act kind m x) (step check decode act kind n x)
    step_same m n x t ok =
        let u : Alike (command check decode act kind m.card m.state x) (command check decode act kind n.card n.state x) =
        subst (λ (s : S). Alike (command check decode act kind m.card m.state x) (command check decode act kind n.card s x)) t.0
        (call_same m.card n.card m.state x t.1 ok)
        in (u.0, (λ i. (u.0 i).state, u.1))

    pub list_same : (xs : List Call) (m n : Powered S) → Twin R m n → Along check decode act kind Ok xs m
        → (replies check decode act kind xs m ≡ replies check decode act kind xs n)
        × Twin R (final check decode act kind xs m) (final check decode act kind xs n)
    unfolding Along replies final
    list_same [] m n t a = (refl, t)
    list_same (x ∷ xs) m n t a =
        let u = step_same m n x t a.0 in
        let v = list_same xs (step check decode act kind m x) (step check decode act kind n x) u.1 a.1 in
        (λ i. u.0 i ∷ v.0 i, v.1)
