-- A condition along a list of calls, over any volatile state, command type and act ("Demand 3 speaks of lists of such calls").
use Rattle.std.specs.Prelude.{ℕ, ◌≡◌}
use mathlib.Core.List.{List, [], ◌∷◌}
use Rattle.laws.specs.CallLaws.{Admitted, admitted}
use Rattle.model.specs.Call.{Acted, Powered, Decoded, whole, Call, admit, step}

module _ {S K : Type 0} (check : List ℕ → S → ℕ) (decode : List ℕ → Decoded K) (act : List ℕ → S → K → Acted S)
    (kind : List ℕ → S → K → ℕ) where
  -- Every command that is carried out meets a condition on the card, the state and itself, as the calls before it left them.
  -- A call that is refused carries out none.
  unfoldable pub Along : (List ℕ → S → K → Type 0) → List Call → Powered S → Type 0
  Along Ok [] m = Unit {0}
  Along Ok (x ∷ xs) m =
      ((k : K) (n : ℕ) → admit check decode act m.card m.state x ≡ whole k n → Ok m.card m.state k)
      × Along Ok xs (step check decode act kind m x)

  -- what follows from a condition wherever a call is carried out
  pub along_admitted : (Ok Also : List ℕ → S → K → Type 0)
      → ((c : List ℕ) (s : S) (x : Call) (k : K) (n : ℕ) → Admitted check decode act c s x k n → Ok c s k → Also c s k)
      → (xs : List Call) (m : Powered S) → Along Ok xs m → Along Also xs m
  unfolding Along
  along_admitted Ok Also h [] m a = tt
  along_admitted Ok Also h (x ∷ xs) m a = (
    (λ k n e. h m.card m.state x k n (admitted check decode act m.card m.state x k n e) (a.0 k n e)),
    along_admitted Ok Also h xs (step check decode act kind m x) a.1,
  )
