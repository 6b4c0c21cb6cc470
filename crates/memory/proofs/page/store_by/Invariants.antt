-- What is still to be stored gives what all of it gives.
use Rattle.std.specs.Prelude.{ℕ, ◌+◌, ◌%◌, ◌<◌, ◌≡◌, drop}
use Rattle.model.specs.Lists.{stores}
use Rattle.memory.proofs.page.store_by.Given as goal

abbrev pub invariant-loop-i : goal.invariant-loop-i
invariant-loop-i g l =
    (rule : ℕ → ℕ → ℕ → ℕ) → ((i old new r : ℕ) → i < 16 → old < 256 → new < 256 → goal.F-post g l.rule i old new r → r ≡ rule i old new)
    → stores rule (λ k. (l.low + k) % 16) (drop l.i l.bytes) l.i l.page ≡ stores rule (λ k. (l.low + k) % 16) l.bytes 0 l.initial.page
