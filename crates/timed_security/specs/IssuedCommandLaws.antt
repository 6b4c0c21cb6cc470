-- What a command leaves, from what it reported and whether it made the card busy.
use Rattle.std.specs.Prelude.{ℕ, Bool, cond, not, ◌&&◌, List, [], ◌≡◌, eqb}
use Rattle.std.proofs.Common.{ap, ◌∙◌}
use Rattle.model.specs.Sizes.{fuse_at}
use Rattle.model.specs.Lists.{at}
use Rattle.model.specs.Volatile.{Volatile, is_active}
use Rattle.model.specs.Instruction.{Command, write_fuses}
use Rattle.model.specs.At88sc1608.{at88sc1608, counter_at}
use Rattle.model.specs.State.{State, timed, write_time}
use Rattle.model.specs.Busy.{makes_busy}
use Rattle.model.specs.Single.{apply}
use Rattle.timed_security.specs.IssuedCommand.{Issued}

-- what a command leaves, from the state and the tries that were handed on, and whether it made the card busy
module _ (c : List ℕ) (s : State) (k : Command) (c' : List ℕ) (v' : Volatile) (s' : State) (n tries : ℕ) (b : Bool)
    (times : s' ≡ timed s v' (cond b write_time 0)) (hands : tries ≡ n) (busy : b ≡ makes_busy at88sc1608 c s.volatile k) where
  pub without_tries : n ≡ (apply c s.volatile k).report.tries → c' ≡ (apply c s.volatile k).card → v' ≡ (apply c s.volatile k).report.state
      → Issued c s k c' s' tries
  without_tries used card state =
      record { card = card; state = times ∙ (λ i. timed s (state i) (cond (busy i) write_time 0)); handed = hands ∙ used }

  pub with_tries : record { state = v'; answer = []; tries = n } ≡ (apply c s.volatile k).report → c' ≡ (apply c s.volatile k).card
      → Issued c s k c' s' tries
  with_tries q card = without_tries (λ i. (q i).tries) card (λ i. (q i).state)

-- a counter that is read where it lies
pub counter_left : (c : List ℕ) (k i : ℕ) → i ≡ counter_at k → not (eqb (at c i) 0) ≡ not (eqb (at c (counter_at k)) 0)
counter_left c k i e = ap (λ (j : ℕ). not (eqb (at c j) 0)) e

-- a fuse that is left for whom it is allowed
pub fuse_left : (c : List ℕ) (v : Volatile) (t u : Bool) → t ≡ is_active v.active 7 → u ≡ (t && not (eqb (at c fuse_at) 0))
    → u ≡ makes_busy at88sc1608 c v write_fuses
fuse_left c v t u p q = q ∙ ap (λ (b : Bool). b && not (eqb (at c fuse_at) 0)) p
