-- The box ("The foyer box"): it accepts exactly what an exam machine accepts within its two limits, refuses with the first number that applies, 18
-- directly after 4, and gives the log that an exam machine gives.
use Rattle.std.specs.Prelude.{ℕ, ◌≤◌, true, List, ◌↔◌, ◌≡◌, length, take}
use Rattle.model.specs.Sizes.{box_records}
use Rattle.model.specs.Lists.{Bytes}
use Rattle.model.specs.Instruction.{Instruction}
use Rattle.model.specs.LogCheck.{fetch}
use Rattle.model.specs.Refusal.{box_limits}
use Rattle.model.specs.Session.{count_of, log_of, run}
use Rattle.model.specs.Box.{box_refuses, box_run}
use Rattle.properties.specs.AcceptedSession.{accepting}
use Rattle.properties.specs.Conditions.{first, NoneApplies}
use Rattle.properties.specs.ConditionsLaws.{zero_iff}
use Rattle.properties.specs.BoxConditions.{WithinBox, BoxAccepts, box_conditions}
use Rattle.properties.proofs.BoxLaws as laws

module _ (s space : List ℕ) where
  -- the refusal is the first that applies, in the box's order; 0 where none does
  pub box_refusal_is : (box_run s space).refusal ≡ first (box_conditions s space) 0
  box_refusal_is = laws.box_first s space

  pub box_unrefused_iff : ((box_run s space).refusal ≡ 0) ↔ NoneApplies (box_conditions s space)
  box_unrefused_iff = zero_iff (box_conditions s space) (laws.box_numbered s space) _ box_refusal_is

  -- the box accepts a session exactly when an exam machine does and it is within the limits
  pub box_accepted_iff : ((box_run s space).refusal ≡ 0) ↔ (((run s space).refusal ≡ 0) × WithinBox s)
  box_accepted_iff = laws.accepted_iff s space

  -- 18 is given exactly where none of 1 to 4 applies and a limit is exceeded
  pub limits_iff : ((box_run s space).refusal ≡ box_limits) ↔ (box_refuses s ≡ true)
  limits_iff = laws.limits_iff s space

  -- an accepted session gives the same on an exam machine with the same log space: the same length, the same whole space
  pub same_run : (box_run s space).refusal ≡ 0 → run s space ≡ box_run s space
  same_run = laws.accepted_same s space

  -- it has instructions, and leaves their log at the front of the log space, whose other bytes are kept
  pub accepted_box_run : (box_run s space).refusal ≡ 0 → (ks : List Instruction) × BoxAccepts s space ks
  accepted_box_run = laws.accepted_instructions s space

  pub box_run_accepted : (ks : List Instruction) → BoxAccepts s space ks → box_run s space ≡ accepting (log_of s ks) space
  box_run_accepted = laws.accepted_log s space

-- on an exam machine with as much log space, whatever stands in it, the log is the same
pub same_log : (s space₁ space₂ : List ℕ) → (box_run s space₁).refusal ≡ 0 → length space₁ ≡ length space₂
    → ((run s space₂).refusal ≡ 0) × ((run s space₂).size ≡ (box_run s space₁).size)
    × (take (run s space₂).size (run s space₂).space ≡ take (box_run s space₁).size (box_run s space₁).space)
same_log = laws.same_log

-- an answer fetched from the log of a session of bytes that the box accepts: as many headers are read as the session has records, 64 at most
pub box_headers : (s space : List ℕ) → Bytes s → (box_run s space).refusal ≡ 0 → (k : ℕ)
    → (let headers = (fetch (take (box_run s space).size (box_run s space).space) k).headers in (headers ≡ count_of s) × (headers ≤ box_records))
box_headers = laws.few_headers
