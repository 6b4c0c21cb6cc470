-- The words about the box: what it accepts, when it refuses, and sessions that it does not tell apart.
use Rattle.std.specs.Prelude.{ℕ, ◌≤◌, Bool, List, ◌∷◌, ◌++◌, length}
use Rattle.model.specs.Sizes.{box_session, box_records}
use Rattle.model.specs.Instruction.{Command, Instruction}
use Rattle.model.specs.Refusal.{session_length, session_trailer, start_out_of_range, too_many_records, box_limits, fuse_byte, staging_bytes}
use Rattle.model.specs.Session.{start_of, count_of, wrong_length, wrong_trailer, wrong_start, wrong_count, wrong_fuses, wrong_staging, initial}
use Rattle.model.specs.Box.{beyond_box, box_run}
use Rattle.secrecy.specs.Secret.{OnCommand, StagesElsewhere}
use Rattle.properties.specs.AcceptedSession.{Accepts, Every}
use Rattle.properties.specs.Conditions.{Condition, when}
use Rattle.properties.specs.SessionConditions.{records_conditions, last_conditions}
use Rattle.properties.specs.SessionSecret.{RunAlike, RecordsAlike, EveryAlong}

-- a session within the box's two limits
pub record WithinBox (s : List ℕ) : Type 0 where
  pub short : length s ≤ box_session
  pub few : count_of s ≤ box_records

-- nothing is refused, by an exam machine or by the limits
abbrev pub BoxAccepts : List ℕ → List ℕ → List Instruction → Type 0
BoxAccepts s space ks = Accepts s space ks × WithinBox s

-- 1 to 4, 18, 5, 16, the records in turn, 9, 10
abbrev pub box_conditions : List ℕ → List ℕ → List Condition
box_conditions s space =
    when session_length (wrong_length s)
    ∷ when session_trailer (wrong_trailer s)
    ∷ when start_out_of_range (wrong_start s)
    ∷ when too_many_records (wrong_count s)
    ∷ when box_limits (beyond_box s)
    ∷ when fuse_byte (wrong_fuses s)
    ∷ when staging_bytes (wrong_staging s)
    ∷ (records_conditions (count_of s) s (start_of s) ++ last_conditions s space)

-- two sessions that the box does not tell apart: its runs, and if it accepts both their records
pub record BoxAlike (hidden : ℕ → Bool) (s₁ s₂ space : List ℕ) : Type 0 where
  pub runs : RunAlike hidden (box_run s₁ space) (box_run s₂ space)
  pub records : (ks₁ ks₂ : List Instruction) → BoxAccepts s₁ space ks₁ → BoxAccepts s₂ space ks₂ → RecordsAlike hidden ks₁ ks₂ (initial s₁) (initial s₂)

-- every record that the box runs meets a condition; and no staged write among them writes to zone z
abbrev pub EveryBoxRecord : (Command → Type 0) → List ℕ → List ℕ → Type 0
EveryBoxRecord Ok s space = (ks : List Instruction) → BoxAccepts s space ks → Every (OnCommand Ok) ks

abbrev pub EveryBoxElsewhere : ℕ → (Command → Type 0) → List ℕ → List ℕ → Type 0
EveryBoxElsewhere z Ok s space =
    (ks : List Instruction) → BoxAccepts s space ks → EveryAlong (λ c t k. OnCommand Ok k × StagesElsewhere z c t k) ks (initial s)
