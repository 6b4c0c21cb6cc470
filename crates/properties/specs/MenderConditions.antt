-- The words about mending: what it is to parse, the smallest start, when the mender refuses, and sessions that pass but for the log space.
use Rattle.std.specs.Prelude.{ℕ, ◌≤◌, ◌<◌, Bool, true, false, List, [], ◌∷◌, ◌≡◌, ltb, length}
use Rattle.model.specs.Sizes.{card_size, most_records}
use Rattle.model.specs.Instruction.{Instruction}
use Rattle.model.specs.Reader.{records_end}
use Rattle.model.specs.Refusal.{session_length, fuse_byte, staging_bytes, no_start, no_space}
use Rattle.model.specs.Session.{wrong_length, wrong_fuses, wrong_staging, all, read_from, run}
use Rattle.model.specs.Mender.{Search, nowhere, found, smallest_start, Mended}
use Rattle.secrecy.specs.Secret.{AgreeOutside}
use Rattle.properties.specs.Conditions.{Condition, when, first}
use Rattle.properties.specs.SessionConditions.{log_length}

-- from a place on the bytes before the trailer are exactly k records, 1 to 4,096, as the session reader reads them
pub record Parses (s : List ℕ) (i k : ℕ) : Type 0 where
  pub some : 1 ≤ k
  pub few : k ≤ most_records
  pub instructions : List Instruction
  pub reads : read_from k s i ≡ all instructions (records_end (length s))

-- no start below a place parses, whatever the count
abbrev pub NoneBelow : List ℕ → ℕ → Type 0
NoneBelow s i = (j k : ℕ) → card_size ≤ j → j < i → Parses s j k → ⊥

-- the smallest start, with its count
pub record Smallest (s : List ℕ) (i k : ℕ) : Type 0 where
  pub low : card_size ≤ i
  pub parses : Parses s i k
  pub least : NoneBelow s i

-- no start parses
abbrev pub NoStart : List ℕ → Type 0
NoStart s = (i k : ℕ) → card_size ≤ i → Parses s i k → ⊥

-- 1, 5, 16, 17
abbrev pub is_nowhere : Search → Bool
is_nowhere nowhere = true
is_nowhere (found i k) = false

abbrev pub mend_conditions : List ℕ → List Condition
mend_conditions s =
    when session_length (wrong_length s)
    ∷ when fuse_byte (wrong_fuses s)
    ∷ when staging_bytes (wrong_staging s)
    ∷ when no_start (is_nowhere (smallest_start s))
    ∷ []

-- whatever the log space, no number but 10 refuses a session, and 10 only where a log with every record answered in full has no room
abbrev pub Passes : List ℕ → Type 0
Passes s = (log : List ℕ) → (run s log).refusal ≡ first (when no_space (ltb (length log) (log_length s)) ∷ []) 0

-- the same refusal, start and count
pub record SameMending (r₁ r₂ : Mended) : Type 0 where
  pub refusal : r₁.refusal ≡ r₂.refusal
  pub start : r₁.start ≡ r₂.start
  pub count : r₁.count ≡ r₂.count

-- and sessions that agree outside hidden places
pub record MendedAlike (hidden : ℕ → Bool) (r₁ r₂ : Mended) : Type 0 where
  pub numbers : SameMending r₁ r₂
  pub sessions : AgreeOutside hidden r₁.session r₂.session
