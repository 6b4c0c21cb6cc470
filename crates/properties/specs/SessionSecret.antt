-- The words of demand 3 said of sessions: what is hidden in a log, runs and records that are not told apart, and a condition on every
-- record.
use Rattle.std.specs.Prelude.{ℕ, ◌-◌, Bool, ◌&&◌, List, [], ◌∷◌, ◌≡◌, leb}
use Rattle.model.specs.Sizes.{least_log}
use Rattle.model.specs.Lists.{at}
use Rattle.model.specs.State.{State}
use Rattle.model.specs.Instruction.{Command, Instruction}
use Rattle.model.specs.Device.{Counter, counter_place}
use Rattle.model.specs.At88sc1608.{at88sc1608}
use Rattle.model.specs.Call.{Powered}
use Rattle.model.specs.Single.{act}
use Rattle.model.specs.LogCheck.{find, fetch, answer_in}
use Rattle.model.specs.Session.{after, entries_of, end_of, initial, log_of, Ran, run}
use Rattle.secrecy.specs.Secret.{AgreeOutside, OnCommand, StagesElsewhere}
use Rattle.properties.specs.AcceptedSession.{Accepts, Every}

-- the places of a log of n bytes that are hidden places of its final card; none where there is no log
abbrev pub in_final_card : (ℕ → Bool) → ℕ → ℕ → Bool
in_final_card hidden n i = leb least_log n && (leb (n - least_log) i && hidden (i - (n - least_log)))

-- two runs that are not told apart: the same refusal or none, equally long logs, and log spaces that agree outside those places
pub record RunAlike (hidden : ℕ → Bool) (r₁ r₂ : Ran) : Type 0 where
  pub refusal : r₁.refusal ≡ r₂.refusal
  pub size : r₁.size ≡ r₂.size
  pub outside : AgreeOutside (in_final_card hidden r₁.size) r₁.space r₂.space

-- the tries that each instruction of a list hands out, from a card and a state on
abbrev pub tries_in : List Instruction → Powered State → List ℕ
tries_in [] m = []
tries_in (k ∷ ks) m = (act m.card m.state k).report.tries ∷ tries_in ks (after m k)

-- the state that each leaves, its busy time among it
abbrev pub states_in : List Instruction → Powered State → List State
states_in [] m = []
states_in (k ∷ ks) m = (after m k).state ∷ states_in ks (after m k)

-- two lists of instructions that are not told apart: each logs the same, its zone among it, hands out the same and leaves the same
-- state, so both cards are busy at the same moments; and the cards left have equal counters and agree
pub record RecordsAlike (hidden : ℕ → Bool) (ks₁ ks₂ : List Instruction) (m₁ m₂ : Powered State) : Type 0 where
  pub entries : entries_of ks₁ m₁ ≡ entries_of ks₂ m₂
  pub tries : tries_in ks₁ m₁ ≡ tries_in ks₂ m₂
  pub states : states_in ks₁ m₁ ≡ states_in ks₂ m₂
  pub counters : (n : Counter) → at (end_of ks₁ m₁).card (counter_place at88sc1608 n) ≡ at (end_of ks₂ m₂).card (counter_place at88sc1608 n)
  pub cards : AgreeOutside hidden (end_of ks₁ m₁).card (end_of ks₂ m₂).card

-- two sessions that are not told apart: their runs, and if both are accepted their records
pub record SessionsAlike (hidden : ℕ → Bool) (s₁ s₂ space : List ℕ) : Type 0 where
  pub runs : RunAlike hidden (run s₁ space) (run s₂ space)
  pub records : (ks₁ ks₂ : List Instruction) → Accepts s₁ space ks₁ → Accepts s₂ space ks₂ → RecordsAlike hidden ks₁ ks₂ (initial s₁) (initial s₂)

-- two sessions whose logs, if both are accepted, are not told apart by any answer: what is found, the headers that were read for it, its bytes
abbrev pub AnswersAlike : List ℕ → List ℕ → List ℕ → Type 0
AnswersAlike s₁ s₂ space =
    (ks₁ ks₂ : List Instruction) → Accepts s₁ space ks₁ → Accepts s₂ space ks₂ → (k : ℕ)
    → (fetch (log_of s₁ ks₁) k ≡ fetch (log_of s₂ ks₂) k)
    × (answer_in (log_of s₁ ks₁) (find (log_of s₁ ks₁) k) ≡ answer_in (log_of s₂ ks₂) (find (log_of s₂ ks₂) k))

-- every instruction of a list meets a condition on the card and the state that it meets, and itself
abbrev pub EveryAlong : (List ℕ → State → Instruction → Type 0) → List Instruction → Powered State → Type 0
EveryAlong Ok [] m = Unit {0}
EveryAlong Ok (k ∷ ks) m = Ok m.card m.state k × EveryAlong Ok ks (after m k)

-- every record that a session runs meets a condition
abbrev pub EveryRecord : (Command → Type 0) → List ℕ → List ℕ → Type 0
EveryRecord Ok s space = (ks : List Instruction) → Accepts s space ks → Every (OnCommand Ok) ks

-- and no staged write among them writes to zone z
abbrev pub EveryElsewhere : ℕ → (Command → Type 0) → List ℕ → List ℕ → Type 0
EveryElsewhere z Ok s space =
    (ks : List Instruction) → Accepts s space ks → EveryAlong (λ c t k. OnCommand Ok k × StagesElsewhere z c t k) ks (initial s)
