-- The words of demand 3 ("Its words"), for the AT88SC1608: sealed cards, the places that are secret, cards that agree outside them,
-- what a command presents or accepts, and what it means that a list of calls does not tell two cards apart.
use Rattle.std.specs.Prelude.{ℕ, ◌+◌, ◌/◌, ◌%◌, Bool, true, false, ◌&&◌, ◌||◌, List, ◌≡◌, ltb, leb, eqb, length}
use Rattle.model.specs.Sizes.{card_size, fuse_at, flag_at}
use Rattle.model.specs.Lists.{at}
use Rattle.model.specs.Instruction.{Command, verify_password, verify_authentication, Instruction, issue, write_staged}
use Rattle.model.specs.Staging.{idle_flag, may_stage}
use Rattle.model.specs.State.{Tear, State, powered_up}
use Rattle.model.specs.Busy.{ignores}
use Rattle.model.specs.Call.{Call, powered}
use Rattle.model.specs.Apply as any
use Rattle.model.specs.At88sc1608.{at88sc1608, register_at, password_byte}
use Rattle.model.specs.Record.{decode}
use Rattle.model.specs.Single.{check, answered_kind, act, replies, final}
use Rattle.model.specs.Device.{Device, Counter, counter_place}
use Rattle.secrecy.specs.Along.{Along}

-- a card of 2,189 bytes whose PER is blown: F = 0
pub record Sealed (b : List ℕ) : Type 0 where
  pub long : length b ≡ card_size
  pub blown : at b fuse_at ≡ 0

-- a card with no write to finish
abbrev pub Idle : List ℕ → Type 0
Idle b = at b flag_at ≡ idle_flag

-- the access register of a zone
abbrev pub register : List ℕ → ℕ → ℕ
register b z = at b (register_at z)

-- the password of a selector
abbrev pub password : List ℕ → ℕ → List ℕ
password b k = any.password at88sc1608 b k

-- whether a place lies in a zone, and in the password of a selector
abbrev pub in_zone : ℕ → ℕ → Bool
in_zone z i = eqb (i / 256) z

abbrev pub in_password : ℕ → ℕ → Bool
in_password k i = eqb i (password_byte k 0) || (eqb i (password_byte k 1) || eqb i (password_byte k 2))

-- where the cards of `read_password_lem` may differ: in the zone, and in either password of set p
abbrev pub in_zone_or_passwords : ℕ → ℕ → ℕ → Bool
in_zone_or_passwords z p i = in_zone z i || (in_password p i || in_password (8 + p) i)

-- those places and the eight values that a staged write keeps
abbrev pub or_staged : (ℕ → Bool) → ℕ → Bool
or_staged hidden i = hidden i || (leb (flag_at + 4) i && ltb i card_size)

-- the cards are equally long and hold the same at every place that is not hidden
pub record AgreeOutside (hidden : ℕ → Bool) (c₁ c₂ : List ℕ) : Type 0 where
  pub long : length c₁ ≡ length c₂
  pub same : (i : ℕ) → hidden i ≡ false → at c₁ i ≡ at c₂ i

-- a command that does not present, as a password of set p, the one of that selector on either card
abbrev pub PresentsNeither : ℕ → List ℕ → List ℕ → Command → Type 0
PresentsNeither p b₁ b₂ k =
    (j : ℕ) (xs : List ℕ) → k ≡ verify_password j xs → j % 8 ≡ p → (xs ≡ password b₁ j → ⊥) × (xs ≡ password b₂ j → ⊥)

-- a command that is no acceptance
abbrev pub AcceptsNot : Command → Type 0
AcceptsNot k = (xs : List ℕ) → k ≡ verify_authentication true xs → ⊥

-- an instruction that is a command meets a condition
abbrev pub OnCommand : (Command → Type 0) → Instruction → Type 0
OnCommand Ok i = (k : Command) → i ≡ issue k → Ok k

-- a staged write that writes goes to a zone that meets a condition; to another zone than z
abbrev pub StagesIn : Device → (ℕ → Type 0) → List ℕ → State → Instruction → Type 0
StagesIn D Zone c s i =
    (a : ℕ) (xs : List ℕ) → i ≡ write_staged a xs → ignores D c s i ≡ false → may_stage D c s.volatile a ≡ true → Zone s.volatile.zone

abbrev pub StagesElsewhere : ℕ → List ℕ → State → Instruction → Type 0
StagesElsewhere z = StagesIn at88sc1608 (λ y. y ≡ z → ⊥)

-- every call of a list that is not refused, from power-up on with a tear armed or none, meets a condition, be it ignored or not
abbrev pub Throughout : (Command → Type 0) → Tear → List Call → List ℕ → Type 0
Throughout Ok tear xs b = Along check decode act answered_kind (λ c s i. OnCommand Ok i) xs (powered b (powered_up tear))

-- and no staged write of it writes to zone z
abbrev pub ThroughoutElsewhere : ℕ → (Command → Type 0) → Tear → List Call → List ℕ → Type 0
ThroughoutElsewhere z Ok tear xs b =
    Along check decode act answered_kind (λ c s i. OnCommand Ok i × StagesElsewhere z c s i) xs (powered b (powered_up tear))

-- A list of calls, from power-up on with a tear armed or none, gives back the same on both cards, call by call, and leaves equally long cards
-- with equal counters and equal bytes outside the hidden places.
pub record Indistinguishable (hidden : ℕ → Bool) (tear : Tear) (xs : List Call) (b₁ b₂ : List ℕ) : Type 0 where
  pub observed : replies xs (powered b₁ (powered_up tear)) ≡ replies xs (powered b₂ (powered_up tear))
  pub long : length (final xs (powered b₁ (powered_up tear))).card ≡ length (final xs (powered b₂ (powered_up tear))).card
  pub counters : (n : Counter) → at (final xs (powered b₁ (powered_up tear))).card (counter_place at88sc1608 n)
      ≡ at (final xs (powered b₂ (powered_up tear))).card (counter_place at88sc1608 n)
  pub outside : (i : ℕ) → hidden i ≡ false
      → at (final xs (powered b₁ (powered_up tear))).card i ≡ at (final xs (powered b₂ (powered_up tear))).card i
