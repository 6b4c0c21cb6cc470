-- Staged writes that are torn ("Writes that survive a pulled card"), computed on whole cards.
use Rattle.std.specs.Prelude.{ℕ, zero, suc, ◌+◌, true, false, cond, List, [], ◌∷◌, ◌++◌, map, ◌≡◌, refl, set, take, drop, replicate}
use Rattle.model.specs.Sizes.{flag_at}
use Rattle.model.specs.Volatile.{power_up}
use Rattle.model.specs.Instruction.{Instruction, power_cycle, issue, wait, poll, write_staged, arm, reset, select, read_zone, write_zone, read_fuses}
use Rattle.model.specs.State.{Tear, untorn, tear_after, State, make_state, powered_up, power_lost}
use Rattle.model.specs.Call.{Powered, powered}
use Rattle.model.specs.At88sc1608.{register_at}
use Rattle.model.specs.Session.{after}
use Rattle.model.specs.Single.{check, answered_kind}
use Rattle.tables.specs.Trials.{blank}
use Rattle.tables.specs.Computed.{computed}

-- two bytes for the last place of a page, so that the second goes to the first one
abbrev write : Instruction
write = write_staged 0x1F (0xA1 ∷ 0xA2 ∷ [])

-- that page of a card; its flag; the flag with all that is staged
abbrev page : Powered State → List ℕ
page m = take 16 (drop 0x10 m.card)

abbrev flag : Powered State → List ℕ
flag m = take 1 (drop flag_at m.card)

abbrev staging : Powered State → List ℕ
staging m = take 6 (drop flag_at m.card)

abbrev old : List ℕ
old = replicate 16 0xFF

abbrev new : List ℕ
new = 0xA2 ∷ (replicate 14 0xFF ++ (0xA1 ∷ []))

-- the state: the busy time, whether it is off, what is armed
abbrev told : State → List ℕ
told s = s.busy ∷ cond s.off 1 0 ∷ armed s.tear
  where
    armed : Tear → List ℕ
    armed untorn = []
    armed (tear_after k junk) = k ∷ junk ∷ []

-- a blank card at power-up with a tear armed
abbrev begun : ℕ → ℕ → Powered State
begun junk k = powered (blank 7) (powered_up (tear_after k junk))

-- f n, f (n + 1), .., m of them
abbrev from : {A : Type 0} → (ℕ → A) → ℕ → ℕ → List A
from f n zero = []
from f n (suc m) = f n ∷ from f (suc n) m

-- ---- torn at each of its nine cells, and finished by a power cycle: as it was, up to the flag; then all written. At the flag the junk's bit 0
-- decides: 1 is idle.

pub torn_odd : from (λ k. page (after (after (begun 0x5B k) write) power_cycle)) 0 9 ≡ replicate 6 old ++ replicate 3 new
unfolding computed
torn_odd = refl

pub torn_even : from (λ k. page (after (after (begun 0x5A k) write) power_cycle)) 0 9 ≡ replicate 5 old ++ replicate 4 new
unfolding computed
torn_even = refl

-- ---- torn again in the finishing, of three cells, and finished; the card is one on which the tear came at the flag's last write

abbrev staged : List ℕ
staged = 0xFE ∷ 0 ∷ 0x1F ∷ 2 ∷ 0xA1 ∷ 0xA2 ∷ replicate 6 0xFF

abbrev half : ℕ → ℕ → Powered State
half junk k = powered (take flag_at (blank 7) ++ staged) (make_state power_up 0 true (tear_after k junk))

pub half_reached : page (after (begun 0 8) write) ++ staging (after (begun 0 8) write) ≡ new ++ take 6 staged
unfolding computed
half_reached = refl

pub torn_again : from (λ k. page (after (after (half 0x5B k) power_cycle) power_cycle)) 0 4 ≡ replicate 4 new
unfolding computed
torn_again = refl

pub torn_again_even : from (λ k. page (after (after (half 0x5A k) power_cycle) power_cycle)) 0 4 ≡ replicate 4 new
unfolding computed
torn_again_even = refl

-- ---- what a tear leaves: the junk in the zone, the address, the length, a value, a byte of the page

pub junk_staged : from (λ k. staging (after (begun 0x55 k) write)) 0 5
    ≡ (0xFF ∷ 0x55 ∷ 0xFF ∷ 0xFF ∷ 0xFF ∷ 0xFF ∷ []) ∷ (0xFF ∷ 0 ∷ 0x55 ∷ 0xFF ∷ 0xFF ∷ 0xFF ∷ []) ∷ (0xFF ∷ 0 ∷ 0x1F ∷ 0x55 ∷ 0xFF ∷ 0xFF ∷ [])
    ∷ (0xFF ∷ 0 ∷ 0x1F ∷ 2 ∷ 0x55 ∷ 0xFF ∷ []) ∷ (0xFF ∷ 0 ∷ 0x1F ∷ 2 ∷ 0xA1 ∷ 0x55 ∷ []) ∷ []
unfolding computed
junk_staged = refl

pub junk_written : from (λ k. page (after (begun 0x55 k) write)) 6 2
    ≡ (replicate 15 0xFF ++ (0x55 ∷ [])) ∷ (0x55 ∷ (replicate 14 0xFF ++ (0xA1 ∷ []))) ∷ []
unfolding computed
junk_written = refl

-- the flags, of a tear at either write of the flag: bit 0 alone is the junk's
pub junk_flags : from (λ k. flag (after (begun 0x54 k) write)) 5 1 ++ (from (λ k. flag (after (begun 0x55 k) write)) 5 1
    ++ (from (λ k. flag (after (begun 0x54 k) write)) 8 1 ++ from (λ k. flag (after (begun 0x55 k) write)) 8 1))
    ≡ (0xFE ∷ []) ∷ (0xFF ∷ []) ∷ (0xFE ∷ []) ∷ (0xFF ∷ []) ∷ []
unfolding computed
junk_flags = refl

-- ---- the state. With nine cells written no tear comes, and nothing is armed any more; with eight it comes: off, not busy, nothing armed.
-- What keeps what is armed: a power cycle with nothing to finish, a write that is forbidden, one that is ignored. A later tear replaces it. A
-- power cycle that finishes spends it.

-- a sealed card whose zone 0 needs a password to be written; and one whose zone 0 is program only and holds $F0
abbrev closed : List ℕ
closed = set (blank 0) (register_at 0) 0x7F

abbrev program_only : List ℕ
program_only = set (set (blank 0) (register_at 0) 0xFE) 0x1F 0xF0

pub states_left : told (after (begun 0 9) write).state ∷ told (after (begun 0 8) write).state ∷ told (after (begun 7 4) power_cycle).state
    ∷ told (after (powered closed (powered_up (tear_after 4 7))) write).state
    ∷ told (after (powered (blank 7) (make_state power_up 6 false (tear_after 4 7))) write).state
    ∷ told (after (powered (blank 7) (make_state power_up 6 false (tear_after 4 7))) (arm 5 8)).state ∷ told (after (half 0 3) power_cycle).state
    ∷ told (after (half 0 2) power_cycle).state ∷ []
    ≡ (10 ∷ 0 ∷ []) ∷ (0 ∷ 1 ∷ []) ∷ (0 ∷ 0 ∷ 4 ∷ 7 ∷ []) ∷ (10 ∷ 0 ∷ 4 ∷ 7 ∷ []) ∷ (6 ∷ 0 ∷ 4 ∷ 7 ∷ []) ∷ (6 ∷ 0 ∷ 5 ∷ 8 ∷ []) ∷ (0 ∷ 0 ∷ [])
    ∷ (0 ∷ 1 ∷ []) ∷ []
unfolding computed
states_left = refl

-- a forbidden write stages and writes nothing; under PGO the staged value is old AND new; of no bytes the flag alone is written
pub cards_left : staging (after (powered closed (powered_up untorn)) write) ∷ staging (after (powered program_only (powered_up untorn)) write)
    ∷ take 1 (drop 0x1F (after (powered program_only (powered_up untorn)) write).card)
    ∷ flag (after (powered (set (set (blank 7) flag_at 0xFE) (flag_at + 3) 0) (powered_up (tear_after 1 0))) power_cycle)
    ∷ flag (after (powered (set (set (blank 7) flag_at 0xFE) (flag_at + 3) 0) (powered_up (tear_after 0 0))) power_cycle) ∷ []
    ≡ replicate 6 0xFF ∷ (0xFF ∷ 0 ∷ 0x1F ∷ 2 ∷ 0xA0 ∷ 0xA2 ∷ []) ∷ (0xA0 ∷ []) ∷ (0xFF ∷ []) ∷ (0xFE ∷ []) ∷ []
unfolding computed
cards_left = refl

-- ---- which records are ignored: off, or with a write to finish, all but 1 and 16

abbrev kinds : Powered State → List ℕ
kinds m =
    map (answered_kind m.card m.state)
    (power_cycle ∷ issue reset ∷ issue (select 1) ∷ issue (read_zone 0 1) ∷ issue (write_zone 0 (1 ∷ [])) ∷ issue read_fuses ∷ wait 1 ∷ poll ∷ write
    ∷ arm 0 0 ∷ [])

pub kinds_answered : kinds (powered (blank 7) power_lost) ∷ kinds (powered (set (blank 7) flag_at 0xFE) (make_state power_up 10 false untorn))
    ∷ kinds (powered (blank 7) (make_state power_up 10 false untorn)) ∷ kinds (begun 0 0) ∷ []
    ≡ (1 ∷ 130 ∷ 131 ∷ 132 ∷ 133 ∷ 136 ∷ 141 ∷ 142 ∷ 143 ∷ 16 ∷ []) ∷ (1 ∷ 130 ∷ 131 ∷ 132 ∷ 133 ∷ 136 ∷ 141 ∷ 142 ∷ 143 ∷ 16 ∷ [])
    ∷ (1 ∷ 130 ∷ 131 ∷ 132 ∷ 133 ∷ 136 ∷ 13 ∷ 14 ∷ 143 ∷ 16 ∷ []) ∷ (1 ∷ 2 ∷ 3 ∷ 4 ∷ 5 ∷ 8 ∷ 13 ∷ 14 ∷ 15 ∷ 16 ∷ []) ∷ []
unfolding computed
kinds_answered = refl

-- ---- 5 before 16, 16 before 12; a flag that is neither idle nor ready, a zone above 7, a length above 8

abbrev staging_of : ℕ → ℕ → ℕ → List ℕ
staging_of f z n = set (set (set (blank 7) flag_at f) (flag_at + 1) z) (flag_at + 3) n

abbrev late : State
late = make_state power_up 11 false untorn

pub checks_made : check (set (blank 5) flag_at 0) late ∷ check (set (blank 7) flag_at 0) late ∷ check (blank 7) late
    ∷ map (λ c. check c power_lost) (staging_of 0xFE 7 8 ∷ staging_of 0xFE 8 8 ∷ staging_of 0xFE 7 9 ∷ staging_of 0xFE 0 0 ∷ staging_of 0xFF 8 9
    ∷ staging_of 0xFD 0 0 ∷ staging_of 0x7E 0 0 ∷ [])
    ≡ 5 ∷ 16 ∷ 12 ∷ 0 ∷ 16 ∷ 16 ∷ 0 ∷ 0 ∷ 16 ∷ 16 ∷ []
unfolding computed
checks_made = refl
