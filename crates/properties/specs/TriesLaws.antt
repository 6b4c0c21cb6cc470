-- Of the tries left: the 1 bits of a byte; and what an accepted call hands out is what its counter leaves on the card.
use Rattle.std.specs.Prelude.{ℕ, suc, ◌-◌, ◌≤◌, ◌<◌, List, ◌↔◌, ◌≡◌, refl, length}
use Rattle.std.proofs.Common.{ap, ◌∙◌, arith}
use Rattle.std.specs.Int.Bits.{bit_and}
use Rattle.model.specs.Sizes.{card_size}
use Rattle.model.specs.Bits.{spent_counter, tries_left}
use Rattle.model.specs.Volatile.{Volatile}
use Rattle.model.specs.Instruction.{Command, Instruction}
use Rattle.model.specs.State.{State}
use Rattle.model.specs.Device.{Counter, of_password, of_authentication, counter_place, spent}
use Rattle.model.specs.At88sc1608.{at88sc1608}
use Rattle.model.specs.Call.{powered, Report, replying}
use Rattle.model.specs.Session.{logged, after}
use Rattle.model.specs.Single.{apply, act}
use Rattle.laws.specs.BitLaws.{bits_most, bits_none, none_zero, cleared_fewer}
use Rattle.laws.specs.BusyLaws.{tries_given, given_tries}
use Rattle.laws.specs.Effects.{tries_after, hands_out}
use Rattle.laws.specs.Tables.{agree_at}
use Rattle.properties.specs.AcceptedSession.{leaving}

pub most : (x : ℕ) → tries_left x ≤ 8
unfolding tries_left
most = bits_most 8

pub none : (x : ℕ) → x < 256 → (tries_left x ≡ 0) ↔ (x ≡ 0)
unfolding tries_left
none x h = (none_zero 8 x h, λ e. ap tries_left e ∙ bits_none 8)

pub fewer : (x : ℕ) → x < 256 → (x ≡ 0 → ⊥) → suc (spent at88sc1608 x).tries ≡ tries_left x
unfolding tries_left spent_counter
fewer = cleared_fewer 8

pub lowest : (x : ℕ) → x < 256 → spent_counter x ≡ bit_and x (x - 1)
unfolding spent_counter
lowest = agree_at spent_counter (λ x. bit_and x (x - 1)) 256 refl

-- a card has its counters
counters_in : (c : List ℕ) → length c ≡ card_size → (n : Counter) → counter_place at88sc1608 n < length c
counters_in c l (of_password k) = omega arith
counters_in c l of_authentication = omega arith

pub handed : (c : List ℕ) (s : Volatile) (k : Command) → length c ≡ card_size → (apply c s k).report.tries ≡ tries_after at88sc1608 k (apply c s k).card
unfolding tries_left
handed c s k l = hands_out at88sc1608 refl c s k (counters_in c l)

pub given : (c : List ℕ) (s : State) (k : Instruction) → length c ≡ card_size → (act c s k).report.tries ≡ tries_given at88sc1608 c s k (act c s k).card
unfolding tries_left
given c s k l = given_tries at88sc1608 refl c s k (counters_in c l)

pub handing : (c : List ℕ) (s : State) (k : Instruction) → length c ≡ card_size → (space : List ℕ)
    → record { card = (act c s k).card; reply = replying (logged (powered c s) k).kind space (act c s k).report }
    ≡ leaving (logged (powered c s) k).kind (tries_given at88sc1608 c s k (after (powered c s) k).card) (after (powered c s) k)
    (logged (powered c s) k).response space
handing c s k l space =
    let r : Report State = (act c s k).report in
    ap (λ (n : ℕ). leaving (logged (powered c s) k).kind n (after (powered c s) k) r.answer space) (given c s k l)
