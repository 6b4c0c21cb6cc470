-- What each command does to a card and its volatile state ("What each command does"), for any device.
use Rattle.std.specs.Prelude.{ℕ, Bool, true, false, cond, List, [], ◌∷◌, eqb, set}
use Rattle.model.specs.Lists.{at, tab, same_list, stores}
use Rattle.model.specs.Volatile.{Volatile, none, selector, idle, begun, granted, is_begun, selecting, activating, authenticating}
use Rattle.model.specs.Instruction.{Command, reset, select, read_zone, write_zone, read_configuration, write_configuration, read_fuses, write_fuses}
use Rattle.model.specs.Instruction.{verify_password, begin_authentication, verify_authentication}
use Rattle.model.specs.Device.{Device, spent}
use Rattle.model.specs.Call.{Acted, acted, tried}

-- an attempts counter that stands full: $FF
abbrev pub full_counter : ℕ
full_counter = 255

-- how a presented password fares: its counter is used up, or the bytes are right, or they are wrong
pub data Attempt : Type 0 where
  locked right wrong : Attempt

abbrev pub attempt_of : (used same : Bool) → Attempt
attempt_of true same = locked
attempt_of false true = right
attempt_of false false = wrong

-- how authentication fares: it was not begun, or the verdict is 1, or it is 0
pub data Judgement : Type 0 where
  not_begun accepted denied : Judgement

abbrev pub judgement_of : (begun verdict : Bool) → Judgement
judgement_of false verdict = not_begun
judgement_of true true = accepted
judgement_of true false = denied

module _ (D : Device) where
  -- the rule bytes of a card
  abbrev pub rules : List ℕ → List ℕ
  rules c = tab (λ k. at c (D.rule_at k)) D.rule_count

  -- what reading a place answers
  abbrev pub shown : List ℕ → Volatile → ℕ → ℕ
  shown c s i = cond (D.may_read (rules c) s i) (at c i) (D.concealed (rules c) i)

  -- what a place holds after a write: a place that may not be written keeps what it held
  abbrev pub kept : List ℕ → Volatile → ℕ → ℕ → ℕ → ℕ
  kept ρ s i old new = cond (D.may_write ρ s i) (D.merge ρ i old new) old

  -- the password of a selector
  abbrev pub password : List ℕ → ℕ → List ℕ
  password c k = tab (λ i. at c (D.password_byte k i)) D.password_count

  -- the counter at a place, full again; and with one failed attempt more
  abbrev pub filled : ℕ → List ℕ → Volatile → Acted Volatile
  filled i c s = tried (set c i full_counter) s (D.tries full_counter)

  abbrev pub counted : ℕ → List ℕ → Volatile → Acted Volatile
  counted i c s = tried (set c i (spent D (at c i)).value) s (spent D (at c i)).tries

  -- Kind 10. Locked: nothing changes, and whatever password was active stays so. Right: the counter is full again, and this selector is the active one.
  -- Wrong: the counter counts, and no password is active. Zone, authentication and every other byte stay. What the counter then leaves is handed out.
  abbrev pub presented : Attempt → List ℕ → Volatile → ℕ → Acted Volatile
  presented locked c s k = tried c s 0
  presented right c s k = filled (D.counter_at k) c (activating s (selector k))
  presented wrong c s k = counted (D.counter_at k) c (activating s none)

  -- Kind 11, by whether the counter is used up. If so, nothing changes; else the counter counts at once and authentication is
  -- begun. Zone, active password and every other byte stay. What the counter then leaves is handed out.
  abbrev pub started : (used : Bool) → List ℕ → Volatile → Acted Volatile
  started true c s = tried c s 0
  started false c s = counted D.attempts_at c (authenticating s begun)

  -- Kind 12. Not begun: nothing changes. Accepted: the bytes are the new cryptogram, the counter is full again, authentication is
  -- granted. Denied: authentication is idle, and the card stays. Zone and active password stay in every case.
  abbrev pub judged : Judgement → List ℕ → Volatile → List ℕ → Acted Volatile
  judged not_begun c s xs = acted c s []
  judged accepted c s xs =
      acted (set (stores (λ i old new. new) D.cryptogram_cell xs 0 c) D.attempts_at full_counter) (authenticating s granted) []
  judged denied c s xs = acted c (authenticating s idle) []

  unfoldable pub apply : List ℕ → Volatile → Command → Acted Volatile
  -- 2: no password is active and authentication is idle; the zone and the card stay
  apply c s reset =
      acted c (authenticating (activating s none) idle) (tab (λ k. D.sent (at c (D.reset_byte k))) D.reset_count)
  -- 3: another zone; all else stays
  apply c s (select z) = acted c (selecting s z) []
  -- 4 and 6: bytes are answered; card and state stay
  apply c s (read_zone a n) = acted c s (tab (λ k. shown c s (D.zone_byte s.zone a k)) n)
  -- 5 and 7: the bytes that may be written; every other byte and the state stay
  apply c s (write_zone a xs) = acted (stores (kept (rules c) s) (D.zone_cell s.zone a) xs 0 c) s []
  apply c s (read_configuration a n) = acted c s (tab (λ k. shown c s (D.configuration_byte a k)) n)
  apply c s (write_configuration a xs) = acted (stores (kept (rules c) s) (D.configuration_cell a) xs 0 c) s []
  -- 8: the fuse byte is answered; card and state stay
  apply c s read_fuses = acted c s (at c D.fuse_at ∷ [])
  -- 9: one more fuse is blown, for whom it is allowed; every other byte and the state stay
  apply c s write_fuses = acted (cond (D.may_blow s) (set c D.fuse_at (D.blow (at c D.fuse_at))) c) s []
  -- 10 to 12, as said above
  apply c s (verify_password k xs) = presented (attempt_of (eqb (at c (D.counter_at k)) 0) (same_list xs (password c k))) c s k
  apply c s begin_authentication = started (eqb (at c D.attempts_at) 0) c s
  apply c s (verify_authentication v xs) = judged (judgement_of (is_begun s.authentication) v) c s xs
