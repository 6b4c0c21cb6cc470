-- The nine bytes of a state: the zone; 0 where no password is active, 1 where a selector is; that selector, 0 where there is none;
-- the authentication, 0 idle, 1 begun, 2 granted; the busy time; 0 on, 1 off; 0 where nothing is armed, 1 where a tear is; after how many cell
-- writes and with which junk, 0 where nothing is armed.
use Rattle.std.specs.Prelude.{ℕ, zero, suc, Bool, false, cond, ◌&&◌, List, [], ◌∷◌, ltb, leb, eqb, length}
use Rattle.model.specs.Lists.{at}
use Rattle.model.specs.State.{Tear, untorn, tear_after, State, make_state, write_time}
use Rattle.model.specs.Volatile.{Active, none, selector, Authentication, idle, begun, granted}

-- ---- a state as bytes

-- the second and the third byte
abbrev pub active_flag : Active → ℕ
active_flag none = 0
active_flag (selector k) = 1

abbrev pub active_selector : Active → ℕ
active_selector none = 0
active_selector (selector k) = k

-- the fourth byte
abbrev pub authentication_byte : Authentication → ℕ
authentication_byte idle = 0
authentication_byte begun = 1
authentication_byte granted = 2

-- the sixth byte, and the last three
abbrev pub off_byte : Bool → ℕ
off_byte off = cond off 1 0

abbrev pub tear_flag : Tear → ℕ
tear_flag untorn = 0
tear_flag (tear_after k junk) = 1

abbrev pub tear_cells : Tear → ℕ
tear_cells untorn = 0
tear_cells (tear_after k junk) = k

abbrev pub tear_junk : Tear → ℕ
tear_junk untorn = 0
tear_junk (tear_after k junk) = junk

-- all nine
abbrev pub state_bytes : State → List ℕ
state_bytes s =
    let v = s.volatile in
    v.zone ∷ active_flag v.active ∷ active_selector v.active ∷ authentication_byte v.authentication ∷ s.busy ∷ off_byte s.off
    ∷ tear_flag s.tear ∷ tear_cells s.tear ∷ tear_junk s.tear ∷ []

-- ---- bytes as a state

-- a flag and a selector that stand for an active password, or for none
abbrev pub active_in_range : ℕ → ℕ → Bool
active_in_range flag k = cond (eqb flag 0) (eqb k 0) (eqb flag 1 && ltb k 16)

-- three bytes that stand for an armed tear, or for none
abbrev pub tear_in_range : ℕ → ℕ → ℕ → Bool
tear_in_range flag k junk = cond (eqb flag 0) (eqb k 0 && eqb junk 0) (eqb flag 1)

-- bytes that stand for a state
unfoldable pub is_state : List ℕ → Bool
is_state b =
    eqb (length b) 9
    && (ltb (at b 0) 8
    && (ltb (at b 3) 3
    && (leb (at b 4) write_time && (ltb (at b 5) 2 && (tear_in_range (at b 6) (at b 7) (at b 8) && active_in_range (at b 1) (at b 2))))))

-- what they then stand for
abbrev pub active_read : ℕ → ℕ → Active
active_read flag k = cond (eqb flag 0) none (selector k)

abbrev pub authentication_read : ℕ → Authentication
authentication_read n = cond (eqb n 0) idle (cond (eqb n 1) begun granted)

abbrev pub tear_read : ℕ → ℕ → ℕ → Tear
tear_read flag k junk = cond (eqb flag 0) untorn (tear_after k junk)

-- a state out of range, which every call refuses: no card has a zone 255
abbrev pub no_state : State
no_state = make_state (record { zone = 255; active = none; authentication = idle }) 0 false untorn

-- the state that bytes stand for; all others are read as a state out of range
unfoldable pub state_of : List ℕ → State
state_of b =
    cond (is_state b)
    (make_state (record { zone = at b 0; active = active_read (at b 1) (at b 2); authentication = authentication_read (at b 3) }) (at b 4) (eqb (at b 5) 1)
    (tear_read (at b 6) (at b 7) (at b 8)))
    no_state

-- ---- the bytes after a call

-- rewritten where its refusal is 0, kept where it was refused
abbrev pub state_after : ℕ → State → List ℕ → List ℕ
state_after zero s b = state_bytes s
state_after (suc n) s b = b
