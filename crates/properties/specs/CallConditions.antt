-- When a single command is refused: each number's condition by itself, from the card, the state, the record's bytes and the
-- response space alone, in the order of "Sent back with a number".
use Rattle.std.specs.Prelude.{ℕ, ◌+◌, Bool, false, cond, not, ◌&&◌, ◌||◌, List, [], ◌∷◌, ◌++◌, ltb, eqb, length}
use Rattle.model.specs.Sizes.{card_size, fuse_at, flag_at}
use Rattle.model.specs.Lists.{at}
use Rattle.model.specs.Volatile.{Active, none, selector}
use Rattle.model.specs.State.{State, is_busy}
use Rattle.model.specs.Busy.{acts_always, acts_busy}
use Rattle.model.specs.Record.{record_length}
use Rattle.model.specs.Refusal.{card_length, fuse_byte, staging_bytes, state_out_of_range, bytes_left, no_space}
use Rattle.model.specs.Single.{is_fuse_byte}
use Rattle.properties.specs.Conditions.{Condition, when, record_conditions, response_length}

-- 11: the card has another length
abbrev pub wrong_card_length : List ℕ → Bool
wrong_card_length c = not (eqb (length c) card_size)

-- 5: F is not 7, 6, 4 or 0
abbrev pub wrong_fuse_byte : List ℕ → Bool
wrong_fuse_byte c = not (is_fuse_byte (at c fuse_at))

-- 16: the flag is neither $FF nor $FE, or it is $FE and the zone behind it is above 7 or the length above 8
abbrev pub wrong_staging_bytes : List ℕ → Bool
wrong_staging_bytes c =
    not (eqb (at c flag_at) 0xFF) && (not (eqb (at c flag_at) 0xFE) || (ltb 7 (at c (flag_at + 1)) || ltb 8 (at c (flag_at + 3))))

-- 12: the zone is above 7, or the active selector above 15, or the busy time above 10
abbrev pub selector_above : ℕ → Active → Bool
selector_above n none = false
selector_above n (selector k) = ltb n k

abbrev pub wrong_state : State → Bool
wrong_state s = ltb 7 s.volatile.zone || (selector_above 15 s.volatile.active || ltb 10 s.busy)

-- 9: there are bytes left after the record
abbrev pub bytes_behind : List ℕ → Bool
bytes_behind bytes = ltb (record_length bytes) (length bytes)

-- 10: the response space is shorter than what the call writes, which is nothing where the card ignores the record: off or with the flag ready
-- all but 1 and 16, and busy all but 1, 13, 14 and 16
abbrev pub ignored_record : List ℕ → State → List ℕ → Bool
ignored_record c s bytes =
    cond (s.off || eqb (at c flag_at) 0xFE) (not (acts_always (at bytes 0))) (is_busy s && not (acts_busy (at bytes 0)))

abbrev pub short_space : List ℕ → State → List ℕ → List ℕ → Bool
short_space c s bytes space = ltb (length space) (cond (ignored_record c s bytes) 0 (response_length bytes))

-- those of the card and the state, before the record
abbrev pub given_conditions : List ℕ → State → List Condition
given_conditions c s =
    when card_length (wrong_card_length c)
    ∷ when fuse_byte (wrong_fuse_byte c)
    ∷ when staging_bytes (wrong_staging_bytes c)
    ∷ when state_out_of_range (wrong_state s)
    ∷ []

-- those behind it
abbrev pub end_conditions : List ℕ → State → List ℕ → List ℕ → List Condition
end_conditions c s bytes space =
    when bytes_left (bytes_behind bytes)
    ∷ when no_space (short_space c s bytes space)
    ∷ []

-- 11, 5, 16, 12, the record's, 9, 10
abbrev pub call_conditions : List ℕ → State → List ℕ → List ℕ → List Condition
call_conditions c s bytes space = given_conditions c s ++ (record_conditions bytes ++ end_conditions c s bytes space)
