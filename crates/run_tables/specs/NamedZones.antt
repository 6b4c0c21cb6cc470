-- Zones named in logs ("The zone named in the log"), computed: what records log that come one right after the other, and which logs are
-- taken. One table, one theorem.
use Rattle.std.specs.Prelude.{ℕ, Bool, false, cond, List, [], ◌∷◌, ◌++◌, map, ◌≡◌, refl, length, replicate}
use Rattle.model.specs.Instruction.{select, read_zone, write_zone, read_configuration, Instruction, power_cycle, issue}
use Rattle.model.specs.Log.{Ending, Entry, zoned, entry_bytes, entries_bytes, log_trailer, header_length, zone_fits, entry_fits}
use Rattle.model.specs.LogCheck.{entry_ok, trailer_ok, valid_as, Found, missing, located, find}
use Rattle.model.specs.Record.{length_fits}
use Rattle.model.specs.Session.{entries_of}
use Rattle.model.specs.Volatile.{power_up, selecting}
use Rattle.model.specs.State.{untorn, State, make_state}
use Rattle.model.specs.Call.{Powered, powered}
use Rattle.tables.specs.Trials.{blank, Case}
use Rattle.tables.specs.Computed.{computed}

-- a blank card with a zone selected and a busy time; the entries of instructions on it, as they are written; and the zone of each, whether it is
-- written or not
abbrev at_zone : ℕ → ℕ → Powered State
at_zone z busy = powered (blank 7) (make_state (selecting power_up z) busy false untorn)

abbrev entered : Powered State → List Instruction → List (List ℕ)
entered m ks = map (entry_bytes zoned) (entries_of ks m)

abbrev zones : Powered State → List Instruction → List ℕ
zones m ks = map (λ (e : Entry). e.zone) (entries_of ks m)

-- instructions
abbrev choose : ℕ → Instruction
choose z = issue (select z)

abbrev read : Instruction
read = issue (read_zone 0 1)

abbrev write : Instruction
write = issue (write_zone 0 (0x3C ∷ []))

abbrev off : Instruction
off = power_cycle

-- an ending that is read no more, under which no entry named the zone
abbrev plain : Ending
plain = record { last = 0x4F; names = λ kind. false }

-- Entries written under one ending in a log with the other ending or the same; what is found of answer 0: 13 or 14, or where it lies and
-- how long it is.
abbrev told : Found → List ℕ
told (missing n) = n ∷ []
told (located from n) = from ∷ n ∷ []

abbrev found : Ending → Ending → List Entry → List ℕ
found E E' es =
    told (find (entries_bytes E es ++ (blank 7 ++ log_trailer E' (length (entries_bytes E es)) (length es))) 0)

abbrev number : Bool → ℕ
number t = cond t 1 0

abbrev entry : ℕ → ℕ → List ℕ → Entry
entry kind zone response = record { kind = kind; zone = zone; response = response }

unfoldable pub named_zones : List Case
named_zones =
    -- the zone stands behind the length, which does not count it; kind 6 has none; after a power cycle it is 0
    (
      entered (at_zone 0 0) (read ∷ choose 3 ∷ read ∷ []) ++ entered (at_zone 3 0) (issue (read_configuration 96 1) ∷ off ∷ read ∷ []),
      (4 ∷ 1 ∷ 0 ∷ 0 ∷ 0xFF ∷ []) ∷ (3 ∷ 0 ∷ 0 ∷ []) ∷ (4 ∷ 1 ∷ 0 ∷ 3 ∷ 0xFF ∷ []) ∷ (6 ∷ 1 ∷ 0 ∷ 0xFF ∷ [])
          ∷ (1 ∷ 0 ∷ 0 ∷ []) ∷ (4 ∷ 1 ∷ 0 ∷ 0 ∷ 0xFF ∷ []) ∷ [],
    )
    -- so do ignored ones, and a select that is ignored leaves the zone
    ∷ (
      entered (at_zone 5 0) (write ∷ read ∷ write ∷ []) ++ entered (at_zone 5 10) (choose 2 ∷ read ∷ issue (read_configuration 96 1) ∷ off ∷ []),
      (5 ∷ 0 ∷ 0 ∷ 5 ∷ []) ∷ (132 ∷ 0 ∷ 0 ∷ 5 ∷ []) ∷ (133 ∷ 0 ∷ 0 ∷ 5 ∷ []) ∷ (131 ∷ 0 ∷ 0 ∷ []) ∷ (132 ∷ 0 ∷ 0 ∷ 5 ∷ [])
          ∷ (134 ∷ 0 ∷ 0 ∷ []) ∷ (1 ∷ 0 ∷ 0 ∷ []) ∷ [],
    )
    -- it is the zone before the record
    ∷ (
      zones (at_zone 0 0) (read ∷ choose 3 ∷ read ∷ off ∷ []) ∷ zones (at_zone 3 0) (off ∷ read ∷ choose 6 ∷ choose 1 ∷ []) ∷ [],
      (0 ∷ 0 ∷ 3 ∷ 3 ∷ []) ∷ (3 ∷ 0 ∷ 0 ∷ 6 ∷ []) ∷ [],
    )
    -- one ending and its layout
    ∷ (
      found zoned zoned (entry 4 2 (9 ∷ 8 ∷ []) ∷ []) ∷ found zoned zoned (entry 132 2 [] ∷ []) ∷ found zoned zoned (entry 6 2 (9 ∷ []) ∷ []) ∷ [],
      (4 ∷ 2 ∷ []) ∷ (4 ∷ 0 ∷ []) ∷ (3 ∷ 1 ∷ []) ∷ [],
    )
    -- no other ending, whatever the layout, and no other layout
    ∷ (
      found plain plain (entry 4 2 (9 ∷ 8 ∷ []) ∷ []) ∷ found plain plain (entry 6 2 (9 ∷ []) ∷ []) ∷ found zoned plain (entry 4 2 (9 ∷ 8 ∷ []) ∷ [])
          ∷ found plain zoned (entry 4 2 (9 ∷ 8 ∷ []) ∷ []) ∷ found plain zoned (entry 5 2 [] ∷ []) ∷ [],
      replicate 5 (13 ∷ []),
    )
    -- 15 and 16 have no response and name no zone; of ignored records 2 to 15 have an entry, without a response
    ∷ (
      map (λ kind. header_length zoned kind) (15 ∷ 16 ∷ 143 ∷ []) ∷ map (λ kind. number (entry_fits kind 0)) (15 ∷ 16 ∷ 17 ∷ 129 ∷ 130 ∷ 141 ∷ 142 ∷ 143
          ∷ 144 ∷ [])
          ∷ map (λ kind. number (entry_fits kind 1)) (15 ∷ 16 ∷ 130 ∷ 142 ∷ 143 ∷ []) ∷ [],
      (3 ∷ 3 ∷ 3 ∷ []) ∷ (1 ∷ 1 ∷ 0 ∷ 0 ∷ 1 ∷ 1 ∷ 1 ∷ 1 ∷ 0 ∷ []) ∷ replicate 5 0 ∷ [],
    )
    -- zones are 0 to 7
    ∷ (
      found zoned zoned (entry 5 7 [] ∷ []) ∷ found zoned zoned (entry 5 8 [] ∷ []) ∷ found zoned zoned (entry 133 255 [] ∷ []) ∷ [],
      (4 ∷ 0 ∷ []) ∷ (13 ∷ []) ∷ (13 ∷ []) ∷ [],
    )
    ∷ []

pub named_zones_shown : map (λ (r : Case). r.0) named_zones ≡ map (λ (r : Case). r.1) named_zones
unfolding named_zones computed header_length zone_fits entry_fits entry_ok trailer_ok valid_as length_fits find
named_zones_shown = refl
