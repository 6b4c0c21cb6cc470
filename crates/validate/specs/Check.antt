-- What the check of a session's records tells: a refusal, or how long the entries of its log would be in full.
use Rattle.std.specs.Prelude.{ℕ, zero, suc, ◌+◌, cond, not, List, Result, Ok, Err, eqb, length}
use Rattle.model.specs.Reader.{records_end}
use Rattle.model.specs.Refusal.{bytes_left}
use Rattle.model.specs.Session.{start_of, count_of, frame, Read, stopped, all, read_from}
use Rattle.properties.specs.SessionLaws.{full_total}
use Rattle.record.specs.RefusalNumber.{refusal_number}
use Rattle.record.specs.declared.refusal.Refusal.{Refusal}

pub data Sized : Type 0 where
  unfit : ℕ → Sized
  sized : ℕ → Sized

abbrev pub checked_of : Result ℕ Refusal → Sized
checked_of (Err why) = unfit (refusal_number why)
checked_of (Ok n) = sized n

-- of records that are to end at a place
abbrev pub sized_of : ℕ → Read → Sized
sized_of end (stopped n) = unfit n
sized_of end (all ks i) = cond (not (eqb i end)) (unfit bytes_left) (sized (full_total ks))

-- with the entries before them
abbrev pub plus : ℕ → Sized → Sized
plus t (unfit n) = unfit n
plus t (sized n) = sized (t + n)

-- the whole session: 1 to 5 and 16, or the records
abbrev pub on_frame : List ℕ → ℕ → Sized
on_frame s zero = sized_of (records_end (length s)) (read_from (count_of s) s (start_of s))
on_frame s (suc n) = unfit (suc n)

abbrev pub check_of : List ℕ → Sized
check_of s = on_frame s (frame s)
