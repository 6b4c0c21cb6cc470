-- What the code finds, as the model has it.
use Rattle.std.specs.Prelude.{ℕ, ◌+◌, ◌≤◌, List, length, Result, Ok, Err}
use Rattle.model.specs.LogCheck as model
use Rattle.record.specs.declared.refusal.Refusal.{Refusal}
use Rattle.record.specs.RefusalNumber.{refusal_number}
use Rattle.session_log.specs.declared.check.Place.{Place}
use Rattle.session_log.specs.declared.find.Fetched.{Fetched}

abbrev pub found_of : Result Place Refusal → model.Found
found_of (Err why) = model.missing (refusal_number why)
found_of (Ok place) = model.located place.from place.length

-- with the headers that were read for it
abbrev pub fetched_of : Fetched → model.Fetched
fetched_of r = record { found = found_of r.found; headers = r.headers }

-- what is found lies within a log
abbrev pub Within : List ℕ → model.Found → Type 0
Within l (model.missing n) = Unit {0}
Within l (model.located from n) = from + n ≤ length l
