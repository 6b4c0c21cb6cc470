-- What the session writer gives back, read as the model's result.
use Rattle.std.specs.Prelude.{ℕ, List, Result, Ok, Err}
use Rattle.model.specs.Session.{Ran, rejected}
use Rattle.record.specs.RefusalNumber.{refusal_number}
use Rattle.record.specs.declared.refusal.Refusal.{Refusal}

-- the result with the space for the session at exit
abbrev pub written_of : Result ℕ Refusal → List ℕ → Ran
written_of (Ok size) space = record { refusal = 0; size = size; space = space }
written_of (Err why) space = rejected (refusal_number why) space
