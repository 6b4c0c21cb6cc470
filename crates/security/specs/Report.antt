-- A report of the code as that of the model, with the answer that was given.
use Rattle.std.specs.Prelude.{ℕ, List}
use Rattle.model.specs.Call as call
use Rattle.model.specs.Volatile as model
use Rattle.access.specs.VolatileState.{volatile_of}
use Rattle.security.specs.declared.report.Report.{Report}

abbrev pub report_of : Report → List ℕ → call.Report model.Volatile
report_of r answer = record { state = volatile_of r.state; answer = answer; tries = r.tries }
