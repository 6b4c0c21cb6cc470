-- The state of the code as that of the model.
use Rattle.model.specs.State as model
use Rattle.access.specs.VolatileState.{volatile_of}
use Rattle.staging.specs.Fuel.{tear_of}
use Rattle.busy.specs.declared.State.{State}

abbrev pub state_of : State → model.State
state_of s = record { volatile = volatile_of s.volatile; busy = s.busy; off = s.power.off; tear = tear_of s.power.tear }
