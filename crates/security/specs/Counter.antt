-- A spent counter of the code as that of the model.
use Rattle.model.specs.Device as model
use Rattle.security.specs.declared.counter.SpentCounter.{SpentCounter}

abbrev pub spent_of : SpentCounter → model.Spent
spent_of r = record { value = r.value; tries = r.tries }
