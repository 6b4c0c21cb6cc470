-- The volatile state of the code as that of the model.
use Rattle.std.specs.Prelude.{ℕ, Option, Some, None}
use Rattle.model.specs.Volatile as model
use Rattle.access.specs.declared.volatile.Authentication.{Authentication}
use Rattle.access.specs.declared.volatile.Authentication.TheVariants as authentication
use Rattle.access.specs.declared.volatile.Volatile.{Volatile}

abbrev pub active_of : Option ℕ → model.Active
active_of None = model.none
active_of (Some k) = model.selector k

abbrev pub authentication_of : Authentication → model.Authentication
authentication_of authentication.Idle = model.idle
authentication_of authentication.Begun = model.begun
authentication_of authentication.Granted = model.granted

abbrev pub volatile_of : Volatile → model.Volatile
volatile_of v = record { zone = v.zone.0; active = active_of v.active; authentication = authentication_of v.authentication }
