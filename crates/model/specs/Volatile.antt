-- The volatile state: what a card keeps beside its bytes while it has power (the paper: power-lost state).
use Rattle.std.specs.Prelude.{ℕ, Bool, true, false, eqb}

-- Which password is active, if any. Selector p below 8 is the write password of set p, and 8 + p its read password.
pub data Active : Type 0 where
  none : Active
  selector : ℕ → Active

pub data Authentication : Type 0 where
  idle begun granted : Authentication

pub record Volatile : Type 0 where
  pub zone : ℕ
  pub active : Active
  pub authentication : Authentication

abbrev pub power_up : Volatile
power_up = record { zone = 0; active = none; authentication = idle }

abbrev pub is_active : Active → ℕ → Bool
is_active none k = false
is_active (selector j) k = eqb j k

abbrev pub is_begun : Authentication → Bool
is_begun idle = false
is_begun begun = true
is_begun granted = false

abbrev pub is_granted : Authentication → Bool
is_granted idle = false
is_granted begun = false
is_granted granted = true

-- the state with another zone, another active password, another authentication
abbrev pub selecting : Volatile → ℕ → Volatile
selecting s z = record { zone = z; active = s.active; authentication = s.authentication }

abbrev pub activating : Volatile → Active → Volatile
activating s a = record { zone = s.zone; active = a; authentication = s.authentication }

abbrev pub authenticating : Volatile → Authentication → Volatile
authenticating s a = record { zone = s.zone; active = s.active; authentication = a }
