-- An access register taken apart.
use Rattle.std.specs.Prelude.{ℕ}
use Rattle.model.specs.Access.{wpe, rpe, ate, password_set, mdf, pgo}
use Rattle.access.specs.declared.register.Register.{Register}

abbrev pub fields_of : ℕ → Register
fields_of r = record { wpe = wpe r; rpe = rpe r; ate = ate r; set = record { 0 = password_set r }; mdf = mdf r; pgo = pgo r }
