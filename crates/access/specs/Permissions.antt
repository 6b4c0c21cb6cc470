-- The permissions of the code as the codes of the model's table.
use Rattle.std.specs.Prelude.{ℕ, List, map, ◌≡◌}
use Rattle.model.specs.Access as model
use Rattle.model.specs.Volatile.{Active}
use Rattle.access.specs.declared.rights.Permission.{Permission}
use Rattle.access.specs.declared.rights.Permission.TheVariants as permission
use Rattle.access.specs.declared.rights.Access.{Access}
use Rattle.access.specs.declared.rights.Access.TheVariants as access

abbrev pub code_of : Permission → ℕ
code_of permission.Free = model.free
code_of permission.Sc = model.sc
code_of permission.Wp = model.wp
code_of permission.No = model.forbidden

abbrev pub codes_of : List Permission → List ℕ
codes_of ps = map code_of ps

-- 0 for reading, 1 for writing
abbrev pub write_of : Access → ℕ
write_of access.Read = 0
write_of access.Write = 1

-- two codes that let the same through, whatever password is active: one of the table, and any number
abbrev pub SamePermission : ℕ → ℕ → Type 0
SamePermission code settled = (set : ℕ) (active : Active) → model.permits settled set active ≡ model.permits code set active
