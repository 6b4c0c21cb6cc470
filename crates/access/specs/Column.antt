-- A column of the table of permissions: the codes of the areas at the stage of a fuse byte, for reading (0) or writing (1).
use Rattle.std.specs.Prelude.{ℕ, Bool, List, ◌≡◌}
use Rattle.model.specs.Lists.{at, tab}
use Rattle.laws.specs.ListLaws.{at_tab}
use Rattle.model.specs.Volatile.{Active}
use Rattle.model.specs.Access.{area_of, stage_of, set_of, permission, permits, configuration_allows}
use Rattle.laws.specs.AccessLaws.{area_below}
use Rattle.access.specs.declared.rights.Column.{Column}
use Rattle.access.specs.Permissions.{codes_of}
use Rattle.access.specs.VolatileState.{active_of}

abbrev pub column_of : ℕ → ℕ → List ℕ
column_of write f = tab (λ area. permission area (stage_of f) write) 7

-- whether a configuration address may be reached, by such codes
abbrev pub column_allows : List ℕ → ℕ → Active → Bool
column_allows codes a active = permits (at codes (area_of a)) (set_of a) active

-- the same of a column of the code, with the password that is active
abbrev pub allows_of : Column → ℕ → Bool
allows_of k a = column_allows (codes_of k.permissions) a (active_of k.active)

pub column_allows_lem : (write f a : ℕ) (active : Active) → column_allows (column_of write f) a active ≡ configuration_allows write f a active
column_allows_lem write f a active = rw (at_tab (λ area. permission area (stage_of f) write) 7 (area_of a) (area_below a))
