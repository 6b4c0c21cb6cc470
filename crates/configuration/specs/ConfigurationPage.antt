-- The rule of a store in a page of the configuration.
use Rattle.std.specs.Prelude.{ℕ, ◌+◌, cond, List}
use Rattle.model.specs.Volatile.{Active}
use Rattle.access.specs.declared.rights.Column.{Column}
use Rattle.access.specs.Column.{column_allows, allows_of}

-- in the page that starts at the configuration address first, by a column of the table
abbrev pub allowed_of : List ℕ → ℕ → Active → ℕ → ℕ → ℕ → ℕ
allowed_of codes first active i old new = cond (column_allows codes (first + i) active) new old

-- the same by a column of the code, with the password that is active
abbrev pub allowed_in : Column → ℕ → ℕ → ℕ → ℕ → ℕ
allowed_in column first i old new = cond (allows_of column (first + i)) new old
