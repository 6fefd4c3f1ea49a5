-- How a row is narrowed to what all changes specify.
use Rattle.std.specs.Prelude.{◌≡◌, Option, Some}
use Rattle.dw_row.specs.{Agreement.kept, Rows.Rules}

-- a row with no register that another one, which is known, leaves Unspecified
abbrev pub NarrowedBy : Rules → Option Rules → Type 0
NarrowedBy narrow row = (before : Rules) × (row ≡ Some before) × (kept narrow before ≡ narrow)
