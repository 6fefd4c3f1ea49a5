-- The row of an address among the rows of a run: DWARF 5, 6.4.3.
use Rattle.std.specs.{Prelude.{ℕ, ◌≤◌, List, [], ◌∷◌, Option, Some, None, nat_le, if◌then◌else◌}}
use Rattle.dw_row.specs.Rows.{Rules}
use Rattle.dw_cfa.specs.declared.execution.LocatedRow.{LocatedRow}

abbrev pub or_here : ℕ → LocatedRow → Option Rules → Option Rules
or_here a first (Some row) = Some row
or_here a first None = if nat_le first.location a then Some first.row else None

-- the last row that starts at or below a
abbrev pub last_at : ℕ → List LocatedRow → Option Rules
last_at a [] = None
last_at a (first ∷ rows) = or_here a first (last_at a rows)

-- locations that never fall, from `low` on
abbrev pub NeverFalls : ℕ → List LocatedRow → Type 0
NeverFalls low [] = Unit {0}
NeverFalls low (row ∷ rows) = (low ≤ row.location) × NeverFalls row.location rows
