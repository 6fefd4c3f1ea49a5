-- The row that was shown last.
use Rattle.std.specs.Prelude.{Bool, true, false, Option, Some, None}
use Rattle.dw_row.specs.Rows.{Rules}

-- room that holds a row, or none
abbrev pub shown_if : {A : Type 0} → Bool → A → Option A
shown_if true row = Some row
shown_if false row = None

-- the row that was shown last: the one that a walk lends, or the one that was kept
abbrev pub shown_of : Bool → Rules → Option Rules → Option Rules
shown_of true current kept = Some current
shown_of false current kept = kept

-- and the one that was shown before it: what was kept, where a walk lends the last
abbrev pub before_of : Bool → Option Rules → Option Rules
before_of true kept = kept
before_of false kept = None
