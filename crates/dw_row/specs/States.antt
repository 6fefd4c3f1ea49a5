-- The current row and those that are remembered: DWARF 5, 6.4.2.4.
use Rattle.std.specs.Prelude.{◌≡◌, ℕ, List, [], ◌∷◌, Bool, true, false, Option, Some, None}
use Rattle.dw_row.specs.{Rows.Rules, declared.rule.RegRule.RegRule}

-- the current row, the remembered ones, the last first, the registers that all began with, where they can be brought back,
-- and a row that was kept
pub record Held : Type 0 where
  pub row : Rules
  pub stack : List Rules
  pub first : Option (List (ℕ × RegRule))
  pub kept : Rules

-- with another row
abbrev pub with_row : Rules → Held → Held
with_row row h = record { row = row; stack = h.stack; first = h.first; kept = h.kept }

-- with one remembered row more, the current one
abbrev pub remembering : Held → Held
remembering h = record { row = h.row; stack = h.row ∷ h.stack; first = h.first; kept = h.kept }

-- the registers that can be brought back, where there are some
abbrev pub first_if : Bool → List (ℕ × RegRule) → Option (List (ℕ × RegRule))
first_if true first = Some first
first_if false first = None

-- the registers that can be brought back are those of the initial row
abbrev pub BeganWith : Rules → Option (List (ℕ × RegRule)) → Type 0
BeganWith initial None = Unit {0}
BeganWith initial (Some registers) = registers ≡ initial.registers

-- a remembered row is the current one again, or there is none
abbrev pub Restored : Bool → Held → Held → Type 0
Restored true old new = (old.stack ≡ new.row ∷ new.stack) × (new.first ≡ old.first)
Restored false old new = old.stack ≡ []
