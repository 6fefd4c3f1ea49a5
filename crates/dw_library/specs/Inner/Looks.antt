-- What the code says beside Looks.
use Rattle.std.specs.Prelude.{◌≡◌, ℕ, List, length}
use Rattle.dw_num.specs.declared.target.Target.{Target}
use Rattle.dw_library.specs.{Index.over, Looks.{IsLook, Look}, declared.index.{Row.Row, Rule.Rule}}

-- what is told of an address is a row, and so many rules over the front of a buffer
abbrev pub IsPut : Target → List ℕ → ℕ → List Rule → Row → List Rule → ℕ → Type 0
IsPut target s a old row rules count =
    (l : Look) × IsLook target s a l × (row ≡ l.row) × (rules ≡ over l.rules old) × (count ≡ length l.rules)
