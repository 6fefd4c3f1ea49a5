-- A row that was kept beside the current one.
use Rattle.std.specs.Prelude.{◌≡◌, ℕ, List, IsTrue, false}
use Rattle.dw_row.specs.{RegisterSets.has, Rows.{AreSpecified, put, rule_in}, declared.{kept_row.KeptRow.KeptRow, rule.RegRule.RegRule}}

-- where it is watched, no register of the current row was set since but the changed ones
abbrev pub KeptSo : KeptRow → List (ℕ × RegRule) → Type 0
KeptSo k current = IsTrue k.watched → (r : ℕ) → has k.changed r ≡ false → rule_in k.row.registers r ≡ rule_in current r

-- a register is marked: whatever rule it is given next, that stays so
abbrev pub IsMarked : ℕ → KeptRow → KeptRow → Type 0
IsMarked r old new = (current : List (ℕ × RegRule)) (rule : RegRule) → AreSpecified 0 current → KeptSo old current → KeptSo new (put r rule current)
