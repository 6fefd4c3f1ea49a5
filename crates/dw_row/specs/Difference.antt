-- The first register whose rule differs between two rows.
use Rattle.std.specs.Prelude.{◌≡◌, ℕ, suc, ◌<◌, ◌≤◌, List, Option, Some, None}
use Rattle.dw_row.specs.{Rows.rule_in, declared.rule.RegRule.RegRule}

-- registers from one place on, below another one, have the same rules
abbrev pub SameBetween : ℕ → ℕ → List (ℕ × RegRule) → List (ℕ × RegRule) → Type 0
SameBetween from to xs ys = (r : ℕ) → from ≤ r → r < to → rule_in xs r ≡ rule_in ys r

-- a register's rule differs, and those of the registers before it, from a place on, do not
abbrev pub DiffersFirst : ℕ → List (ℕ × RegRule) → List (ℕ × RegRule) → ℕ → Type 0
DiffersFirst from xs ys q = (from ≤ q) × SameBetween from q xs ys × (rule_in xs q ≡ rule_in ys q → ⊥)

-- the first register from a place on whose rule differs; none where no rule does
abbrev pub FirstDifference : ℕ → List (ℕ × RegRule) → List (ℕ × RegRule) → Option ℕ → Type 0
FirstDifference from xs ys None = (r : ℕ) → from ≤ r → rule_in xs r ≡ rule_in ys r
FirstDifference from xs ys (Some q) = DiffersFirst from xs ys q

-- ---- one behind another

-- the least register behind one, or the first of all
abbrev pub place_behind : Option ℕ → ℕ
place_behind None = 0
place_behind (Some r) = suc r
