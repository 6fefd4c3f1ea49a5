-- What the code and its proofs say beside Difference.
use Rattle.std.specs.{Prelude.{◌≡◌, ℕ, ◌<◌, List, Option, Some, None}, Int.bit_at}
use Rattle.std.specs.declared.ops.{Bound.Bound, Bound.TheVariants.{Excluded, Unbounded}}
use Rattle.dw_row.specs.{Difference.{SameBetween, DiffersFirst}, Rows.rule_in, declared.rule.RegRule.RegRule}

-- registers below 128 whose bit in a mask is not set have the same rules
abbrev pub SameUnset : ℕ → List (ℕ × RegRule) → List (ℕ × RegRule) → Type 0
SameUnset mask xs ys = (r : ℕ) → r < 128 → bit_at mask r ≡ 0 → rule_in xs r ≡ rule_in ys r

-- the same among the registers below an end
abbrev pub FirstBelow : ℕ → ℕ → List (ℕ × RegRule) → List (ℕ × RegRule) → Option ℕ → Type 0
FirstBelow end from xs ys None = SameBetween from end xs ys
FirstBelow end from xs ys (Some q) = (q < end) × DiffersFirst from xs ys q

-- the start of what is behind it in a tree
abbrev pub start_behind : Option ℕ → Bound ℕ
start_behind None = Unbounded
start_behind (Some r) = Excluded r
