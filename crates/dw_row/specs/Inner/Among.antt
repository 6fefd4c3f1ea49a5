-- Registers in a mask and in a tree, where those are gone over one after another.
use Rattle.std.specs.{Prelude.{◌≡◌, ◌&&◌, ℕ, ◌<◌, ◌≤◌, Bool, List, nat_eq, nat_lt}, Int.bit_at}
use Rattle.dw_row.specs.{Rows.{is_specified, rule_in}, declared.rule.RegRule.{RegRule, TheVariants.Unspecified}}

-- whether a register below an end is in a mask, and whether one is in a tree
abbrev pub in_mask : ℕ → ℕ → ℕ → Bool
in_mask mask end r = nat_lt r end && nat_eq (bit_at mask r) 1

abbrev pub in_tree : List (ℕ × RegRule) → ℕ → Bool
in_tree far r = is_specified (rule_in far r)

-- those that a tree lacks, of the registers from one on, have the same rules
abbrev pub SameUnlisted : ℕ → List (ℕ × RegRule) → List (ℕ × RegRule) → List (ℕ × RegRule) → Type 0
SameUnlisted from far xs ys = (r : ℕ) → from ≤ r → rule_in far r ≡ Unspecified → rule_in xs r ≡ rule_in ys r

-- up to a register these rules were copied, and from there on all are as they were
pub record CopiedUpTo (k : ℕ) (xs old new : List (ℕ × RegRule)) : Type 0 where
  pub below : (r : ℕ) → r < k → rule_in new r ≡ rule_in xs r
  pub above : (r : ℕ) → k ≤ r → rule_in new r ≡ rule_in old r
