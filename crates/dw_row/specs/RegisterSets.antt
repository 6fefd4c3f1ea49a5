-- Sets of registers, and rows that differ in these alone: DWARF 5, 6.4.1. `Registers` is how the code keeps a set, by its mask; which
-- registers are in it is `has`, and a reader needs that alone.
use Rattle.std.specs.{Prelude.{◌≡◌, ◌⊎◌, ℕ, ◌<◌, Bool, false, List, nat_eq, nat_lt, if◌then◌else◌}, Int.bit_at}
use Rattle.dw_row.specs.{Rows.{Rules, is_specified, rule, rule_in}, declared.rule.RegRule.{RegRule, TheVariants.Unspecified}}

-- those below 128 by the bits of a number, and the others by a list in which each has some rule
pub record Registers : Type 0 where
  pub near : ℕ
  pub far : List (ℕ × RegRule)

-- whether a register is in the set
abbrev pub has : Registers → ℕ → Bool
has registers r = if nat_lt r 128 then nat_eq (bit_at registers.near r) 1 else is_specified (rule_in registers.far r)

-- all registers outside a set have the same rules in both rows
abbrev pub SameBeside : Registers → Rules → Rules → Type 0
SameBeside registers row other = (r : ℕ) → has registers r ≡ false → rule row r ≡ rule other r

-- a row gives none outside a set a rule that another row does not give it
abbrev pub AgreesBeside : Registers → Rules → Rules → Type 0
AgreesBeside registers row other = (r : ℕ) → has registers r ≡ false → (rule row r ≡ Unspecified) ⊎ (rule row r ≡ rule other r)

-- of the registers below 128 a row specifies none but those in a mask
abbrev pub SpecifiesIn : ℕ → Rules → Type 0
SpecifiesIn mask row = (r : ℕ) → r < 128 → bit_at mask r ≡ 0 → rule row r ≡ Unspecified
