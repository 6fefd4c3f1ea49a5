-- What the rows of two programs are, in the standard's terms: DWARF 5, 6.4.3.
use Rattle.std.specs.Prelude.{◌≡◌, ℕ, List, length}
use Rattle.dw_row.specs.{Rows.{Rules, AreSpecified, rule}, declared.rule.{CfaRule.{CfaRule, TheVariants.Unset}, RegRule.{RegRule, TheVariants.Unspecified}}}
use Rattle.dw_cfa.specs.{Column.{cfa_after, rule_after}, declared.instr.Instr.Instr}

-- the initial rules: those that a CIE's program leaves
abbrev pub initial_cfa : List Instr → CfaRule
initial_cfa cie = cfa_after Unset cie (length cie)

abbrev pub initial_rule : List Instr → ℕ → RegRule
initial_rule cie r = rule_after Unspecified cie r (length cie)

-- the row has in each column the rule after k instructions of the FDE's program, and lists each register once, ascending
pub record HoldsAfter (cie fde : List Instr) (k : ℕ) (row : Rules) : Type 0 where
  pub cfa : row.cfa ≡ cfa_after (initial_cfa cie) fde k
  pub rules : (r : ℕ) → rule row r ≡ rule_after (initial_rule cie r) fde r k
  pub listed : AreSpecified 0 row.registers
