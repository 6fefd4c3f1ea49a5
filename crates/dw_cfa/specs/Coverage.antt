-- Rows that leave an address without a rule for the CFA: DWARF 5, 6.4.1.
use Rattle.std.specs.Prelude.{◌≡◌, ℕ, ◌<◌, List, Some}
use Rattle.dw_row.specs.{Rows.Rules, declared.rule.CfaRule.TheVariants.Unset}
use Rattle.dw_cfa.specs.{RuleAt.last_at, declared.execution.LocatedRow.LocatedRow}

-- of an address below the end the row has none
pub record Lacks (end : ℕ) (rows : List LocatedRow) : Type 0 where
  pub address : ℕ
  pub below : address < end
  pub row : Rules
  pub last : last_at address rows ≡ Some row
  pub unset : row.cfa ≡ Unset
