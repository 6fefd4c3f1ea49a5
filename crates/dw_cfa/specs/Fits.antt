-- Rules that instructions can give: DWARF 5, 6.4.2.
use Rattle.std.specs.{Prelude.{◌≡◌, ℕ, ◌<◌, ◌^◌, List, length}, List.AllByRecursion}
use Rattle.dw_num.specs.declared.target.Target.{Target}
use Rattle.dw_op.specs.{Block.FrameBlock, Expression.Expression}
use Rattle.dw_row.specs.{Rows.{Rules, AreSpecified}, declared.rule.{CfaRule.CfaRule, RegRule.RegRule}}
use Rattle.dw_row.specs.declared.rule.CfaRule.TheVariants as cfa
use Rattle.dw_row.specs.declared.rule.RegRule.TheVariants as rules
use Rattle.dw_cfa.specs.InstrSpells.{IsOffset}

-- an expression of the target that has a block whose length can be spelled
abbrev pub HasBlock : Target → Expression → Type 0
HasBlock t e = (e.target ≡ t) × ((block : List ℕ) × FrameBlock t e.ops block × (length block < 2 ^ 64))

abbrev pub CfaFits : Target → CfaRule → Type 0
CfaFits t cfa.Unset = Unit {0}
CfaFits t (cfa.Register r n) = (r < 65536) × IsOffset n
CfaFits t (cfa.Expression e) = HasBlock t e

abbrev pub RuleFits : Target → RegRule → Type 0
RuleFits t (rules.Offset n) = IsOffset n
RuleFits t (rules.ValOffset n) = IsOffset n
RuleFits t (rules.Register q) = q < 65536
RuleFits t (rules.Expression e) = HasBlock t e
RuleFits t (rules.ValExpression e) = HasBlock t e
RuleFits t other = Unit {0}

-- the rules of a row
pub record RowFits (t : Target) (row : Rules) : Type 0 where
  pub cfa : CfaFits t row.cfa
  pub registers : AllByRecursion (λ (entry : ℕ × RegRule). (entry.0 < 65536) × RuleFits t entry.1) row.registers
  pub listed : AreSpecified 0 row.registers
