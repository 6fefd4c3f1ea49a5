-- The bytes of an instruction with the least blocks that the code writes.
use Rattle.std.specs.Prelude.{ℕ, List}
use Rattle.dw_num.specs.declared.target.Target.{Target}
use Rattle.dw_op.specs.Expression.{Expression}
use Rattle.dw_op.specs.Inner.LeastBlock.{least_block}
use Rattle.dw_row.specs.declared.rule.RegRule.{RegRule}
use Rattle.dw_cfa.specs.declared.instr.Instr.{Instr}
use Rattle.dw_canon.specs.Spelling as spelling

abbrev pub expression_bytes : Target → Expression → List ℕ
expression_bytes t e = spelling.counted_block (least_block t e.ops)

abbrev pub rule_bytes : Target → ℕ → RegRule → List ℕ
rule_bytes t = spelling.rule_bytes (least_block t)

abbrev pub instr_bytes : Target → Instr → List ℕ
instr_bytes t = spelling.instr_bytes (least_block t) t

abbrev pub program_bytes : Target → List Instr → List ℕ
program_bytes t = spelling.program_bytes (least_block t) t
