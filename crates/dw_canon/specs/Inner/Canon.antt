-- The normal form with the tests, the least blocks and the initial rows of the code.
use Rattle.std.specs.Prelude.{ℕ, List}
use Rattle.dw_num.specs.declared.target.Target.{Target}
use Rattle.dw_op.specs.Inner.LeastBlock.{least_block}
use Rattle.dw_row.specs.{Rows.Rules, Inner.Agreement.{same_cfa, same_rule}}
use Rattle.dw_cfa.specs.declared.instr.Instr.{Instr}
use Rattle.dw_canon.specs.{Group.group, Members.Member, Inner.Group.initial_row}
use Rattle.dw_canon.specs.Canon as form

-- the initial row of a return address register's FDEs
abbrev pub initial_of : List Member → ℕ → Rules
initial_of ms register = initial_row (group register ms)

abbrev pub cie_instrs : Rules → List Instr
cie_instrs = form.cie_instrs same_cfa same_rule

abbrev pub fde_instrs : Rules → Member → List Instr
fde_instrs = form.fde_instrs same_cfa same_rule

abbrev pub cie_bytes : Target → List Member → ℕ → List ℕ
cie_bytes t ms = form.cie_bytes same_cfa same_rule (least_block t) (initial_of ms) t

abbrev pub cie_at : Target → List Member → ℕ → List ℕ → ℕ → ℕ
cie_at t ms = form.cie_at same_cfa same_rule (least_block t) (initial_of ms) t

abbrev pub fde_bytes : Target → List Member → Member → List ℕ
fde_bytes t ms = form.fde_bytes same_cfa same_rule (least_block t) (initial_of ms) t ms

abbrev pub canon : Target → List Member → List ℕ
canon t ms = form.canon same_cfa same_rule (least_block t) (initial_of ms) t ms
