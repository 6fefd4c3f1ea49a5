use Rattle.dw_row.proofs.{Words.{ap, ◌∙◌, Rules}, RegisterSets.one_agreed}
use Rattle.dw_row.proofs.in_common.agree_registers.Goals as goal

pub registers-preserved : goal.registers-preserved
registers-preserved c =
    let inv = c.registers.invariant in let d = c.in-Some.ensures in let dropped = c.drop_register.ensures in
    (ap (λ (row : Rules). row.cfa) dropped ∙ inv.0, one_agreed inv.1 d.first d.ascending (ap (λ (row : Rules). row.registers) dropped))
