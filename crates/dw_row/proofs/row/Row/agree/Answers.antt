use Rattle.dw_row.proofs.RegisterSets.{agreed_by}
use Rattle.dw_row.proofs.row.Row.agree.Goals as goal

pub returns : goal.returns
returns c =
    let d = c.agree_registers.ensures in let e = c.agree_cfa.ensures in
    agreed_by c.args.self.now c.args.other.now c.agree_registers.new.row c.agree_cfa.new.row d.cfa d.rules d.listed e.cfa e.registers
