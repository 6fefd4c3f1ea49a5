use Rattle.dw_row.proofs.{Words.◌∙◌, RegisterSets.{agreed_by, common}}
use Rattle.dw_row.proofs.row.Row.agree_among.Goals as goal

pub returns : goal.returns
returns c =
    let near = c.agree_near.new.row.registers in let row = c.agree_far.new.row in let e = c.agree_cfa.ensures in
    agreed_by c.args.self.now c.args.other.now row c.agree_cfa.new.row (c.agree_far.ensures.cfa ∙ c.agree_near.ensures.cfa)
    (common _ c.args.registers.now c.registers.view_is c.args.self.now c.args.other.now c.requires near row c.in_ok-agree_near.ensures.rules c.in_ok-agree_far.ensures.rules) c.ascends.ensures e.cfa e.registers
