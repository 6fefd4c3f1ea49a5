use Rattle.dw_cfa.proofs.{Words.{ap, Walking}, StaySpecified.cie_keeps}
use Rattle.dw_cfa.proofs.row_walk.RowWalk.cie_keeps.Goals as goal

pub returns : goal.returns
returns c row =
    let w = c.self.inside in let now = c.args.self.now in
    cie_keeps w.progress w.leading w.fde w.machine now.steps now.initial row (ap (λ (k : Walking). k.steps) c.self.view_is) (ap (λ (k : Walking). k.initial) c.self.view_is) c.self.invariant.keeps
