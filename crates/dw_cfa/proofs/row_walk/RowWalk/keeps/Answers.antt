use Rattle.dw_cfa.proofs.{Words.{ap, Walking}, Walks.begun_unknown}
use Rattle.dw_cfa.proofs.row_walk.RowWalk.keeps.Goals as goal

pub returns-in-Begun-clause-exact : goal.returns-in-Begun-clause-exact
returns-in-Begun-clause-exact c =
    let w = c.self.inside in let now = c.args.self.now in
    begun_unknown w.leading w.fde w.machine now.steps now.initial c.args.row.now w.progress c.in-Begun.is (ap (λ (k : Walking). k.steps) c.self.view_is) (ap (λ (k : Walking). k.initial) c.self.view_is)
