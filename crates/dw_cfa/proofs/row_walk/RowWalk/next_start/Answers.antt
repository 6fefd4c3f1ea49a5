use Rattle.dw_cfa.proofs.{Words.{Some, ap, sym, Walking}, Walks.walk_from}
use Rattle.dw_cfa.proofs.row_walk.RowWalk.next_start.Goals as goal

pub returns-in-Begun-clause-next : goal.returns-in-Begun-clause-next
returns-in-Begun-clause-next c row rows some =
    let w = c.self.inside in ap Some (sym ((walk_from w.progress w.leading w.fde w.machine c.args.self.now.steps c.in-Begun.is (ap (λ (k : Walking). k.steps) c.self.view_is)).first row rows some))

pub returns-in-Begun-clause-last : goal.returns-in-Begun-clause-last
returns-in-Begun-clause-last c none =
    let w = c.self.inside in absurd ((walk_from w.progress w.leading w.fde w.machine c.args.self.now.steps c.in-Begun.is (ap (λ (k : Walking). k.steps) c.self.view_is)).some none)
