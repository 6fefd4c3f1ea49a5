use Rattle.dw_cfa.proofs.{Words.{subst, AreBytes, Walking}, Lent.Given.given_runs}
use Rattle.dw_cfa.proofs.row_walk.RowWalk.go_to.Goals as goal

pub returns-clause-runs : goal.returns-clause-runs
returns-clause-runs c = given_runs _ _ _ _ _ _ c.begin.ensures.steps (subst (λ (w : Walking). AreBytes w.led.program.bytes) c.self.view_is c.are_bytes.ensures) c.are_bytes-2.ensures c.requires
