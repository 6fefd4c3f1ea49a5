use Rattle.dw_op.proofs.{Words.{◌≡◌, ops_of}, LeastSpellings.accepted_least}
use Rattle.dw_op.proofs.expression.ExprRef.least_len.Goals as goal

pub returns : goal.returns
returns c =
    let e = c.self.inside in
    let same : c.steps.result ≡ ops_of e.target e.bytes.now = rw (← c.self.view_is) at c.steps.ensures in
    rw (← c.self.view_is) (accepted_least e.target e.bytes.now c.steps_len.result c.self.invariant.1 c.self.invariant.0 (rw same at c.steps_len.ensures))
