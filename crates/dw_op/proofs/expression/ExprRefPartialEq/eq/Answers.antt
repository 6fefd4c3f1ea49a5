use Rattle.dw_op.proofs.Lent.Lines.{is_test_of}
use Rattle.dw_op.proofs.expression.ExprRefPartialEq.eq.Goals as goal

pub returns-clause-test : goal.returns-clause-test
returns-clause-test c = is_test_of c.args.self.now c.args.other.now c.is_same.result c.target.ensures.block c.target-2.ensures.block c.is_same.ensures
