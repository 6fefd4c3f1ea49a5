use Rattle.dw_normal.proofs.Words.{rule, test_of}
use Rattle.dw_normal.proofs.program.is_restored.Goals as goal

pub returns : goal.returns
returns c = test_of (rule c.args.row.now c.args.register) (rule c.args.initial.now c.args.register) c.has_same_rule.result c.has_same_rule.ensures
