use Rattle.dw_library.proofs.JoinedBlocks.{no_rule}
use Rattle.dw_library.proofs.expressions.Gathered.add_rule.Goals as goal

pub returns-in_default : goal.returns-in_default
returns-in_default c = no_rule c.args.self.now c.args.register c.args.rule.now c.in_default.not-Expression c.in_default.not-ValExpression
