use Rattle.dw_library.proofs.JoinedBlocks.{no_cfa}
use Rattle.dw_library.proofs.expressions.Gathered.add_cfa.Goals as goal

pub returns-in_default : goal.returns-in_default
returns-in_default c = no_cfa c.args.self.now c.args.rule.now c.in_default.not-Expression
