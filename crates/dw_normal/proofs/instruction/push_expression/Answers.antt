use Rattle.dw_normal.proofs.Appended.{appended_expression}
use Rattle.dw_normal.proofs.instruction.push_expression.Goals as goal

pub returns : goal.returns
returns c = appended_expression c.put_least.result c.args.target c.args.expression.now c.least_len.result c.args.out.now.items c.push_uleb.new.out.items c.put_least.new.out.items c.requires c.least_len.ensures c.in_ok-push_uleb.ensures c.put_least.ensures.ok
