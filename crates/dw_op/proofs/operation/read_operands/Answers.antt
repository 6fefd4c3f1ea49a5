use Rattle.dw_op.proofs.{Words.{arith, rules}, Lent.ReadingLaws.breg_form}
use Rattle.dw_op.proofs.operation.read_operands.Goals as goal

pub returns-in_ok-sleb-in-112-to-143 : goal.returns-in_ok-sleb-in-112-to-143
returns-in_ok-sleb-in-112-to-143 c = rw (breg_form c.args.cursor.now.target c.args.code (omega arith) (omega arith), c.from-in-112-to-143.ensures) (search rules)
