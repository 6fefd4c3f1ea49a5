use Rattle.dw_op.proofs.Decoded.{one_fault, no_fault, some_answer}
use Rattle.dw_op.proofs.block.one_answer.Goals as goal

pub returns-clause-some_answer : goal.returns-clause-some_answer
returns-clause-some_answer c = some_answer c.args.profile c.args.target c.args.bytes.now c.are_bytes.ensures

pub returns-clause-one_fault : goal.returns-clause-one_fault
returns-clause-one_fault c = one_fault c.args.profile c.args.target c.args.bytes.now

pub returns-clause-no_fault : goal.returns-clause-no_fault
returns-clause-no_fault c = no_fault c.args.profile c.args.target c.args.bytes.now
