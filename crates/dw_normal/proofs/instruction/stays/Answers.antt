use Rattle.dw_normal.proofs.Words.{cfa_test_of}
use Rattle.dw_normal.proofs.instruction.stays.Goals as goal

pub returns : goal.returns
returns c = cfa_test_of c.args.old.now c.args.new.now c.is_same.result c.is_same.ensures
