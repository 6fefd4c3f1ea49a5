use Rattle.dw_eval.proofs.{Words.arith, Signed.{signed_half, signed_whole}}
use Rattle.dw_eval.proofs.arithmetic.signed.Goals as goal

pub returns-in-Four : goal.returns-in-Four
returns-in-Four c = signed_half c.args.size c.args.number c.cast_signed.result c.from.result c.in-Four.is c.cast_signed.ensures c.from.ensures

pub returns-in-Eight : goal.returns-in-Eight
returns-in-Eight c = signed_whole c.args.size c.args.number c.cast_signed-in-Eight.result c.in-Eight.is (omega arith) c.cast_signed-in-Eight.ensures
