use Rattle.dw_op.proofs.{Words.IsEncodeError, Lent.EncodeLaws.encode_error}
use Rattle.dw_op.proofs.least_block.encode.Goals as goal

pub returns-clause-only : goal.returns-clause-only
returns-clause-only c = λ bytes b.
    let far : IsEncodeError c.args.list.now.target c.args.list.now.ops c.in-Err.error = rw (c.target-target.ensures, c.ops-ops.ensures.same) at c.in-Err.ensures.err in
    encode_error c.args.list.now.target c.args.list.now.ops bytes c.in-Err.error b far
