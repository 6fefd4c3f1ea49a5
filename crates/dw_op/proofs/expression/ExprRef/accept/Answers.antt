use Rattle.dw_op.proofs.{Words.{refl, err_from_is_err_and, Frame}, Judgement.{accepted_block, block_ops, refused_none}, Lent.Blocks.fault_found, Lent.FaultPlaces.fault_within}
use Rattle.dw_op.proofs.expression.ExprRef.accept.Goals as goal

pub returns-in_err-judge-clause-only : goal.returns-in_err-judge-clause-only
returns-in_err-judge-clause-only c =
    let p = err_from_is_err_and c.from_residual.result c.from_residual.ensures.1 in
    rw p.1 (λ ops block. refused_none c.args.target c.args.bytes.now ops c.in_err-judge.field-0.0 block c.in_err-judge.ensures.first)

pub returns-in_err-judge-clause-within : goal.returns-in_err-judge-clause-within
returns-in_err-judge-clause-within c =
    let p = err_from_is_err_and c.from_residual.result c.from_residual.ensures.1 in
    rw (p.1, p.2)
    (fault_within Frame c.args.target c.args.bytes.now c.in_err-judge.field-0.0 (fault_found Frame c.args.target c.args.bytes.now c.in_err-judge.field-0.0 c.are_bytes.ensures c.in_err-judge.ensures.first))

pub returns-clause-found : goal.returns-clause-found
returns-clause-found c = (refl, accepted_block c.args.target c.args.bytes.now c.are_bytes.ensures c.in_ok-judge.ensures.found)

pub returns-clause-only : goal.returns-clause-only
returns-clause-only c ops block = block_ops c.args.target c.args.bytes.now ops block
