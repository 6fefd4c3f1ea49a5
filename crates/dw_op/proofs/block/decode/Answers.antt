use Rattle.dw_op.proofs.{Words.{map, refl, err_from_is_err_and, refuses_by, bare}, Decoded.{only_memory, one_list}, Lent.Blocks.{block_found, fault_found}, Lent.FaultPlaces.fault_within}
use Rattle.dw_op.proofs.block.decode.Goals as goal

pub returns-in_err-decode_ops-clause-only : goal.returns-in_err-decode_ops-clause-only
returns-in_err-decode_ops-clause-only c =
    let p = err_from_is_err_and c.from_residual.result c.from_residual.ensures.1 in
    rw (p.1, p.2) (λ ops block. only_memory c.args.profile c.args.target c.args.bytes.now ops c.in_err-decode_ops.field-0.0 block c.in_err-decode_ops.ensures.first)

pub returns-in_err-decode_ops-clause-within : goal.returns-in_err-decode_ops-clause-within
returns-in_err-decode_ops-clause-within c =
    let p = err_from_is_err_and c.from_residual.result c.from_residual.ensures.1 in
    rw (p.1, p.2) (refuses_by c.in_err-decode_ops.field-0.0 _ _
    (λ r e. fault_within c.args.profile c.args.target c.args.bytes.now r (fault_found c.args.profile c.args.target c.args.bytes.now r c.are_bytes.ensures e)) c.in_err-decode_ops.ensures.first)

pub returns-clause-only : goal.returns-clause-only
returns-clause-only c ops block =
    one_list c.args.profile c.args.target c.args.bytes.now (map bare c.decode_ops.new.ops.items) ops (block_found c.args.profile c.args.target c.args.bytes.now (map bare c.decode_ops.new.ops.items) c.are_bytes.ensures c.in_ok-decode_ops.ensures.found) block

pub returns-clause-found : goal.returns-clause-found
returns-clause-found c = (refl, block_found c.args.profile c.args.target c.args.bytes.now (map bare c.decode_ops.new.ops.items) c.are_bytes.ensures c.in_ok-decode_ops.ensures.found)
