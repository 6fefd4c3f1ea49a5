use Rattle.dw_op.proofs.{Words.{◌≡◌, ◌+◌, map, arith, Addr, bare, start, blank_parts}, Lent.EncodeLaws.{start_next, starts_more}}
use Rattle.dw_op.proofs.least_block.least_starts.Goals as goal

pub loop-op-preserved : goal.loop-op-preserved
loop-op-preserved c =
    let parts = blank_parts c.args.target (map bare c.args.ops.now) in
    let k = c.loop-op.op-index in
    let len = c.op_least_len.ensures 0 in
    let next = start_next c.args.target c.args.ops.now k (Addr 0) (omega arith) in
    let end : c.in-Some.next ≡ start parts (k + 1) = omega (arith, c.in-Some.ensures, c.loop-op.invariant.end) in
    record {
      starts = rw c.in_ok-push-2.ensures.items (starts_more parts k c.in-Some.next c.loop-op.starts.items c.loop-op.invariant.starts end);
      end = end;
    }
