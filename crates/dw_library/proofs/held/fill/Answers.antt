use Rattle.dw_library.proofs.Words.{length, arith, sym, byte_among, bytes_missing, bytes_all}
use Rattle.dw_library.proofs.held.fill.Goals as goal

pub returns-in_default : goal.returns-in_default
returns-in_default c = bytes_missing (byte_among c.args.bytes.now c.args.windows.now) c.args.address (length c.args.buffer.now) c.loop-i.i (omega arith) (rw (c.from.ensures) at (sym c.in_default.ensures))

pub returns : goal.returns
returns c =
    let all = bytes_all (byte_among c.args.bytes.now c.args.windows.now) c.args.address c.loop-i.buffer (λ k lt. c.loop-i.invariant k (omega arith)) in
    rw (c.loop-i.auto.buffer) at all
