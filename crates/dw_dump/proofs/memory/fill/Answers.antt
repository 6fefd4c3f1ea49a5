use Rattle.dw_eval.proofs.Lent.MemoryBytes.{bytes_missing, bytes_all}
use Rattle.dw_dump.proofs.{Words.{◌+◌, ◌^◌, ◌≤◌, ℕ, length, arith, sym, byte_among}, RangeLaws.{byte_past, end_below}}
use Rattle.dw_dump.proofs.memory.fill.Goals as goal

pub returns-in_default : goal.returns-in_default
returns-in_default c =
    let past = c.in_default.ensures in
    let high : 2 ^ 64 ≤ c.args.address + c.loop-i.i = omega arith in
    bytes_missing (λ (a : ℕ). byte_among c.args.bytes.now a c.args.ranges.now) c.args.address (length c.args.buffer.now) c.loop-i.i (omega arith)
    (byte_past c.args.bytes.now (c.args.address + c.loop-i.i) (2 ^ 64) c.args.ranges.now (end_below (2 ^ 64) (length c.args.bytes.now) c.args.ranges.now c.requires.within) high)

pub returns-in_default-byte_at : goal.returns-in_default-byte_at
returns-in_default-byte_at c =
    let place = c.in-Some.ensures in
    bytes_missing (λ (a : ℕ). byte_among c.args.bytes.now a c.args.ranges.now) c.args.address (length c.args.buffer.now) c.loop-i.i (omega arith)
    (rw (place.1) at (sym c.in_default-byte_at.ensures))

pub returns : goal.returns
returns c =
    let all = bytes_all (λ (a : ℕ). byte_among c.args.bytes.now a c.args.ranges.now) c.args.address c.loop-i.buffer (λ k lt. c.loop-i.invariant k (omega arith)) in
    rw (c.loop-i.auto.buffer) at all
