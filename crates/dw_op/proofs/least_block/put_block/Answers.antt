use Rattle.dw_op.proofs.{Words.{Ok, None, Walks, Walked, bare}, LeastSpellings.{put_bad, put_near, put_end}}
use Rattle.dw_op.proofs.least_block.put_block.Goals as goal

pub returns-in_default-next-clause-all : goal.returns-in_default-next-clause-all
returns-in_default-next-clause-all c =
    let ended : Walks c.ops.walker c.next_op.new.self (Ok None) = rw c.in_default-next.is at c.in-Ok.ensures in
    put_end c.args.target c.args.bytes.now c.args.out.now.items c.ops.walker c.ops.out.items c.ops.invariant ended.0

pub near_bits-requires : goal.near_bits-requires
near_bits-requires c =
    let on : Walked c.ops.walker c.next_op.new.self (bare c.in-Some.op) = rw c.in-Some.is at c.in-Ok.ensures in
    put_near c.args.target c.args.bytes.now c.args.out.now.items c.ops.walker c.next_op.new.self (bare c.in-Some.op) c.ops.out.items c.requires c.ops.invariant on

pub unreachable-requires : goal.unreachable-requires
unreachable-requires c = put_bad c.args.target c.args.bytes.now c.args.out.now.items c.ops.walker c.ops.out.items c.in_default.field-0 c.requires c.ops.invariant c.in_default.ensures
