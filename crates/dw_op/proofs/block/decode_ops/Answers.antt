use Rattle.dw_op.proofs.{Words.{map, map-append, bare, block_input, None, Ok, Walked, Walks}, Judgement.{check_end, check_more, check_shorter}}
use Rattle.dw_op.proofs.block.decode_ops.Goals as goal

pub ops-preserved : goal.ops-preserved
ops-preserved c =
    let on : Walked c.ops.walker c.next_op.new.self (bare c.in-Some.op) = rw c.in-Some.is at c.in_ok-op.ensures in
    rw (c.in_ok-push.ensures.items, map-append) (check_more (block_input c.args.target c.args.bytes.now) (map bare c.ops.ops.items) c.ops.walker c.next_op.new.self (bare c.in-Some.op) c.ops.invariant on)

pub ops-smaller : goal.ops-smaller
ops-smaller c =
    let on : Walked c.ops.walker c.next_op.new.self (bare c.in-Some.op) = rw c.in-Some.is at c.in_ok-op.ensures in
    check_shorter c.ops.walker c.next_op.new.self (bare c.in-Some.op) c.ops.invariant.so on

pub returns-clause-found : goal.returns-clause-found
returns-clause-found c =
    let ended : Walks c.ops.walker c.next_op.new.self (Ok None) = rw c.in_default.is at c.in_ok-op.ensures in
    check_end c.args.profile (block_input c.args.target c.args.bytes.now) (map bare c.ops.ops.items) c.ops.walker c.in_ok-has_branch.ensures.read c.ops.invariant ended.0
