use Rattle.dw_op.proofs.{Words.{[], ◌∷◌, ◌++◌, bare, block_input, Frame, None, Ok, Walked, Walks}, Judgement.{check_end, check_more, check_shorter}}
use Rattle.dw_op.proofs.block.judge.Goals as goal

pub ops-preserved : goal.ops-preserved
ops-preserved c =
    let so = c.ops.invariant in
    let on : Walked c.ops.walker c.next_op.new.self (bare c.in-Some.field-0) = rw c.in-Some.is at c.in_ok-next_op.ensures in
    (so.0 ++ bare c.in-Some.field-0 ∷ [], check_more (block_input c.args.target c.args.bytes.now) so.0 c.ops.walker c.next_op.new.self (bare c.in-Some.field-0) so.1 on)

pub ops-smaller : goal.ops-smaller
ops-smaller c =
    let on : Walked c.ops.walker c.next_op.new.self (bare c.in-Some.field-0) = rw c.in-Some.is at c.in_ok-next_op.ensures in
    check_shorter c.ops.walker c.next_op.new.self (bare c.in-Some.field-0) c.ops.invariant.1.so on

pub returns-clause-found : goal.returns-clause-found
returns-clause-found c =
    let so = c.ops.invariant in let ended : Walks c.ops.walker c.next_op.new.self (Ok None) = rw c.in_default.is at c.in_ok-next_op.ensures in
    (so.0, check_end Frame (block_input c.args.target c.args.bytes.now) so.0 c.ops.walker c.in_ok-has_branch.ensures.read so.1 ended.0)
