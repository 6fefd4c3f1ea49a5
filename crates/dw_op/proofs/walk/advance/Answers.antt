use Rattle.dw_op.proofs.{Words.{arith, bare_step}, WalkStarts.{room_for, shifted_more}}
use Rattle.dw_op.proofs.walk.advance.Goals as goal

pub ops-preserved : goal.ops-preserved
ops-preserved c =
    shifted_more c.args.measure c.args.window.now c.args.low c.ops.count c.ops.window (bare_step c.in-Ok.step) c.next_step.new.cursor c.added-count.result c.ops.invariant c.in-Ok.ensures (omega arith) (rw c.target-target.ensures at c.added-count.ensures)

pub overflow_add-count : goal.overflow_add-count
overflow_add-count c =
    omega (arith, room_for c.args.measure c.args.window.now c.args.low c.ops.count c.ops.window (bare_step c.in-Ok.step) c.next_step.new.cursor c.added-count.result c.ops.invariant c.in-Ok.ensures (rw c.target-target.ensures at c.added-count.ensures))
