use Rattle.dw_op.proofs.{Words.{◌-◌, arith}, Marked.fill_more}
use Rattle.dw_op.proofs.walk.fill.Goals as goal

pub marks-preserved : goal.marks-preserved
marks-preserved c =
    rw (c.push.ensures.items, c.in-Ok-Ok.ensures.1, c.in-Ok-Ok.ensures'.1)
    (fill_more c.args.measure c.args.window.now c.marks.marks.items c.marks.low c.marks.count c.advance-count.result (c.left-left.result - c.left.result) c.marks.cursor c.advance-count.new.window c.marks.invariant c.advance-count.ensures.shifted
    (omega (arith, c.left-left.ensures, c.left.ensures)))
