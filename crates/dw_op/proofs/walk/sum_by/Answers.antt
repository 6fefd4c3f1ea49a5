use Rattle.dw_op.proofs.Marked.{mark_within}
use Rattle.dw_op.proofs.walk.sum_by.Goals as goal

pub cursor_behind-requires : goal.cursor_behind-requires
cursor_behind-requires c = mark_within c.args.measure c.args.window.now c.args.marks.now.items _ c.mark_at-mark.result c.requires.marks c.mark_at-mark.ensures
