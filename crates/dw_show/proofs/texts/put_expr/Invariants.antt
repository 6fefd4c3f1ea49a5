use Rattle.dw_show.proofs.{Words.{◌≤◌, length, operations_text}, OpLines.left_text, TextLines.Leads}
use Rattle.dw_show.proofs.texts.put_expr.Given as goal

abbrev pub invariant-loop-op : goal.invariant-loop-op
invariant-loop-op g l =
    (length l.between ≤ 2) × Leads g.W.Write.contents l.initial.out (operations_text l.fn.expression.ops) l.out (left_text l.between l.op-iterator)
