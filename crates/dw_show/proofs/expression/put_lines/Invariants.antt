use Rattle.dw_show.proofs.{Words.{drop, numbered}, TextLines.Leads}
use Rattle.dw_show.proofs.expression.put_lines.Given as goal

abbrev pub invariant-loop-index : goal.invariant-loop-index
invariant-loop-index g l = Leads g.W.Write.contents l.fn.out (numbered 0 l.fn.ops) l.out (numbered l.index (drop l.index l.fn.ops))
