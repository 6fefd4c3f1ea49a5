use Rattle.dw_show.proofs.Words.{take, Adds, entry_text, lines}
use Rattle.dw_show.proofs.section.put_entries.Given as goal

abbrev pub invariant-loop-entry : goal.invariant-loop-entry
invariant-loop-entry g l = Adds g.W.Write.contents l.fn.out l.out (lines entry_text (take l.entry-index l.fn.list))
