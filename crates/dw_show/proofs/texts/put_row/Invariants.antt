use Rattle.dw_show.proofs.{Words.{length, column_text, lines}, TextLines.Leads}
use Rattle.dw_show.proofs.texts.put_row.Given as goal

abbrev pub invariant-columns : goal.invariant-columns
invariant-columns g l = Leads g.W.Write.contents l.initial.listing (lines column_text l.fn.row.registers) l.listing (lines column_text l.columns)

abbrev pub decreases-columns : goal.decreases-columns
decreases-columns g l = length l.columns
