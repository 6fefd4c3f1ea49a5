use Rattle.dw_show.proofs.{Words.{◌≡◌, length, AllByRecursion, row_text, lines}, Members.IsLow, TextLines.Leads}
use Rattle.dw_show.proofs.rows.put_changes.Given as goal

abbrev pub decreases-changes : goal.decreases-changes
decreases-changes g l = length l.changes.to_come

abbrev pub invariant-changes : goal.invariant-changes
invariant-changes g l =
    (l.changes.section ≡ l.initial.changes.section) × AllByRecursion IsLow l.changes.to_come
    × Leads g.W.Write.contents l.fn.out (lines row_text l.initial.changes.to_come) l.out (lines row_text l.changes.to_come)
