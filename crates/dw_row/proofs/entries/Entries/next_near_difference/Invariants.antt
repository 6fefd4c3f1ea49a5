use Rattle.dw_row.proofs.Words.{◌-◌, ◌≤◌, entries_of, SameBetween}
use Rattle.dw_row.proofs.entries.Entries.next_near_difference.Given as goal

abbrev pub invariant-slots : goal.invariant-slots
invariant-slots l = (l.fn.from ≤ l.place) × SameBetween l.fn.from l.place (entries_of l.self) (entries_of l.others)

abbrev pub decreases-slots : goal.decreases-slots
decreases-slots l = 128 - l.place
