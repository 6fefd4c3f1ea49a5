use Rattle.dw_normal.proofs.Words.{◌≡◌, ◌++◌, ◌≤◌, length, Stand, later_bytes}
use Rattle.dw_normal.proofs.program.push_later.Given as goal

abbrev pub invariant-changes : goal.invariant-changes
invariant-changes l =
    Stand l.target l.shared l.at l.changes
    × (l.out.items ++ later_bytes l.target l.shared l.at l.changes ≡ l.initial.out.items ++ later_bytes l.target l.shared l.initial.at l.initial.changes)
    × (length l.changes.to_come ≤ length l.initial.changes.to_come)
    × (l.changes.section ≡ l.initial.changes.section)

abbrev pub decreases-changes : goal.decreases-changes
decreases-changes l = length l.changes.to_come
