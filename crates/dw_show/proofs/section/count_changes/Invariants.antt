use Rattle.dw_show.proofs.Words.{◌≡◌, ◌+◌, ◌-◌, ◌^◌, ◌≤◌, length, min}
use Rattle.dw_show.proofs.section.count_changes.Given as goal

abbrev pub decreases-changes : goal.decreases-changes
decreases-changes l = length l.changes.to_come

abbrev pub invariant-changes : goal.invariant-changes
invariant-changes l =
    (l.changes.section ≡ l.initial.changes.section) × (l.count ≤ 2 ^ 64 - 1)
    × (min (l.count + length l.changes.to_come) (2 ^ 64 - 1) ≡ min (length l.initial.changes.to_come) (2 ^ 64 - 1))
