use Rattle.dw_row.proofs.Words.{◌≡◌, ◌≤◌, length, SameBefore, KeptSo}
use Rattle.dw_row.proofs.states.take_back.Given as goal

abbrev pub invariant-changes : goal.invariant-changes
invariant-changes l =
    (l.from ≤ length l.changes.items) × SameBefore l.from l.initial.row.registers l.initial.changes.items l.row.registers l.changes.items × (l.kept.row ≡ l.initial.kept.row) × KeptSo l.kept l.row.registers

abbrev pub decreases-changes : goal.decreases-changes
decreases-changes l = length l.changes.items
