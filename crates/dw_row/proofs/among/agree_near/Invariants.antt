use Rattle.dw_row.proofs.Words.{◌≡◌, ◌-◌, ◌≤◌, LeavesAmong, in_mask, is_agreed}
use Rattle.dw_row.proofs.among.agree_near.Given as goal

abbrev pub invariant-slots : goal.invariant-slots
invariant-slots l = (l.place ≤ 128) × (l.row.cfa ≡ l.initial.row.cfa) × LeavesAmong (in_mask l.fn.mask l.place) (is_agreed l.fn.other.registers) l.initial.row.registers l.row.registers

abbrev pub decreases-slots : goal.decreases-slots
decreases-slots l = 128 - l.place
