use Rattle.dw_row.proofs.{Words.HasRoom, Copied.CopiedBut}
use Rattle.dw_row.proofs.near_slots.copy_slots.Given as goal

abbrev pub invariant-slots : goal.invariant-slots
invariant-slots l = HasRoom l.slots × CopiedBut l.left l.fn.mask l.fn.others l.initial.slots l.slots

abbrev pub decreases-slots : goal.decreases-slots
decreases-slots l = l.left
