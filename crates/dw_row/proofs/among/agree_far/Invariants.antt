use Rattle.dw_row.proofs.{Words.{◌≡◌, length, AreSpecified, is_agreed}, RegisterSets.StillLeaves}
use Rattle.dw_row.proofs.among.agree_far.Given as goal

abbrev pub invariant-registers : goal.invariant-registers
invariant-registers l = AreSpecified 128 l.registers × (l.row.cfa ≡ l.initial.row.cfa) × StillLeaves (is_agreed l.fn.other.registers) l.fn.far.entries l.initial.row.registers l.registers l.row.registers

abbrev pub decreases-registers : goal.decreases-registers
decreases-registers l = length l.registers
