use Rattle.dw_row.proofs.{Words.{◌≡◌, ◌-◌, place_behind}, RegisterSets.AgreedUpTo}
use Rattle.dw_row.proofs.in_common.agree_registers.Given as goal

abbrev pub invariant-registers : goal.invariant-registers
invariant-registers l = (l.row.cfa ≡ l.initial.row.cfa) × AgreedUpTo (place_behind l.behind) l.initial.row.registers l.fn.other.registers l.row.registers

abbrev pub decreases-registers : goal.decreases-registers
decreases-registers l = 65536 - place_behind l.behind
