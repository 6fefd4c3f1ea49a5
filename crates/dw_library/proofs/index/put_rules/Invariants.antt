use Rattle.dw_library.proofs.{Words.length, Overlays.Overlaid}
use Rattle.dw_library.proofs.index.put_rules.Given as goal

abbrev pub invariant-rules : goal.invariant-rules
invariant-rules l = Overlaid l.fn.row.registers l.rules l.initial.out l.out l.count

abbrev pub decreases-rules : goal.decreases-rules
decreases-rules l = length l.rules
