use Rattle.dw_index.specs.Inner.Index.{BeginsRise}
use Rattle.dw_index.proofs.ranged.begins_rise.Given as goal

abbrev pub invariant-loop-i : goal.invariant-loop-i
invariant-loop-i l = BeginsRise l.i l.list
