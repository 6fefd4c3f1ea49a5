use Rattle.std.proofs.Common.{map, take}
use Rattle.dw_index.specs.{Ranges.{AreApart, range_in}, Inner.Index.EndsAt}
use Rattle.dw_index.proofs.ranged.first_overlap.Given as goal

abbrev pub invariant-loop-fde : goal.invariant-loop-fde
invariant-loop-fde l = AreApart (map range_in (take l.fde-index l.list)) × EndsAt (map range_in (take l.fde-index l.list)) l.greatest
