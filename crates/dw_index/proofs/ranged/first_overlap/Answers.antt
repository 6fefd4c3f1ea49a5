use Rattle.std.proofs.{Common.{map, take, arith, get_or}, lemmas.List.map_more}
use Rattle.dw_index.specs.Ranges.{range_in}
use Rattle.dw_index.proofs.Ordered.{none, overlap_at, overlap_more}
use Rattle.dw_index.proofs.ranged.first_overlap.Goals as goal

pub returns-then-begin-greatest : goal.returns-then-begin-greatest
returns-then-begin-greatest c =
    let at = c.loop-fde in
    rw c.from.ensures (overlap_at c.args.list.now at.fde-index none at.greatest c.loop-fde-test.true at.invariant (omega (arith, c.if-begin-greatest.true, c.from-begin.ensures)))

pub loop-fde-preserved : goal.loop-fde-preserved
loop-fde-preserved c =
    let xs = c.args.list.now in
    let at = c.loop-fde in
    rw (map_more range_in xs at.fde-index none c.loop-fde-test.true, c.from-begin.ensures, c.from-in-loop-fde.ensures)
    (overlap_more (map range_in (take at.fde-index xs)) (range_in (get_or xs at.fde-index none)) at.greatest at.invariant (omega (arith, c.if-begin-greatest.false, c.from-begin.ensures)))
