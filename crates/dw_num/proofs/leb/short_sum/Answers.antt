use Rattle.dw_num.proofs.{Words.{arith, ◌+◌, ◌*◌, ◌^◌, ◌%◌}, LebLemmas.{Grows, grows}, leb.short_sum.Goals.After-from}
use Rattle.dw_num.proofs.leb.short_sum.Goals as goal

grown : (c : After-from) → Grows c.args.spelling.now c.loop-i.i (c.loop-i.total + (c.from.result * 2 ^ (7 * c.loop-i.i)) % 2 ^ 64)
grown c = grows c.args.spelling.now c.loop-i.i c.loop-i.total c.from.result c.loop-i-test.true (omega (arith, c.requires, c.loop-i-test.true)) c.from.ensures c.loop-i.invariant.total c.loop-i.invariant.small

pub overflow_add-total : goal.overflow_add-total
overflow_add-total c = omega (arith, (grown (goal.at.overflow_add-total c).After-from).fits)

pub loop-i-preserved : goal.loop-i-preserved
loop-i-preserved c = let g = grown (goal.at.loop-i-preserved c).After-from in record {
  total = g.sum;
  small = g.small;
}
