use Rattle.dw_dump.proofs.RangeLaws.{rise_apart, rise_from, sorted_tells}
use Rattle.dw_dump.proofs.memory.are_apart.Goals as goal

pub returns-then-ends_rise : goal.returns-then-ends_rise
returns-then-ends_rise c = rise_apart c.args.ranges.now (rise_from c.args.ranges.now c.if-ends_rise.ensures)

pub returns : goal.returns
returns c = sorted_tells c.args.ranges.now c.put_in_order.new.list.items c.ends_rise-2.result c.requires (rw c.in_ok-sorted.ensures.items at c.put_in_order.ensures.same) c.put_in_order.ensures.rises (rw c.deref.ensures.value at c.ends_rise-2.ensures)
