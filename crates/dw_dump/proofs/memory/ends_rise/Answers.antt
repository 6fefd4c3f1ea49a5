use Rattle.dw_dump.proofs.{Words.{◌-◌, arith}, RangeLaws.neighbours_at}
use Rattle.dw_dump.proofs.memory.ends_rise.Goals as goal

pub returns-then-from-before : goal.returns-then-from-before
returns-then-from-before c = (c.loop-i.i - 1, omega arith, λ d. neighbours_at c.args.list.now c.loop-i.i d _ (omega arith) (omega arith) (rw (c.from.ensures, c.from-in-loop-i.ensures) at c.if-from-before.true))
