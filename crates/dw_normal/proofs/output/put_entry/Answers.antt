use Rattle.dw_normal.proofs.{Words.{refl, arith, length}, Joined.{held_long, sized_long, full_puts, untrue}}
use Rattle.dw_normal.proofs.output.put_entry.Goals as goal

pub returns-in_err-len-clause-puts : goal.returns-in_err-len-clause-puts
returns-in_err-len-clause-puts g c = λ contents h.
    full_puts _ _ c.from_residual.result _ _ _ c.from_residual.ensures.1 c.in_err-len.ensures.full.0
    (omega (arith, c.in_err-len.ensures.full.1, held_long h, sized_long c.args.order (length contents) contents))

pub returns-then-out-clause-puts : goal.returns-then-out-clause-puts
returns-then-out-clause-puts g c = λ contents h.
    (refl, omega (arith, c.in_ok-len.ensures.fits, held_long h, sized_long c.args.order (length contents) contents), λ not. untrue c.args.out.now.counts not c.if-out.true)
