use Rattle.dw_dump.proofs.{Words.arith, Numbers.grows}
use Rattle.dw_dump.proofs.line.number_in.Goals as goal

pub overflow_mul-number : goal.overflow_mul-number
overflow_mul-number c =
    let g = grows c.loop-c.number c.args.base c.in-Some.value c.loop-c.c-index c.loop-c.invariant.small c.requires.base c.in-Some.ensures.small (omega arith) in
    rw c.from.ensures (omega (arith, g.fits))

pub overflow_add-number : goal.overflow_add-number
overflow_add-number c =
    let g = grows c.loop-c.number c.args.base c.in-Some.value c.loop-c.c-index c.loop-c.invariant.small c.requires.base c.in-Some.ensures.small (omega arith) in
    rw (c.from.ensures, c.from-in-loop-c.ensures) (omega (arith, g.fits))
