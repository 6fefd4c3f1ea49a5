use Rattle.dw_row.proofs.{Words.arith, Slots.{both_halves, first_low}}
use Rattle.dw_row.proofs.near_slots.next_in.Goals as goal

pub returns-in-Some : goal.returns-in-Some
returns-in-Some c = first_low c.args.mask c.args.place c.in-Some.bit c.in-Some.ensures

pub returns-in-None : goal.returns-in-None
returns-in-None c = both_halves c.args.mask c.args.place c.next_high-in-None.result (omega (arith, c.if-place-ge64.false)) c.in-None.ensures c.next_high-in-None.ensures
