use Rattle.dw_row.proofs.Slots.{first_high, none_high}
use Rattle.dw_row.proofs.near_slots.next_high.Goals as goal

pub returns-in-Some : goal.returns-in-Some
returns-in-Some c = first_high c.args.mask c.args.place c.in-Some.bit c.requires.from c.in-Some.ensures

pub returns-in-None : goal.returns-in-None
returns-in-None c = none_high c.args.mask c.args.place c.requires.from c.in-None.ensures
