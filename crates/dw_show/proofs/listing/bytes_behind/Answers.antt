use Rattle.dw_show.proofs.Digits.{first_byte}
use Rattle.dw_show.proofs.listing.bytes_behind.Goals as goal

pub returns-clause-below : goal.returns-clause-below
returns-clause-below c = (first_byte c.args.number c.min.result c.ranges.number.fits c.min.ensures).0

pub returns-clause-some : goal.returns-clause-some
returns-clause-some c = (first_byte c.args.number c.min.result c.ranges.number.fits c.min.ensures).1
