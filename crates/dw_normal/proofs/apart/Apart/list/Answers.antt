use Rattle.dw_normal.proofs.Words.{ap, row_or_blank}
use Rattle.dw_normal.proofs.apart.Apart.list.Goals as goal

pub list_behind-requires : goal.list_behind-requires
list_behind-requires c = rw (c.in-Some.is, ap row_or_blank c.in-Some-row.ensures) at c.requires.known

pub returns-clause-stands : goal.returns-clause-stands
returns-clause-stands c = rw (ap row_or_blank c.in-Some-row.ensures) (λ is. c.in_ok-list_behind.ensures.lists)

pub returns-clause-known : goal.returns-clause-known
returns-clause-known c = rw (c.in-Some.is, ap row_or_blank c.in-Some-row.ensures) c.in_ok-list_behind.ensures.known
