use Rattle.dw_library.proofs.Words.{rules}
use Rattle.dw_library.proofs.rows.dwframe_changes_at.Goals as goal

pub returns-in-Ok-clause-own : goal.returns-in-Ok-clause-own
returns-in-Ok-clause-own c = rw (← c.target_of.ensures, c.in-Some.is) (λ t. (c.in-Ok.ensures.own t, search rules))
