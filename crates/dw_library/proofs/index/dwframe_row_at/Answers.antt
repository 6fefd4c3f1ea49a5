use Rattle.dw_library.proofs.Words.{inl, rules}
use Rattle.dw_library.proofs.index.dwframe_row_at.Goals as goal

pub returns-in-Ok-clause-own : goal.returns-in-Ok-clause-own
returns-in-Ok-clause-own c = rw (← c.target_of.ensures, c.in-Some.is) (λ t. (inl (c.in-Ok.ensures.own t), search rules))
