use Rattle.dw_library.proofs.Words.{◌∙◌, inl, inr, rules, sym}
use Rattle.dw_library.proofs.expressions.dwframe_expressions_at.Goals as goal

pub returns-in-Ok-None-clause-any : goal.returns-in-Ok-None-clause-any
returns-in-Ok-None-clause-any c = rw (sym c.target_of.ensures ∙ c.in-Some.is) (inl (inl (inr (rw c.in-Ok-None.field-0-is at c.in-Ok-None.ensures.found, search rules)), search rules))
