use Rattle.dw_section.proofs.{Words.{inl, refuses_by}, Stages.handed_on}
use Rattle.dw_section.proofs.header.all_headers.Goals as goal

pub returns-in_err-cies-clause-first : goal.returns-in_err-cies-clause-first
returns-in_err-cies-clause-first c = handed_on c.from_residual.result _ c.from_residual.ensures.1 (refuses_by c.in_err-cies.field-0.0 _ _ (λ r h. inl h) c.in_err-cies.ensures.first)
