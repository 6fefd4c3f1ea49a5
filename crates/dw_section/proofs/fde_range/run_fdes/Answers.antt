use Rattle.dw_section.proofs.{Words.{inl, refuses_by}, Stages.handed_on}
use Rattle.dw_section.proofs.fde_range.run_fdes.Goals as goal

pub returns-in_err-ran-clause-first : goal.returns-in_err-ran-clause-first
returns-in_err-ran-clause-first c = handed_on c.from_residual-in_err-ran.result _ c.from_residual-in_err-ran.ensures.1 (refuses_by c.in_err-ran.field-0.0 _ _ (λ r h. inl h) c.in_err-ran.ensures.first)

pub returns : goal.returns
returns c = let w = c.in_ok-ran.ensures.found in record { found = c.ordered.ensures.found c.args.target c.args.bytes.now w; first = c.ordered.ensures.first c.args.target c.args.bytes.now w }
