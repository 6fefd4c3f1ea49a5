use Rattle.dw_section.proofs.{Lent.CheckFirst.fault_or_accepted, FaultPlaces.{check_within, errors_within}, FirstFault.only_answer}
use Rattle.dw_section.proofs.table.check.Goals as goal

pub returns-clause-only : goal.returns-clause-only
returns-clause-only c = λ accepted.
    only_answer _ _ _ c.checked.result c.checked.ensures.found c.checked.ensures.first (λ t found. found.0) (λ r fault. fault_or_accepted c.args.target c.args.bytes.now c.are_bytes.ensures r fault accepted)

pub returns-clause-within : goal.returns-clause-within
returns-clause-within c = errors_within c.args.bytes.now c.checked.result _ (check_within c.args.target c.args.bytes.now c.are_bytes.ensures) c.checked.ensures.first
