use Rattle.dw_section.proofs.{Words.{map, head_in}, FaultPlaces.{headers_within, errors_within}, FirstFault.{headers_stage, only_answer}, Lent.HeaderLaws.one_headers}
use Rattle.dw_section.proofs.header.headers.Goals as goal

pub returns-clause-only : goal.returns-clause-only
returns-clause-only c = λ hs p.
    only_answer _ _ _ c.all_headers.result c.all_headers.ensures.found c.all_headers.ensures.first (λ v found. one_headers _ _ (map head_in v.items) hs found p) (λ r fault. (headers_stage _ _).apart r hs fault p)

pub returns-clause-within : goal.returns-clause-within
returns-clause-within c = errors_within c.args.bytes.now c.all_headers.result _ (headers_within c.args.target c.args.bytes.now) c.all_headers.ensures.first
