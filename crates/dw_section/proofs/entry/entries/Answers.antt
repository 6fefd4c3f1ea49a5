use Rattle.dw_section.proofs.{Words.{◌∙◌, ap, map, sym, entry_of}, Items.{cut_or_pieces, one_pieces}, FaultPlaces.{cut_within, errors_within}, FirstFault.only_answer}
use Rattle.dw_section.proofs.entry.entries.Goals as goal

pub returns-clause-only : goal.returns-clause-only
returns-clause-only c = λ es p.
    only_answer _ _ _ c.all_entries.result c.all_entries.ensures.found c.all_entries.ensures.first (λ v found. found.are ∙ ap (map entry_of) (one_pieces _ _ found.parts p.parts found.cut p.cut) ∙ sym p.are) (λ r fault. cut_or_pieces _ _ r p.parts fault p.cut)

pub returns-clause-within : goal.returns-clause-within
returns-clause-within c = errors_within c.args.bytes.now c.all_entries.result _ (cut_within c.args.target c.args.bytes.now) c.all_entries.ensures.first
