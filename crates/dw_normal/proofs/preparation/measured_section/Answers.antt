use Rattle.dw_normal.proofs.{Words.{◌∙◌, subst, IfOk, IsMeasured, Section}, Reports.long_fault}
use Rattle.dw_normal.proofs.preparation.measured_section.Goals as goal

pub returns-clause-found : goal.returns-clause-found
returns-clause-found c =
    let same = c.in_ok-ready.ensures.table ∙ (c.in_ok-table.ensures).found.0 in
    subst (λ (x : Section). IfOk c.measured_within-measured.result (IsMeasured x.target c.args.cap x.bytes)) same c.measured_within-measured.ensures.found

pub returns-clause-first : goal.returns-clause-first
returns-clause-first c =
    let same = c.in_ok-ready.ensures.table ∙ (c.in_ok-table.ensures).found.0 in
    long_fault c.args.target c.args.cap c.args.bytes.now c.in_ok-ready.ready.table c.measured_within-measured.result same c.measured_within-measured.ensures.first
