use Rattle.dw_normal.specs.{declared.groups.Ready.Ready, Inner.Answers.IsPrepared}
use Rattle.dw_normal.proofs.{Words.{◌≡◌, subst, IfOk, Section}, Reports.long_fault}
use Rattle.dw_normal.proofs.preparation.prepared_section.Goals as goal

pub returns-clause-found : goal.returns-clause-found
returns-clause-found c =
    subst (λ (x : Section). IfOk c.prepared.result (λ (r : Ready). (r.table ≡ x) × IsPrepared x.target c.args.cap x.bytes r.rows.entries)) (c.in_ok-table.ensures).found.0 c.prepared.ensures.found

pub returns-clause-first : goal.returns-clause-first
returns-clause-first c = long_fault c.args.target c.args.cap c.args.bytes.now c.in_ok-table.table c.prepared.result (c.in_ok-table.ensures).found.0 c.prepared.ensures.first
