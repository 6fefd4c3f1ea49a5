use Rattle.dw_normal.proofs.{Words.{◌≡◌, sym, subst, Target, FitsCap, Full}, Reports.{both_fit, is_within, second_too_long, tables_decided}}
use Rattle.dw_normal.proofs.normal.compared.Goals as goal

pub returns-in-Err-prepared-clause-refused : goal.returns-in-Err-prepared-clause-refused
returns-in-Err-prepared-clause-refused c =
    second_too_long c.args.first c.args.second c.in-Err-prepared.error c.blamed-in-Err-prepared.result c.requires.target
    (c.in-Ok.ensures).found.1.short c.in-Err-prepared.ensures.first c.blamed-in-Err-prepared.ensures

pub returns-in-Ok-same-clause-found : goal.returns-in-Ok-same-clause-found
returns-in-Ok-same-clause-found c =
    tables_decided c.normal_laws.ensures.same c.args.first c.args.second c.in-Ok.one.table c.in-Ok-prepared.two.table
    c.requires.target (c.in-Ok.ensures).found.0 (c.in-Ok-prepared.ensures).found.0 (c.in-Ok.ensures).found.1.short (c.in-Ok-prepared.ensures).found.1.short c.in-Ok-same.same (rw c.in-Ok-same.is at c.same_tables-same.ensures.compares)

pub returns-in-Ok-same-clause-fit : goal.returns-in-Ok-same-clause-fit
returns-in-Ok-same-clause-fit c =
    let one = is_within c.args.first.target 2147483647 c.args.first.bytes (c.in-Ok.ensures).found.1.short in
    let two = is_within c.args.second.target 2147483647 c.args.second.bytes (c.in-Ok-prepared.ensures).found.1.short in
    (one, subst (λ (t : Target). FitsCap t 2147483647 c.args.second.bytes) (sym c.requires.target) two)

pub unreachable-requires : goal.unreachable-requires
unreachable-requires c =
    let full : c.in-Err-Full.field-0 ≡ Full = rw c.in-Err-Full.is at c.in-Err-Full.field-0-is in
    both_fit c.args.first c.args.second c.in-Ok.one.table c.in-Ok-prepared.two.table c.same_tables-same.result c.in-Err-Full.field-0 (c.in-Ok.ensures).found.0 (c.in-Ok-prepared.ensures).found.0
    (c.in-Ok.ensures).found.1.short (c.in-Ok-prepared.ensures).found.1.short c.in-Err-Full.is full c.same_tables-same.ensures.full
