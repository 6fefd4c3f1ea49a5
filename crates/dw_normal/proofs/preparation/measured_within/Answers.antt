use Rattle.dw_normal.proofs.{Words.{refl, arith, members_exist}, Reports.{is_measured, is_too_long, none_fails}}
use Rattle.dw_normal.proofs.preparation.measured_within.Goals as goal

pub overflow_sub-result : goal.overflow_sub-result
overflow_sub-result c =
    let table = c.args.ready.now.table in
    let some = members_exist table.target table.bytes c.accepted.ensures.bytes c.accepted.ensures.accepted in
    omega (arith, (c.in-Ok.ensures some.0 some.1).1, c.new-out.ensures.room)

pub returns-in-Err-Full-clause-first : goal.returns-in-Err-Full-clause-first
returns-in-Err-Full-clause-first c =
    let table = c.args.ready.now.table in
    (is_too_long table.target table.bytes c.args.cap c.new-out.result.counts c.in-Err-Full.field-0 _ _ c.accepted.ensures.bytes c.accepted.ensures.accepted c.new-out.ensures.room c.in-Err-Full.field-0-is c.in-Err-Full.ensures, refl)

pub returns-in-Ok-clause-found : goal.returns-in-Ok-clause-found
returns-in-Ok-clause-found c =
    let table = c.args.ready.now.table in
    is_measured table.target table.bytes c.args.cap c.new-out.result.room c.write_entries.new.out.room c.accepted.ensures.bytes c.accepted.ensures.accepted c.new-out.ensures.room (λ ms are. (c.in-Ok.ensures ms are).1)

pub unreachable-requires : goal.unreachable-requires
unreachable-requires c =
    let table = c.args.ready.now.table in
    none_fails table.target table.bytes c.new-out.result.counts c.in-Err-Failed.field-0 _ _ c.accepted.ensures.bytes c.accepted.ensures.accepted c.new-out.ensures.counts c.in-Err-Failed.field-0-is c.in-Err-Failed.ensures
