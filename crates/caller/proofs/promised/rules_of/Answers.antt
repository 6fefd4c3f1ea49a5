use Rattle.dw_cfa.specs.RowSteps.{program_input}
use Rattle.caller.proofs.Rows.{HoldsAt, row_at, one_found, held}
use Rattle.caller.proofs.promised.rules_of.Goals as goal

pub unreachable-requires : goal.unreachable-requires
unreachable-requires c =
    let a = c.args in let law = c.cited_laws.ensures in
    one_found law.holds law.count a.factors (program_input a.cie a.target) (program_input a.fde a.target) a.begin a.address c.are_bytes.ensures c.are_bytes-2.ensures c.requires.begin c.requires.start
    c.in_ok-rows.rows.items c.deref.result.now c.deref.ensures.value c.in_ok-rows.ensures.rows c.in_default.ensures

pub returns-clause-rules : goal.returns-clause-rules
returns-clause-rules c initial instrs p q =
    let a = c.args in let law = c.cited_laws.ensures in let rows = c.in_ok-rows.rows.items in
    held a.address rows c.deref.result.now c.in-Some.row.now c.in_ok-copied.field-0 (HoldsAt a.begin initial instrs a.address) c.deref.ensures.value c.in-Some.ensures c.in_ok-copied.ensures
    (row_at law.holds law.count a.factors (program_input a.cie a.target) (program_input a.fde a.target) a.begin a.address c.are_bytes.ensures c.are_bytes-2.ensures c.requires.begin c.requires.start
    rows c.in_ok-rows.ensures.rows initial instrs p q)
