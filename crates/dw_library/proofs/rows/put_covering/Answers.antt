use Rattle.dw_library.proofs.{Words.{◌∙◌, sym}, Changed.refused_fault}
use Rattle.dw_library.proofs.rows.put_covering.Goals as goal

pub returns-in-Err-Refused-clause-own : goal.returns-in-Err-Refused-clause-own
returns-in-Err-Refused-clause-own c = λ t.
    let is = rw c.in-Some.is at c.in_ok-found.ensures.found in
    let own = c.changes-changes.ensures.own c.args.index.now (rw (sym is.0, sym is.1) at t) (rw (sym is.2) at is.3) in
    let fault = refused_fault c.changes-changes.result.fault c.put_changes-totals.result c.in-Err-Refused.field-0 c.in-Err-Refused.refusal c.put_changes-totals.ensures.refused c.in-Err-Refused.is (rw c.in-Err-Refused.is at c.in-Err-Refused.field-0-is) in
    let bad = sym own.0 ∙ fault in absurd cc

pub returns-in-Err-Refused-clause-within : goal.returns-in-Err-Refused-clause-within
returns-in-Err-Refused-clause-within c =
    let is = rw c.in-Some.is at c.in_ok-found.ensures.found in
    let fault = refused_fault c.changes-changes.result.fault c.put_changes-totals.result c.in-Err-Refused.field-0 c.in-Err-Refused.refusal c.put_changes-totals.ensures.refused c.in-Err-Refused.is (rw c.in-Err-Refused.is at c.in-Err-Refused.field-0-is) in
    rw (is.1, fault) at c.changes-changes.ensures.within

pub returns-in-Err-Refused-clause-refused : goal.returns-in-Err-Refused-clause-refused
returns-in-Err-Refused-clause-refused c =
    let is = rw c.in-Some.is at c.in_ok-found.ensures.found in
    let fault = refused_fault c.changes-changes.result.fault c.put_changes-totals.result c.in-Err-Refused.field-0 c.in-Err-Refused.refusal c.put_changes-totals.ensures.refused c.in-Err-Refused.is (rw c.in-Err-Refused.is at c.in-Err-Refused.field-0-is) in
    rw (is.0, is.1, is.2) at (c.changes-changes.ensures.refused c.args.index.now (rw (sym is.2) at is.3) c.in-Err-Refused.refusal fault)
