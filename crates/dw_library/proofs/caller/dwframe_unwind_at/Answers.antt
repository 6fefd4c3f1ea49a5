use Rattle.dw_library.proofs.{Words.{◌≡◌, refl, rules, sym, ◌∙◌, held_in, not_refused}, FramesAt.own_fails}
use Rattle.dw_library.proofs.caller.dwframe_unwind_at.Goals as goal

pub returns-in-Err-Unwind-clause-own : goal.returns-in-Err-Unwind-clause-own
returns-in-Err-Unwind-clause-own c =
    let a = c.args in
    let kept = c.in-Err-Unwind.ensures.kept in
    let why : c.default.result ≡ not_refused = search rules in
    rw (sym c.target_of.ensures ∙ c.in-Some.is, sym c.policy_of.ensures ∙ c.in-Some-policy_of.is) (λ t. own_fails c.in-Some.target c.in-Some-policy_of.default a.section.now.bytes.now a.stop.now (held_in a.held.now) a.out.now _ c.in-Err-Unwind.error
    (rw (c.told_fault-status.ensures.status, c.told_fault-status.ensures.fault, why, kept.0, kept.1) refl) (rw c.in-Err-Unwind.field-0-is at (c.in-Err-Unwind.ensures.own t)))
