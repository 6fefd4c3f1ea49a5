use Rattle.dw_row.proofs.{Words.{arith, refl}, Difference.{above, none_above, left_differs, right_differs, both_differ, both_same}, Lent.Equal.not_one}
use Rattle.dw_row.proofs.tree.first_difference.Goals as goal

pub returns-in_default-next : goal.returns-in_default-next
returns-in_default-next c = left_differs c.rules.invariant c.in-Some.ensures.steps (none_above _ c.in_default-next.ensures.steps.0)

pub returns-then-register-other_register : goal.returns-then-register-other_register
returns-then-register-other_register c =
    let h = c.rules.invariant in left_differs h c.in-Some.ensures.steps (above _ c.in-Some-next.ensures.steps h.right (omega (arith, c.if-register-other_register.true)))

pub returns-then-other_register-register : goal.returns-then-other_register-register
returns-then-other_register-register c =
    let h = c.rules.invariant in right_differs h c.in-Some-next.ensures.steps (above _ c.in-Some.ensures.steps h.left (omega (arith, c.if-other_register-register.true)))

pub returns-then-not-is_same : goal.returns-then-not-is_same
returns-then-not-is_same c = both_differ c.rules.invariant c.in-Some.ensures.steps c.in-Some-next.ensures.steps c.if-other_register-register.false c.if-register-other_register.false (not_one c.if-not-is_same.ensures)

pub rules-preserved : goal.rules-preserved
rules-preserved c = both_same c.rules.invariant c.in-Some.ensures.steps c.in-Some-next.ensures.steps c.if-other_register-register.false c.if-register-other_register.false (c.if-not-is_same.ensures.0 refl)

pub returns : goal.returns
returns c = right_differs c.rules.invariant c.in-Some-next-2.ensures.steps (none_above _ c.in_default.ensures.steps.0)
