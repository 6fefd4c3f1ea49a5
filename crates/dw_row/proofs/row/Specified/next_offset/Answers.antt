use Rattle.dw_row.proofs.{Words.{rules, ◌≡◌, ◌∙◌, ◌∷◌, ◌-◌, bit_and, far_behind, listed_near, rule_in, subst, sym, BeginsWithOffset, FitsSigned, IsOffset, refl, slot_rule, to_z-of_z, w64}, Difference.none_near}
use Rattle.dw_row.proofs.{Slots.{next_used, none_used, rest_holds}, row.Specified.next_offset.Goals.After-offset_in}
use Rattle.dw_row.proofs.row.Specified.next_offset.Goals as goal

pub returns-in_err-register-clause-exact : goal.returns-in_err-register-clause-exact
returns-in_err-register-clause-exact c =
    let w = c.self.inside in
    let left = sym c.self.view_is ∙ none_used w.used w.slots.now w.expressions.now.entries (far_behind w.last w.far.now.entries) c.in_err-register.ensures in
    rw c.from_residual.ensures (λ begins. none_near w.last w.far.now.entries c.self.invariant.2 (subst BeginsWithOffset left begins))

-- the register that is found has the rule of its slot
first_is : (c : After-offset_in) → let w = c.self.inside in let r = c.in_ok-register.field-0 in let x = w.expressions.now.entries in
    c.args.self.now ≡ (r, slot_rule c.get.result (rule_in x r)) ∷ listed_near 0 (bit_and w.used (w.used - 1)) w.slots.now x (far_behind w.last w.far.now.entries)
first_is c =
    let w = c.self.inside in let r = c.in_ok-register.field-0 in let x = w.expressions.now.entries in
    sym c.self.view_is ∙ next_used w.used _ w.slots.now x c.self.invariant.1 refl (far_behind w.last w.far.now.entries) r c.in_ok-register.ensures c.get.result c.get.ensures _ refl

pub invariant_of-self : goal.invariant_of-self
invariant_of-self c =
    let w = c.self.inside in let so = c.self.invariant in
    (so.0, rest_holds w.used _ w.slots.now w.expressions.now.entries so.1 c.without_first-self-inside.ensures, so.2, so.3)

pub returns-clause-next : goal.returns-clause-next
returns-clause-next c =
    let fits : FitsSigned w64 c.in_ok-offset.offset = search rules in
    let is = c.in_ok-offset.ensures.offset (rule_in c.self.inside.expressions.now.entries c.in_ok-register.field-0) in
    rw (to_z-of_z w64 c.in_ok-offset.offset fits, ← is, c.without_first-self-inside.ensures) (first_is (goal.at.returns-clause-next c).After-offset_in)

pub returns-in_err-offset-clause-exact : goal.returns-in_err-offset-clause-exact
returns-in_err-offset-clause-exact c =
    let r = c.in_ok-register.field-0 in
    let is = first_is (goal.at.returns-in_err-offset-clause-exact c).After-offset_in in
    rw c.from_residual-in_err-offset.ensures (λ begins. c.in_err-offset.ensures.none _ (c.self.invariant.3 r) (subst BeginsWithOffset is begins).1)

pub returns-clause-exact : goal.returns-clause-exact
returns-clause-exact c =
    let rule = c.in_ok-offset.ensures.offset (rule_in c.self.inside.expressions.now.entries c.in_ok-register.field-0) in
    subst BeginsWithOffset (sym (first_is (goal.at.returns-clause-exact c).After-offset_in)) (c.in_ok-register.ensures.1, subst IsOffset (sym rule) tt)
