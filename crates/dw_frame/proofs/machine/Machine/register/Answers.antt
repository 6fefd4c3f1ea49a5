use Rattle.dw_row.specs.declared.rule.RegRule.TheVariants as rules
use Rattle.dw_frame.proofs.ColumnLaws.{over_error, over_recovered}
use Rattle.dw_frame.proofs.Words.{◌≡◌, ℕ, Option, Result, Ok, Err, refl, inl, inr, subst, err_from_is_err_and, UnwindError, Register, context, Over, RegisterIs, RegisterFails, SavedFails, ValueIs, ValueFails, on_cfa, saved_at}
use Rattle.dw_frame.proofs.machine.Machine.register.Goals as goal

pub returns-in-ValExpression-clause-so : goal.returns-in-ValExpression-clause-so
returns-in-ValExpression-clause-so g c =
    let m = c.args.self.now in let r = c.args.register in let e = c.in-ValExpression.expression in let world = context m.env (g.M.Memory.byte c.args.memory.now) in let first = on_cfa world m.steps c.args.cfa in
    rw c.in-ValExpression.is (over_recovered (ValueIs world m.steps (Register r) e first) (RegisterIs world m.steps m.default c.args.cfa r (rules.ValExpression e))
    (ValueFails world m.steps (Register r) first e) (RegisterFails world m.steps c.args.cfa r (rules.ValExpression e)) (λ x v. (x, v, refl)) (λ x p. p)
    (g.M.Memory.failures c.args.memory.now) (g.M.Memory.failures c.value-in-ValExpression.new.memory) c.value-in-ValExpression.result c.map-in-ValExpression.result c.map-in-ValExpression.ensures.cases c.value-in-ValExpression.ensures.so)

pub returns-in_err-address-in-Expression-clause-so : goal.returns-in_err-address-in-Expression-clause-so
returns-in_err-address-in-Expression-clause-so g c =
    let m = c.args.self.now in let r = c.args.register in let e = c.in-Expression.expression in let world = context m.env (g.M.Memory.byte c.args.memory.now) in let first = on_cfa world m.steps c.args.cfa in
    let p = err_from_is_err_and c.from_residual.result c.from_residual.ensures.1 in
    rw (c.in-Expression.is, p.1, p.2) (over_error (ValueIs world m.steps (Register r) e first) (RegisterIs world m.steps m.default c.args.cfa r (rules.Expression e))
    (ValueFails world m.steps (Register r) first e) (RegisterFails world m.steps c.args.cfa r (rules.Expression e)) (λ x v. (Err x, (Err x, v, refl), refl)) (λ x v. inl v)
    (g.M.Memory.failures c.args.memory.now) c.in_err-address-in-Expression.field-0.0 (g.M.Memory.failures c.value.new.memory) c.in_err-address-in-Expression.ensures.so)

pub returns-in_ok-address-in-Expression-clause-so : goal.returns-in_ok-address-in-Expression-clause-so
returns-in_ok-address-in-Expression-clause-so g c =
    let m = c.args.self.now in let r = c.args.register in let e = c.in-Expression.expression in let a = c.in_ok-address-in-Expression.address in let so = c.in_ok-address-in-Expression.ensures.so in
    let world = context m.env (g.M.Memory.byte c.args.memory.now) in let after = g.M.Memory.failures c.saved_at-in-Expression.new.memory in let result = c.saved_at-in-Expression.result in
    let is = λ (b : ℕ → Option ℕ) (x : Result ℕ UnwindError). x ≡ saved_at (context m.env b) m.steps (Register r) a in let fails = λ (b : ℕ → Option ℕ). SavedFails (context m.env b) m.steps (Register r) a in
    let moved = subst (λ (b : ℕ → Option ℕ). Over (is b) (fails b) (g.M.Memory.failures c.value.new.memory) result after) c.in_ok-address-in-Expression.ensures.same c.saved_at-in-Expression.ensures.so in
    let told = subst (λ (n : ℕ). Over (is world.byte) (fails world.byte) n result after) so.1 moved in
    rw c.in-Expression.is (over_recovered (is world.byte) (RegisterIs world m.steps m.default c.args.cfa r (rules.Expression e)) (fails world.byte) (RegisterFails world m.steps c.args.cfa r (rules.Expression e))
    (λ x p. (x, (Ok a, so.0, p), refl)) (λ x p. inr (a, so.0, p)) (g.M.Memory.failures c.args.memory.now) after result c.map-in-Expression.result c.map-in-Expression.ensures.cases told)
