use Rattle.dw_frame.proofs.Words.{ℕ, Ok, Err, sym, subst, err_from_is_err_and, RegRule, context, RuleFits, rule_fits, RegisterIs, RegisterFails, RegistersFail, Adds, ListedBelow}
use Rattle.dw_frame.proofs.{ColumnLaws.over_error, FrameLaws.{specified_listed, so_added, so_reached}}
use Rattle.dw_frame.proofs.machine.Machine.add.Goals as goal

pub register-requires-clause-fits : goal.register-requires-clause-fits
register-requires-clause-fits g c =
    let t = c.args.self.now.env.target in
    subst (RuleFits t) (sym c.requires.own) (rule_fits t c.args.self.now.row.now c.requires.fits c.args.register)

pub returns-in_err-value-clause-so : goal.returns-in_err-value-clause-so
returns-in_err-value-clause-so g c =
    let m = c.args.self.now in
    let row = m.row.now in
    let r = c.args.register in
    let world = context m.env (g.M.Memory.byte c.args.memory.now) in
    let listed = specified_listed world m.steps m.default row m.return_register c.args.cfa r c.args.own.now c.requires.own c.requires.specified in
    let so_far = subst (λ (n : ℕ). ListedBelow m (g.M.Memory.byte c.args.memory.now) c.args.cfa n c.add_all_given.new.room) c.from-to.ensures
    (c.in_ok-add_all_given.ensures (g.M.Memory.byte c.args.memory.now) c.requires.so_far) in
    let reached = so_reached world m.steps m.default row m.return_register c.args.cfa r c.add_all_given.new.room so_far listed in
    let p = err_from_is_err_and c.from_residual-in_err-value.result c.from_residual-in_err-value.ensures.1 in
    rw (p.1, p.2) (over_error (RegisterIs world m.steps m.default c.args.cfa r c.args.own.now) (Adds world m.steps m.default row m.return_register c.args.cfa r c.add_all_given.new.room)
    (RegisterFails world m.steps c.args.cfa r c.args.own.now) (RegistersFail world m.steps m.default row m.return_register c.args.cfa)
    (λ e h. (r, reached, subst (λ (x : RegRule). RegisterIs world m.steps m.default c.args.cfa r x (Err e)) c.requires.own h))
    (λ e h. (r, reached, subst (λ (x : RegRule). RegisterFails world m.steps c.args.cfa r x e) c.requires.own h))
    (g.M.Memory.failures c.args.memory.now) c.in_err-value.field-0.0 (g.M.Memory.failures c.register.new.memory) c.in_err-value.ensures.so)

pub returns-clause-so : goal.returns-clause-so
returns-clause-so g c =
    let m = c.args.self.now in
    let row = m.row.now in
    let r = c.args.register in
    let world = context m.env (g.M.Memory.byte c.args.memory.now) in
    let listed = specified_listed world m.steps m.default row m.return_register c.args.cfa r c.args.own.now c.requires.own c.requires.specified in
    let so_far = subst (λ (n : ℕ). ListedBelow m (g.M.Memory.byte c.args.memory.now) c.args.cfa n c.add_all_given.new.room) c.from-to.ensures
    (c.in_ok-add_all_given.ensures (g.M.Memory.byte c.args.memory.now) c.requires.so_far) in
    let told = c.in_ok-value.ensures.so in
    let value = subst (λ (x : RegRule). RegisterIs world m.steps m.default c.args.cfa r x (Ok c.in_ok-value.value)) c.requires.own told.0 in
    (rw c.in_ok-push.ensures (so_added world m.steps m.default row m.return_register c.args.cfa r c.add_all_given.new.room c.in_ok-value.value so_far listed value), told.1)
