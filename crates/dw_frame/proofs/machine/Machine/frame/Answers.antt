use Rattle.dw_frame.proofs.Words.{ℕ, Option, Ok, Err, refl, inl, inr, subst, ◌∙◌, err_from_is_err_and, CfaRule, context, CfaIs, CfaFails, Over, RegistersAre, RegistersFail, RegistersOver, AreRegisters, FrameIs, FrameFails}
use Rattle.dw_frame.proofs.ColumnLaws.{over_error}
use Rattle.dw_frame.proofs.machine.Machine.frame.Goals as goal

pub returns-in_err-cfa-clause-so : goal.returns-in_err-cfa-clause-so
returns-in_err-cfa-clause-so g c =
    let m = c.args.self.now in let row = m.row.now in let world = context m.env (g.M.Memory.byte c.args.memory.now) in
    let before = g.M.Memory.failures c.args.memory.now in let after = g.M.Memory.failures c.cfa-2.new.memory in let e = c.in_err-cfa.field-0.0 in
    let told = subst (λ (x : CfaRule). Over (CfaIs world m.steps x) (CfaFails world m.steps x) before (Err e) after) c.cfa.ensures c.in_err-cfa.ensures.so in let p = err_from_is_err_and c.from_residual.result c.from_residual.ensures.1 in
    rw (p.1, p.2) (over_error (CfaIs world m.steps row.cfa) (FrameIs world m.steps m.default row m.return_register) (CfaFails world m.steps row.cfa) (FrameFails world m.steps m.default row m.return_register)
    (λ x h. inl h) (λ x h. inl h) before e after told)

pub returns-in_err-registers-clause-so : goal.returns-in_err-registers-clause-so
returns-in_err-registers-clause-so g c =
    let m = c.args.self.now in let row = m.row.now in let world = context m.env (g.M.Memory.byte c.args.memory.now) in
    let cfa = c.in_ok-cfa.cfa in let so = c.in_ok-cfa.ensures.so in let is = subst (λ (x : CfaRule). CfaIs world m.steps x (Ok cfa)) c.cfa.ensures so.0 in
    let are = RegistersAre world m.steps m.default row m.return_register cfa in let fail = RegistersFail world m.steps m.default row m.return_register cfa in
    let before = g.M.Memory.failures c.args.memory.now in let after = g.M.Memory.failures c.registers.new.memory in let e = c.in_err-registers.field-0.0 in
    let moved = subst (λ (b : ℕ → Option ℕ). RegistersOver m b cfa (g.M.Memory.failures c.cfa-2.new.memory) (Err e) after) c.in_ok-cfa.ensures.same c.in_err-registers.ensures.so in
    let told = subst (λ (n : ℕ). Over are fail n (Err e) after) so.1 moved in let p = err_from_is_err_and c.from_residual-in_err-registers.result c.from_residual-in_err-registers.ensures.1 in
    rw (p.1, p.2) (over_error are (FrameIs world m.steps m.default row m.return_register) fail (FrameFails world m.steps m.default row m.return_register) (λ x h. inr (cfa, is, h)) (λ x h. inr (cfa, is, h)) before e after told)

pub returns-clause-so : goal.returns-clause-so
returns-clause-so g c =
    let m = c.args.self.now in let cfa = c.in_ok-cfa.cfa in let so = c.in_ok-cfa.ensures.so in let told = c.in_ok-registers.ensures.so in
    let is = subst (λ (x : CfaRule). CfaIs (context m.env (g.M.Memory.byte c.args.memory.now)) m.steps x (Ok cfa)) c.cfa.ensures so.0 in
    let are = subst (λ (b : ℕ → Option ℕ). AreRegisters (context m.env b) m.steps m.default m.row.now m.return_register cfa c.in_ok-registers.registers) c.in_ok-cfa.ensures.same told.0 in ((is, refl, are), told.1 ∙ so.1)
