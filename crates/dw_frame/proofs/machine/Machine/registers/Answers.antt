use Rattle.dw_frame.proofs.{Words.{ℕ, Option, Err, subst, arith, err_from_is_err_and, context, Over, Adds, AddsOver, IsLeft, RegistersAre, RegistersFail}, ColumnLaws.over_error, FrameLaws.{left_before, left_none, not_listed, so_all}}
use Rattle.dw_frame.proofs.machine.Machine.registers.Goals as goal

pub returns-in_err-add-clause-so : goal.returns-in_err-add-clause-so
returns-in_err-add-clause-so g c =
    let m = c.args.self.now in
    let row = m.row.now in
    let world = context m.env (g.M.Memory.byte c.args.memory.now) in
    let e = c.in_err-add.field-0.0 in
    let after = g.M.Memory.failures c.add.new.memory in
    let adds = Adds world m.steps m.default row m.return_register c.args.cfa c.in-Some.register c.add.new.room in
    let fails = RegistersFail world m.steps m.default row m.return_register c.args.cfa in
    let p = err_from_is_err_and c.from_residual.result c.from_residual.ensures.1 in
    let moved = subst (λ (b : ℕ → Option ℕ). AddsOver m b c.args.cfa c.in-Some.register c.add.new.room (g.M.Memory.failures c.registers.memory) (Err e) after)
    c.registers.invariant.same c.in_err-add.ensures.so in
    let counted = subst (λ (n : ℕ). Over adds fails n (Err e) after) c.registers.invariant.count moved in
    rw (p.1, p.2) (over_error adds (RegistersAre world m.steps m.default row m.return_register c.args.cfa) fails fails (λ x h. h) (λ x h. h) (g.M.Memory.failures c.args.memory.now) e after counted)

pub add-requires-clause-unset : goal.add-requires-clause-unset
add-requires-clause-unset g c =
    let left = subst (IsLeft c.args.self.now.row.now c.registers.from) c.in-Some.ensures.steps c.registers.invariant.left in
    left_before c.args.self.now.row.now c.registers.from (c.in-Some.register, c.in-Some.own) c.next.new.self left

pub returns-clause-so : goal.returns-clause-so
returns-clause-so g c =
    let m = c.args.self.now in
    let row = m.row.now in
    let world = context m.env (g.M.Memory.byte c.args.memory.now) in
    let from = c.registers.from in
    let end = c.max.result in
    let none = left_none row from (subst (IsLeft row from) c.in-None.ensures.steps.0 c.registers.invariant.left) in
    let so = c.in_ok-add_all_given.ensures (g.M.Memory.byte c.args.memory.now) c.registers.invariant.so_far in
    let all = so_all world m.steps m.default row m.return_register c.args.cfa end c.add_all_given.new.room so
    (λ r le. not_listed world.register row m.return_register r (c.end.ensures.beyond r (omega (arith, le, c.max.ensures, c.max-end.ensures))) (none r (omega (arith, le, c.max.ensures))) (omega (arith, le, c.max.ensures, c.max-end.ensures, c.from-returns.ensures))) in
    (rw c.lent.ensures all, c.registers.invariant.count)
