use Rattle.dw_frame.proofs.{Words.{subst, Expression, context, first_stack, ValueOver}, ColumnLaws.{Tells, value_over}}
use Rattle.dw_frame.proofs.machine.Machine.value.Goals as goal

pub returns-clause-so : goal.returns-clause-so
returns-clause-so g c =
    let m = c.args.self.now in
    let world = context m.env (g.M.Memory.byte c.args.memory.now) in
    let first = first_stack m.env.target.size c.args.start in
    let before = g.M.Memory.failures c.args.memory.now in
    let after = g.M.Memory.failures c.evaluate-answer.new.memory in
    let told = c.evaluate-answer.ensures in
    let tells : Tells world m.steps c.in_ok-list.list first before after c.evaluate-answer.result = record { counted = told.counted; answered = told.answered; failed = told.failed; device = told.device } in
    subst (λ (x : Expression). ValueOver m (g.M.Memory.byte c.args.memory.now) c.args.column x c.args.start before c.in_column.result after) c.in_ok-list.ensures
    (rw c.in_column.ensures (value_over world m.steps c.args.column c.in_ok-list.list first before after c.evaluate-answer.result tells))
