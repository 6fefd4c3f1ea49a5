use Rattle.dw_words.proofs.command_words.task_in.Goals as goal

pub returns-in-Expr : goal.returns-in-Expr
returns-in-Expr c = rw c.in-Expr.is (c.expr_in.ensures c.args.size)

pub returns-in-Normal : goal.returns-in-Normal
returns-in-Normal c = rw c.in-Normal.is (c.normal_in.ensures c.args.size)

pub returns-in-Same : goal.returns-in-Same
returns-in-Same c = rw c.in-Same.is (c.same_in.ensures c.args.size)

pub returns-in-Unwind : goal.returns-in-Unwind
returns-in-Unwind c = rw c.in-Unwind.is (c.unwind_in.ensures c.args.size)
