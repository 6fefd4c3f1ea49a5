use Rattle.dw_cfa.proofs.{Words.{sym, arith}, Expressions.{expression_found, expression_refused}}
use Rattle.dw_cfa.proofs.opcode.accept_at.Goals as goal

pub returns-in-Ok : goal.returns-in-Ok
returns-in-Ok c = sym (expression_found c.args.at c.args.target c.args.block.now c.in-Ok.expression c.in-Ok.ensures.found.0 c.in-Ok.ensures.found.1)

pub returns-in-Err : goal.returns-in-Err
returns-in-Err c = sym (expression_refused c.args.at c.args.target c.args.block.now c.in-Err.fault c.in-Err.ensures.first)

pub overflow_add-result : goal.overflow_add-result
overflow_add-result c = omega (arith, c.in-Err.ensures.within)
