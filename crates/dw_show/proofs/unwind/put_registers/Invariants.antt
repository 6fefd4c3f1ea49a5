use Rattle.dw_show.proofs.Words.{take, Adds, lines, register_text}
use Rattle.dw_show.proofs.unwind.put_registers.Given as goal

abbrev pub invariant-loop-register : goal.invariant-loop-register
invariant-loop-register g l = Adds g.W.Write.contents l.fn.out l.out (lines register_text (take l.register-index l.fn.values))
