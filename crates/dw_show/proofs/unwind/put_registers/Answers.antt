use Rattle.dw_show.proofs.{Words.{List, ℕ, subst, sym, Adds, register_text}, Lent.Endings.on, TextLines.lines_more}
use Rattle.dw_show.proofs.unwind.put_registers.Goals as goal

pub loop-register-preserved : goal.loop-register-preserved
loop-register-preserved g c =
    let more = lines_more register_text c.args.values.now c.loop-register.register-index _ c.loop-register-test.true in
    subst (λ (t : List ℕ). Adds g.W.Write.contents c.args.out.now c.put_value.new.out t) (sym more) (on g.W.Write.contents _ _ _ _ _ c.loop-register.invariant c.put_value.ensures)
