use Rattle.dw_show.proofs.{Words.{List, ℕ, subst, sym, Adds, entry_text}, Lent.Endings.on, TextLines.lines_more}
use Rattle.dw_show.proofs.section.put_entries.Goals as goal

pub loop-entry-preserved : goal.loop-entry-preserved
loop-entry-preserved g c =
    let more = lines_more entry_text c.args.list.now c.loop-entry.entry-index _ c.loop-entry-test.true in
    subst (λ (t : List ℕ). Adds g.W.Write.contents c.args.out.now c.put_entry.new.out t) (sym more) (on g.W.Write.contents _ _ _ _ _ c.loop-entry.invariant c.put_entry.ensures)
