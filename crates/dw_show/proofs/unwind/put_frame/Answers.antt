use Rattle.dw_show.specs.Texts.{hexadecimal, line_end}
use Rattle.dw_show.proofs.{Words.{◌++◌, ℕ, List, Adds, codes, append_assoc, subst, sym}, Puts.kept_on, Lent.Endings.{on, printed}}
use Rattle.dw_show.proofs.unwind.put_frame.Goals as goal

pub returns : goal.returns
returns g c =
    let cfa = on g.W.Write.contents _ _ _ _ _ (kept_on g.W.Write.contents _ _ _ _ c.make_room.ensures.stays c.text.ensures.adds) c.hex.ensures.adds in
    let joined = append_assoc (codes "cfa " ++ hexadecimal c.args.frame.now.cfa) line_end (codes "ra r") in
    let column = subst (λ (t : List ℕ). Adds g.W.Write.contents c.args.out.now c.text-2.new.self t) (sym joined) (on g.W.Write.contents _ _ _ _ _ cfa c.text-2.ensures.adds) in
    let line = on g.W.Write.contents _ _ _ _ _ (on g.W.Write.contents _ _ _ _ _ column (rw c.from.ensures at c.decimal.ensures.adds)) c.text-3.ensures.adds in
    let all = on g.W.Write.contents _ _ _ _ _ line (rw c.values.ensures at c.put_registers.ensures) in
    printed g.W.Write.contents _ _ _ _ c.finish.result c.requires.works all c.finish.ensures.ends
