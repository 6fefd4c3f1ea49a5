use Rattle.dw_show.specs.RowTexts.{rule_text}
use Rattle.dw_show.proofs.{Words.{◌++◌, ℕ, List, Adds, append_assoc, codes, decimal, subst, sym}, Puts.kept_on, Lent.Endings.on}
use Rattle.dw_show.proofs.texts.put_column.Goals as goal

pub returns : goal.returns
returns g c =
    let name = on g.W.Write.contents _ _ _ _ _ (kept_on g.W.Write.contents _ _ _ _ c.make_room.ensures.stays c.text.ensures.adds) (rw c.from.ensures at c.decimal.ensures.adds) in
    let regrouped = sym (append_assoc (codes " r" ++ decimal c.args.register) (codes "=") (rule_text c.args.rule.now)) in
    subst (λ (t : List ℕ). Adds g.W.Write.contents c.args.listing.now c.put_rule.new.listing t) regrouped (on g.W.Write.contents _ _ _ _ _ name c.put_rule.ensures)
