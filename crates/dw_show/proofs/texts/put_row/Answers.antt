use Rattle.dw_row.specs.declared.rule.{CfaRule.CfaRule, RegRule.RegRule}
use Rattle.dw_show.proofs.{Words.{◌++◌, ◌∙◌, ℕ, List, codes, append_assoc, false, subst, sym, digits, Adds, cfa_text, column_text, lines}, Puts.{kept_on, on_kept}, Lent.Endings.on, TextLines.{Leads, leads_on, leads_to}}
use Rattle.dw_show.proofs.texts.put_row.Goals as goal

pub returns : goal.returns
returns g c =
    let row = c.args.row.now in
    let begun = c.put_cfa.new.listing in
    let start = on g.W.Write.contents _ _ _ _ _ (kept_on g.W.Write.contents _ _ _ _ c.make_room.ensures.stays c.text.ensures.adds) (c.address.ensures.adds c.requires.in_space) in
    let cfa = subst (λ (r : CfaRule). Adds g.W.Write.contents c.address.new.self begun (codes " cfa=" ++ cfa_text r)) c.cfa_rule.ensures c.put_cfa.ensures in
    let joined = append_assoc (codes " 0x" ++ digits 16 false c.args.address) (codes " cfa=") (cfa_text row.cfa) in
    let rule = subst (λ (t : List ℕ). Adds g.W.Write.contents c.args.listing.now begun t) (sym joined) (on g.W.Write.contents _ _ _ _ _ start cfa) in
    let none = sym c.in_default.ensures.next ∙ c.in_default-next.ensures.steps.0 in
    let left = subst (λ (l : List (ℕ × RegRule)). Leads g.W.Write.contents begun (lines column_text row.registers) c.columns.listing (lines column_text l)) none c.columns.invariant in
    let all = on g.W.Write.contents _ _ _ _ _ rule (leads_to g.W.Write.contents begun (lines column_text row.registers) c.columns.listing left) in
    on g.W.Write.contents _ _ _ _ _ (on_kept g.W.Write.contents _ _ _ _ all c.make_room-2.ensures.stays) c.text-2.ensures.adds

pub columns-preserved : goal.columns-preserved
columns-preserved g c =
    let all = lines column_text c.args.row.now.registers in
    let begun = c.put_cfa.new.listing in
    let next = sym c.in_default.ensures.next ∙ c.in-Some-next.ensures.steps in
    let left = subst (λ (l : List (ℕ × RegRule)). Leads g.W.Write.contents begun all c.columns.listing (lines column_text l)) next c.columns.invariant in
    leads_on g.W.Write.contents begun all c.columns.listing c.put_column-in-columns.new.listing _ (lines column_text c.next.new.self) left c.put_column-in-columns.ensures
