use Rattle.dw_show.proofs.{Words.{◌≡◌, ◌∙◌, ℕ, List, subst, sym, AllByRecursion, Rules, Adds, row_text, lines}, Members.IsLow, TextLines.{Leads, leads_on, leads_to}}
use Rattle.dw_show.proofs.rows.put_changes.Goals as goal

pub changes-preserved : goal.changes-preserved
changes-preserved g c =
    let gives = (rw c.in-Some.is at c.in_ok-address.ensures.gives).1 in
    let both = sym c.in-Some-row.ensures ∙ gives.2 in
    let same : c.in-Some-row.row.now ≡ gives.0 = cc in
    let all = lines row_text c.args.changes.now.to_come in
    let leads = subst (λ (l : List (ℕ × Rules)). Leads g.W.Write.contents c.args.out.now all c.changes.out (lines row_text l)) gives.1 c.changes.invariant.2 in
    let put = subst (λ (row : Rules). Adds g.W.Write.contents c.changes.out c.put_row.new.listing (row_text (c.in-Some.address, row))) same c.put_row.ensures in (
      c.advance.ensures.section ∙ c.changes.invariant.0,
      (subst (λ (l : List (ℕ × Rules)). AllByRecursion IsLow l) gives.1 c.changes.invariant.1).1,
      leads_on g.W.Write.contents c.args.out.now all _ _ (row_text (c.in-Some.address, gives.0)) (lines row_text c.advance.new.self.to_come) leads put,
    )

pub returns : goal.returns
returns g c =
    let gives = rw c.in_default.is at c.in_ok-address.ensures.gives in
    let all = lines row_text c.args.changes.now.to_come in
    let leads = subst (λ (l : List (ℕ × Rules)). Leads g.W.Write.contents c.args.out.now all c.changes.out (lines row_text l)) gives.1 c.changes.invariant.2 in
    record { told = tt; put = leads_to g.W.Write.contents c.args.out.now all c.changes.out leads; section = c.advance.ensures.section ∙ c.changes.invariant.0 }
