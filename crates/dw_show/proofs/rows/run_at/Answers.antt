use Rattle.dw_show.proofs.{Words.{Ok, Err, ◌∙◌, ap, inl, inr, refl, err_from_is_err_and, Keeps-refl, lines_in}, Endings.text_at}
use Rattle.dw_show.proofs.rows.run_at.Goals as goal

pub returns-in_err-text : goal.returns-in_err-text
returns-in_err-text g c =
    let p = err_from_is_err_and c.from_residual-in_err-text.result c.from_residual-in_err-text.ensures.1 in
    let text = text_at _ _ c.in_ok-bytes.ensures.same _ (lines_in c.args.lookup.addresses.items) (Err c.in_err-text.field-0.0) (c.lines_in.ensures ∙ ap lines_in c.deref.ensures.value) c.in_err-text.ensures.loads in
    rw (p.1, p.2) (inl (c.in_ok-bytes.bytes.items, c.in_ok-bytes.ensures.loads, inr (c.in_err-text.field-0.0, text, refl, Keeps-refl _)))

pub returns-in_err-table : goal.returns-in_err-table
returns-in_err-table g c =
    let p = err_from_is_err_and c.from_residual-in_err-table.result c.from_residual-in_err-table.ensures.1 in
    let text = text_at _ _ c.in_ok-bytes.ensures.same _ (lines_in c.args.lookup.addresses.items) (Ok c.in_ok-text.text.items) (c.lines_in.ensures ∙ ap lines_in c.deref.ensures.value) c.in_ok-text.ensures.loads in
    let refused = rw c.deref-2.ensures.value at c.in_err-table.ensures.first in
    rw p.1 (inl (c.in_ok-bytes.bytes.items, c.in_ok-bytes.ensures.loads, inl (c.in_ok-text.text.items, text, inr (p.0, (c.in_err-table.field-0.0, refused, p.2), refl, Keeps-refl _))))

pub returns-in_err-add_lines : goal.returns-in_err-add_lines
returns-in_err-add_lines g c =
    let p = err_from_is_err_and c.from_residual-in_err-add_lines.result c.from_residual-in_err-add_lines.ensures.1 in
    let text = text_at _ _ c.in_ok-bytes.ensures.same _ (lines_in c.args.lookup.addresses.items) (Ok c.in_ok-text.text.items) (c.lines_in.ensures ∙ ap lines_in c.deref.ensures.value) c.in_ok-text.ensures.loads in
    let accepted = rw c.deref-2.ensures.value at c.in_ok-table.ensures.found.1 in
    let refused = rw c.deref-3.ensures.value at c.in_err-add_lines.ensures in
    rw p.1 (inl (c.in_ok-bytes.bytes.items, c.in_ok-bytes.ensures.loads, inl (c.in_ok-text.text.items, text, inl (tt, accepted, inr (p.0, (c.in_err-add_lines.field-0.0, refused, p.2), refl, Keeps-refl _)))))

pub returns : goal.returns
returns g c =
    let text = text_at _ _ c.in_ok-bytes.ensures.same _ (lines_in c.args.lookup.addresses.items) (Ok c.in_ok-text.text.items) (c.lines_in.ensures ∙ ap lines_in c.deref.ensures.value) c.in_ok-text.ensures.loads in
    let accepted = rw c.deref-2.ensures.value at c.in_ok-table.ensures.found.1 in
    let more = rw c.deref-3.ensures.value at c.in_ok-add_lines.ensures in
    let prints = rw (c.in_ok-table.ensures.found.0, c.deref-2.ensures.value) at c.put_each-put.ensures in
    inl (c.in_ok-bytes.bytes.items, c.in_ok-bytes.ensures.loads, inl (c.in_ok-text.text.items, text, inl (tt, accepted, inl (c.deref-4.result.now, (more.0, more.1, c.deref-4.ensures.value ∙ more.2), prints))))
