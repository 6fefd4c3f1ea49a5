use Rattle.dw_show.proofs.Words.{inl, inr, refl, err_from_is_err_and, Keeps-refl}
use Rattle.dw_show.proofs.expression.run_eval.Goals as goal

pub returns-in_err-list : goal.returns-in_err-list
returns-in_err-list g c =
    let p = err_from_is_err_and c.from_residual-in_err-list.result c.from_residual-in_err-list.ensures.1 in
    let refused = rw c.deref.ensures.value at c.in_err-list.ensures.first in
    rw p.1 (inl (c.in_ok-text.text.items, c.in_ok-text.ensures.loads, inr (p.0, (c.in_err-list.field-0.0, refused, p.2), refl, Keeps-refl _)))

pub returns-in_err-dump : goal.returns-in_err-dump
returns-in_err-dump g c =
    let p = err_from_is_err_and c.from_residual-in_err-dump.result c.from_residual-in_err-dump.ensures.1 in
    let block = rw c.deref.ensures.value at c.in_ok-list.ensures.found.1 in
    let refused = rw c.deref-2.ensures.value at c.in_err-dump.ensures.first in
    rw p.1 (inl (c.in_ok-text.text.items, c.in_ok-text.ensures.loads, inl (c.in_ok-list.list.ops, block, inr (p.0, (c.in_err-dump.field-0.0, refused, p.2), refl, Keeps-refl _))))

pub returns : goal.returns
returns g c =
    let block = rw c.deref.ensures.value at c.in_ok-list.ensures.found.1 in
    let dump = rw c.deref-2.ensures.value at c.in_ok-dump.ensures.found in
    let ends = rw c.in_ok-list.ensures.found.0 at c.put_evaluated.ensures in
    inl (c.in_ok-text.text.items, c.in_ok-text.ensures.loads, inl (c.in_ok-list.list.ops, block, inl (c.in_ok-dump.dump, dump, ends)))
