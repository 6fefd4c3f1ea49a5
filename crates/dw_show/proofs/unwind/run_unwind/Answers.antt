use Rattle.dw_show.proofs.{Words.{Ok, Err, inl, inr, refl, err_from_is_err_and, Keeps-refl}, Endings.dump_before}
use Rattle.dw_show.proofs.unwind.run_unwind.Goals as goal

pub returns-in_err-text : goal.returns-in_err-text
returns-in_err-text g c =
    let p = err_from_is_err_and c.from_residual-in_err-text.result c.from_residual-in_err-text.ensures.1 in
    let text = dump_before _ _ c.in_ok-bytes.ensures.same c.args.unwinding.now.dump.now (Err c.in_err-text.field-0.0) c.in_err-text.ensures.loads in
    rw (p.1, p.2) (inl (c.in_ok-bytes.bytes.items, c.in_ok-bytes.ensures.loads, inr (c.in_err-text.field-0.0, text, refl, Keeps-refl _)))

pub returns-in_err-table : goal.returns-in_err-table
returns-in_err-table g c =
    let p = err_from_is_err_and c.from_residual-in_err-table.result c.from_residual-in_err-table.ensures.1 in
    let text = dump_before _ _ c.in_ok-bytes.ensures.same c.args.unwinding.now.dump.now (Ok c.in_ok-text.text.items) c.in_ok-text.ensures.loads in
    let refused = rw c.deref.ensures.value at c.in_err-table.ensures.first in
    rw p.1 (inl (c.in_ok-bytes.bytes.items, c.in_ok-bytes.ensures.loads, inl (c.in_ok-text.text.items, text, inr (p.0, (c.in_err-table.field-0.0, refused, p.2), refl, Keeps-refl _))))

pub returns-in_err-dump : goal.returns-in_err-dump
returns-in_err-dump g c =
    let p = err_from_is_err_and c.from_residual-in_err-dump.result c.from_residual-in_err-dump.ensures.1 in
    let text = dump_before _ _ c.in_ok-bytes.ensures.same c.args.unwinding.now.dump.now (Ok c.in_ok-text.text.items) c.in_ok-text.ensures.loads in
    let accepted = rw c.deref.ensures.value at c.in_ok-table.ensures.found.1 in
    let refused = rw c.deref-2.ensures.value at c.in_err-dump.ensures.first in
    rw p.1 (inl (c.in_ok-bytes.bytes.items, c.in_ok-bytes.ensures.loads, inl (c.in_ok-text.text.items, text, inl (tt, accepted, inr (p.0, (c.in_err-dump.field-0.0, refused, p.2), refl, Keeps-refl _)))))

pub returns : goal.returns
returns g c =
    let text = dump_before _ _ c.in_ok-bytes.ensures.same c.args.unwinding.now.dump.now (Ok c.in_ok-text.text.items) c.in_ok-text.ensures.loads in
    let accepted = rw c.deref.ensures.value at c.in_ok-table.ensures.found.1 in
    let dump = rw c.deref-2.ensures.value at c.in_ok-dump.ensures.found in
    let caller = rw (c.in_ok-table.ensures.found.0, c.deref.ensures.value) at c.put_caller.ensures in
    inl (c.in_ok-bytes.bytes.items, c.in_ok-bytes.ensures.loads, inl (c.in_ok-text.text.items, text, inl (tt, accepted, inl (c.in_ok-dump.dump, dump, caller))))
