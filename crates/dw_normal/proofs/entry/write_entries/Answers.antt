use Rattle.dw_normal.proofs.{Words.{ℕ, List, refl, sym, ap, ◌∙◌, ◌++◌, subst, arith, append-nil, cies_bytes, fdes_bytes, Sends, sink_at}, Entries.{canon_both, cies_end}, Joined.{puts_both, puts_from}, Placed.as_many, Summed.none_bytes}
use Rattle.dw_normal.proofs.entry.write_entries.Goals as goal

pub returns-in_err-write_cies : goal.returns-in_err-write_cies
returns-in_err-write_cies g c = λ ms are.
    let t = c.args.ready.now.table.target in
    let rows = c.args.ready.now.rows.entries in
    cies_end c.args.out.now.counts t ms rows (c.requires.rows ms are) c.from_residual.result c.in_err-write_cies.field-0.0 _ (sink_at g.S.Sink.failures g.S.Sink.taken c.write_cies.new.out.room c.write_cies.new.sink) c.from_residual.ensures.1 c.in_err-write_cies.ensures.puts

pub returns-then-count-eq0 : goal.returns-then-count-eq0
returns-then-count-eq0 g c = λ ms are.
    let t = c.args.ready.now.table.target in
    let rows = c.args.ready.now.rows.entries in
    let count = as_many are c.fde_count-count.ensures in
    let none = none_bytes t ms ms (omega (arith, count, c.if-count-eq0.true)) in
    let whole = sym (append-nil (cies_bytes t rows)) ∙ ap (λ (l : List ℕ). cies_bytes t rows ++ l) (sym none) ∙ canon_both t ms rows (c.requires.rows ms are) in
    subst (λ (l : List ℕ). Sends c.args.out.now.counts l (sink_at g.S.Sink.failures g.S.Sink.taken c.args.out.now.room c.args.sink.now) (sink_at g.S.Sink.failures g.S.Sink.taken c.write_cies.new.out.room c.write_cies.new.sink)) whole
    c.in_ok-write_cies.ensures.puts

pub returns : goal.returns
returns g c = λ ms are.
    let t = c.args.ready.now.table.target in
    let rows = c.args.ready.now.rows.entries in
    let fdes = rw c.room_for-begun.ensures.ready at c.write_all-written.ensures in
    rw (← canon_both t ms rows (c.requires.rows ms are))
    (puts_both c.args.out.now.counts (cies_bytes t rows) (fdes_bytes t ms ms) _ _ _ c.in_ok-write_cies.ensures.puts c.write_all-written.result
    (puts_from g.S.Sink.failures g.S.Sink.taken c.write_cies.new.sink (fdes_bytes t ms ms) c.write_all-written.result (sink_at g.S.Sink.failures g.S.Sink.taken c.write_all-written.new.out.room c.write_all-written.new.sink) _ _ _ _ c.in_ok-write_cies.ensures.counts refl (fdes ms are)))
