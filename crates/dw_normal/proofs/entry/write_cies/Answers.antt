use Rattle.dw_normal.proofs.Words.{◌≡◌, ◌-◌, ◌∷◌, ◌∙◌, Ok, Err, Some, rules, Updates, nat_cmp, cie_with, Written, contents, entry_bytes, sink_at}
use Rattle.dw_normal.proofs.{Entries.{cies_ready, cies_start, cies_fail, cies_more}, Joined.{fill_puts, ok_of, puts_from}, entry.write_cies.Given.Over, entry.write_cies.Goals.In-Some}
use Rattle.dw_normal.proofs.entry.write_cies.Goals as goal

more : (g : Over) (c : In-Some g) → c.rows.register-iterator ≡ (c.in-Some.register.now, c.in-Some.initial.now) ∷ c.next.new.self
more g c = search rules

-- the CIE that is put
abbrev own : (g : Over) (c : In-Some g) → Written
own g c = cie_with c.target-target.result (c.in-Some.register.now, c.in-Some.initial.now)

pub rows-init : goal.rows-init
rows-init g c =
    let can = cies_ready c.accepted.ensures.bytes c.accepted.ensures.accepted c.requires.rows c.target-target.ensures in
    search (rules, cies_start, can.0, can.1)

pub returns-in_err-fill_cie-clause-puts : goal.returns-in_err-fill_cie-clause-puts
returns-in_err-fill_cie-clause-puts g c =
    let one = more g (goal.at.returns-in_err-fill_cie-clause-puts g c).In-Some in
    rw (← c.target-target.ensures)
    (cies_fail c.rows.invariant one c.from_residual.result _ _ c.from_residual.ensures.1
    (fill_puts g.S.Sink.failures g.S.Sink.taken c.rows.sink c.args.out.now.counts c.target-target.result (cie_with c.target-target.result (c.in-Some.register.now, c.in-Some.initial.now)) _ c.rows.out c.fill_cie.new.out c.in_err-fill_cie.ensures.room.0 c.in_err-fill_cie.ensures.contents))

pub rows-preserved : goal.rows-preserved
rows-preserved g c =
    let one = more g (goal.at.rows-preserved g c).In-Some in
    let kept = ok_of c.insert.result (Updates nat_cmp c.rows.places c.insert.new.self c.in-Some.register.now (Some (c.args.out.now.room - c.rows.out.room))) c.insert.ensures.updates c.if-is_err.ensures.negation in
    let same = c.in_ok-fill_cie.ensures.room in
    let put =
    puts_from g.S.Sink.failures g.S.Sink.taken c.rows.sink (entry_bytes c.target-target.result (own g (goal.at.rows-preserved g c).In-Some)) (Ok c.in_ok-put_entry.field-0) _ _ _ _ _ (same.1 ∙ c.rows.invariant.counts) same.0
    (c.in_ok-put_entry.ensures.puts (contents c.target-target.result (own g (goal.at.rows-preserved g c).In-Some)) c.in_ok-fill_cie.ensures.contents) in
    cies_more c.rows.invariant one c.put_entry.new.out c.put_entry.new.sink (c.in_ok-put_entry.ensures.counts ∙ same.1) put kept.0

pub returns-in_err-put_entry-clause-puts : goal.returns-in_err-put_entry-clause-puts
returns-in_err-put_entry-clause-puts g c =
    let one = more g (goal.at.returns-in_err-put_entry-clause-puts g c).In-Some in
    let same = c.in_ok-fill_cie.ensures.room in
    let w = own g (goal.at.returns-in_err-put_entry-clause-puts g c).In-Some in
    let new = sink_at g.S.Sink.failures g.S.Sink.taken c.put_entry.new.out.room c.put_entry.new.sink in
    rw (← c.target-target.ensures)
    (cies_fail c.rows.invariant one c.from_residual-in_err-put_entry.result _ _ c.from_residual-in_err-put_entry.ensures.1
    (puts_from g.S.Sink.failures g.S.Sink.taken c.rows.sink (entry_bytes c.target-target.result w) (Err c.in_err-put_entry.field-0.0) new _ _ _ _ (same.1 ∙ c.rows.invariant.counts) same.0 (c.in_err-put_entry.ensures.puts (contents c.target-target.result w) c.in_ok-fill_cie.ensures.contents)))
