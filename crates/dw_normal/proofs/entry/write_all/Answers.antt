use Rattle.dw_normal.specs.Inner.Writing.{table_of}
use Rattle.dw_normal.proofs.Words.{◌++◌, ◌∙◌, Ok, Err, get_or, arith, sym, subst, members_exist, Member, AreMembers, List, Target, contents, entry_bytes, fde_with, fixed_bytes, sink_at, Holds, Place, Written, Fills, Puts, Result, Stop, unsized}
use Rattle.dw_normal.proofs.{Entries.{fdes_fail, fdes_next}, Grouped.no_member, Joined.{fill_puts, puts_from}, entry.write_all.Given.Over, entry.write_all.Goals.In-fdes}
use Rattle.dw_normal.proofs.entry.write_all.Goals as goal

-- the members that the table has
some : (g : Over) (c : In-fdes g) → (ms : List Member) × AreMembers (table_of c.args.begun.now).target (table_of c.args.begun.now).bytes ms
some g c = members_exist (table_of c.args.begun.now).target (table_of c.args.begun.now).bytes c.accepted.ensures.bytes c.accepted.ensures.accepted

-- how far it was put, and the FDE that comes next
abbrev start : (g : Over) (c : In-fdes g) → Place
start g c = sink_at g.S.Sink.failures g.S.Sink.taken c.args.out.now.room c.args.sink.now

abbrev mid : (g : Over) (c : In-fdes g) → Place
mid g c = sink_at g.S.Sink.failures g.S.Sink.taken c.fdes.out.room c.fdes.sink

abbrev next : (g : Over) (c : In-fdes g) → List Member → Written
next g c ms = fde_with (table_of c.args.begun.now).target ms (get_or ms c.fdes.place no_member)

pub fill_next-requires-clause-room : goal.fill_next-requires-clause-room
fill_next-requires-clause-room g c =
    let one = some g (goal.at.fill_next-requires-clause-room g c).In-fdes in
    omega (arith, (c.fdes.invariant.fdes one.0 one.1).1, c.requires.room)

pub returns-in_err-fill_next : goal.returns-in_err-fill_next
returns-in_err-fill_next g c = λ ms are.
    let at = (goal.at.returns-in_err-fill_next g c).In-fdes in
    let t = (table_of c.args.begun.now).target in
    let filled = rw c.fdes.invariant.ready at c.fill_next.ensures.contents in
    let stops = subst (λ (r : Result Unit Stop). Fills (unsized t (next g at ms)) r c.fdes.out c.fill_next.new.out) c.in_err-fill_next.was (filled ms are no_member) in
    fdes_fail (start g at) (mid g at) c.fdes.invariant.fdes c.requires.count c.fdes-test.true are no_member c.from_residual.result _ _ c.from_residual.ensures.1
    (fill_puts g.S.Sink.failures g.S.Sink.taken c.fdes.sink c.args.out.now.counts t (next g at ms) _ c.fdes.out c.fill_next.new.out c.in_err-fill_next.ensures.room.0 stops)

pub put_entry-requires : goal.put_entry-requires
put_entry-requires g c =
    let at = (goal.at.put_entry-requires g c).In-fdes in
    let one = some g at in
    let put = c.fdes.invariant.fdes one.0 one.1 in
    let filled = rw c.fdes.invariant.ready at c.in_ok-fill_next.ensures.contents in
    let built = contents (table_of c.args.begun.now).target (next g at one.0) in record {
      failures = omega (arith, put.0, c.requires.failures);
      room = omega (arith, put.1, c.in_ok-fill_next.ensures.room.0, c.requires.room);
      holds = (built, subst (λ (u : Target). Holds c.fill_next.new.out (fixed_bytes u.order 4 0 ++ built)) (sym c.target-order.ensures) (filled one.0 one.1 no_member));
    }

pub returns-in_err-put_entry : goal.returns-in_err-put_entry
returns-in_err-put_entry g c = λ ms are.
    let at = (goal.at.returns-in_err-put_entry g c).In-fdes in
    let t = (table_of c.args.begun.now).target in
    let filled = rw c.fdes.invariant.ready at c.in_ok-fill_next.ensures.contents in
    let put = rw c.target-order.ensures at c.put_entry.ensures.puts in
    let same = c.in_ok-fill_next.ensures.room in
    let new = sink_at g.S.Sink.failures g.S.Sink.taken c.put_entry.new.out.room c.put_entry.new.sink in
    fdes_fail (start g at) (mid g at) c.fdes.invariant.fdes c.requires.count c.fdes-test.true are no_member c.from_residual-in_err-put_entry.result _ new c.from_residual-in_err-put_entry.ensures.1
    (puts_from g.S.Sink.failures g.S.Sink.taken c.fdes.sink (entry_bytes t (next g at ms)) (Err c.in_err-put_entry.field-0.0) new _ _ _ _ (same.1 ∙ c.fdes.invariant.counts) same.0
    (subst (λ (r : Result Unit Stop). Puts c.fill_next.new.out.counts (entry_bytes t (next g at ms)) r (sink_at g.S.Sink.failures g.S.Sink.taken c.fill_next.new.out.room c.fdes.sink) new) c.in_err-put_entry.was
    (put (contents t (next g at ms)) (filled ms are no_member))))

pub fdes-preserved : goal.fdes-preserved
fdes-preserved g c =
    let at = (goal.at.fdes-preserved g c).In-fdes in
    let same = c.in_ok-fill_next.ensures.room in record {
      fdes = λ ms are.
          let t = (table_of c.args.begun.now).target in
          let filled = rw c.fdes.invariant.ready at c.in_ok-fill_next.ensures.contents in
          let put = rw c.target-order.ensures at c.in_ok-put_entry.ensures.puts in
          let new = sink_at g.S.Sink.failures g.S.Sink.taken c.put_entry.new.out.room c.put_entry.new.sink in
          fdes_next (start g at) (mid g at) c.fdes.invariant.fdes c.requires.count c.fdes-test.true are no_member new
          (puts_from g.S.Sink.failures g.S.Sink.taken c.fdes.sink (entry_bytes t (next g at ms)) (Ok c.in_ok-put_entry.field-0) new _ _ _ _ (same.1 ∙ c.fdes.invariant.counts) same.0
          (put (contents t (next g at ms)) (filled ms are no_member)));
      counts = c.in_ok-put_entry.ensures.counts ∙ same.1 ∙ c.fdes.invariant.counts;
      walks = c.in_ok-fill_next.ensures.walks;
      ready = c.in_ok-fill_next.ensures.ready ∙ c.fdes.invariant.ready;
    }
