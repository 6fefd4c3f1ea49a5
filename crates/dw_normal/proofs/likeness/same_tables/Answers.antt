use Rattle.dw_normal.proofs.{Words.{◌≡◌, ◌∙◌, Some, inl, inr, arith, ap, sym, length, canon, cies_bytes, fdes_bytes}, Alike.{alike, canon_like, cies_lack, cies_unlike, fdes_lack, if_lacks, if_likens, lacks_on, unlike}, Placed.as_many, Reports.on_tape, likeness.same_tables.Goals.After-ne}
use Rattle.dw_normal.proofs.Words.{◌+◌, List, [], Member, nil_from_length, refl}
use Rattle.dw_normal.proofs.likeness.same_tables.Goals as goal

pub returns-then-fde_count-count-clause-compares : goal.returns-then-fde_count-count-clause-compares
returns-then-fde_count-count-clause-compares c = λ ms ns are others.
    let mine = as_many are c.fde_count-count.ensures in
    let other = as_many others c.fde_count.ensures in
    (λ same. absurd (c.if-fde_count-count.true (other ∙ ap length (sym same) ∙ sym mine)), λ yes. absurd cc)

-- the CIEs of both
ones : (c : After-ne) → c.into_bytes.result.items ≡ cies_bytes c.args.one.now.table.target c.args.one.now.rows.entries
ones c = on_tape _ _ (Some c.new-cies.result.bytes.items) (Some c.write_cies.new.sink.bytes.items) c.new-cies.ensures.empty (c.in_ok-write_cies.ensures.puts.2 c.new-mine.ensures.counts) c.into_bytes.ensures

others_are : (c : After-ne) → c.into_bytes-2.result.items ≡ cies_bytes c.args.two.now.table.target c.args.two.now.rows.entries
others_are c =
    on_tape _ _ (Some c.new-other_cies.result.bytes.items) (Some c.write_cies-2.new.sink.bytes.items) c.new-other_cies.ensures.empty (c.in_ok-write_cies-2.ensures.puts.2 c.new-other.ensures.counts) c.into_bytes-2.ensures

pub returns-then-ne-clause-compares : goal.returns-then-ne-clause-compares
returns-then-ne-clause-compares c = λ ms ns are others.
    let at = (goal.at.returns-then-ne-clause-compares c).After-ne in
    let not = unlike c.into_bytes.result.items c.into_bytes-2.result.items c.ne.result c.ne.ensures c.if-ne.true in
    (λ same. absurd (cies_unlike c.requires.target ms ns c.args.one.now.rows.entries c.args.two.now.rows.entries (c.requires.rows ms are) (c.requires.other_rows ns others) (λ e. not (ones at ∙ e ∙ sym (others_are at))) same), λ is. absurd cc)

pub room_for-first-requires : goal.room_for-first-requires
room_for-first-requires c = record {
  place = λ fs are. omega (arith, c.fde_count-count.ensures fs are, c.if-count-eq0.false);
  rows = c.requires.rows;
  places = c.in_ok-write_cies.ensures.places;
  low = omega (arith, c.in_ok-write_cies.ensures.puts.1, c.new-mine.ensures.room);
}

pub room_for-second-requires : goal.room_for-second-requires
room_for-second-requires c = record {
  place = λ fs are. omega (arith, c.fde_count.ensures fs are, c.if-fde_count-count.false, c.if-count-eq0.false);
  rows = c.requires.other_rows;
  places = c.in_ok-write_cies-2.ensures.places;
  low = omega (arith, c.in_ok-write_cies-2.ensures.puts.1, c.new-other.ensures.room);
}

pub same_over-same-requires : goal.same_over-same-requires
same_over-same-requires c = record {
  target = rw (c.room_for-first.ensures.ready, c.room_for-second.ensures.ready) c.requires.target;
  count = rw c.room_for-first.ensures.ready c.fde_count-count.ensures;
  other_count = rw c.room_for-second.ensures.ready (λ fs are. omega (arith, c.fde_count.ensures fs are, c.if-fde_count-count.false));
  walks = (c.room_for-first.ensures.walks, c.room_for-second.ensures.walks);
  kept =
      let one = c.in_ok-write_cies.ensures in
      let two = c.in_ok-write_cies-2.ensures in
      ((one.counts ∙ c.new-mine.ensures.counts, omega (arith, one.puts.1, c.new-mine.ensures.room)), (two.counts ∙ c.new-other.ensures.counts, omega (arith, two.puts.1, c.new-other.ensures.room)));
}

pub returns-clause-compares : goal.returns-clause-compares
returns-clause-compares c = λ ms ns are others.
    let at = (goal.at.returns-clause-compares c).After-ne in
    let t = c.args.one.now.table.target in
    let u = c.args.two.now.table.target in
    let same = alike c.into_bytes.result.items c.into_bytes-2.result.items c.ne.result c.ne.ensures c.if-ne.false in
    let cies = sym (ones at) ∙ same ∙ others_are at in
    let over = rw (c.room_for-first.ensures.ready, c.room_for-second.ensures.ready) at c.same_over-same.ensures.compares in
    if_likens (ms ≡ ns) (fdes_bytes t ms ms ≡ fdes_bytes u ns ns) (canon t ms ≡ canon u ns) c.same_over-same.result
    (canon_like t u ms ns c.args.one.now.rows.entries c.args.two.now.rows.entries (c.requires.rows ms are) (c.requires.other_rows ns others) cies) (over ms ns are others)

pub returns-then-count-eq0-clause-compares : goal.returns-then-count-eq0-clause-compares
returns-then-count-eq0-clause-compares c = λ ms ns are others.
    let at = (goal.at.returns-then-count-eq0-clause-compares c).After-ne in
    let t = c.args.one.now.table.target in
    let u = c.args.two.now.table.target in
    let none : ms ≡ [] = nil_from_length ms (omega (arith, as_many are c.fde_count-count.ensures, c.if-count-eq0.true)) in
    let none' : ns ≡ [] = nil_from_length ns (omega (arith, as_many others c.fde_count.ensures, c.if-fde_count-count.false, c.if-count-eq0.true)) in
    let same = alike c.into_bytes.result.items c.into_bytes-2.result.items c.ne.result c.ne.ensures c.if-ne.false in
    let fdes : fdes_bytes t ms ms ≡ fdes_bytes u ns ns = ap (λ (l : List Member). fdes_bytes t l l) none ∙ sym (ap (λ (l : List Member). fdes_bytes u l l) none') in
    (λ e. refl, λ yes. canon_like t u ms ns c.args.one.now.rows.entries c.args.two.now.rows.entries (c.requires.rows ms are) (c.requires.other_rows ns others) (sym (ones at) ∙ same ∙ others_are at) fdes)

-- what there is no room for is the CIEs or FDEs of one of them
pub returns-in_err-write_cies-clause-full : goal.returns-in_err-write_cies-clause-full
returns-in_err-write_cies-clause-full c = λ ms ns are others.
    lacks_on c.from_residual.result c.in_err-write_cies.field-0.0 _ c.from_residual.ensures.1
    (λ full. inl (cies_lack c.args.one.now.table.target ms c.args.one.now.rows.entries (c.requires.rows ms are) _ _ _ _ 2147483647 c.new-mine.ensures.room c.in_err-write_cies.ensures.puts full))

pub returns-in_err-write_cies-2-clause-full : goal.returns-in_err-write_cies-2-clause-full
returns-in_err-write_cies-2-clause-full c = λ ms ns are others.
    let after = c.from_residual-in_err-write_cies-2 in
    lacks_on after.result c.in_err-write_cies-2.field-0.0 _ after.ensures.1
    (λ full. inr (cies_lack c.args.two.now.table.target ns c.args.two.now.rows.entries (c.requires.other_rows ns others) _ _ _ _ 2147483647 c.new-other.ensures.room c.in_err-write_cies-2.ensures.puts full))

pub returns-clause-full : goal.returns-clause-full
returns-clause-full c = λ ms ns are others.
    let one = c.args.one.now in
    let two = c.args.two.now in
    let over = rw (c.room_for-first.ensures.ready, c.room_for-second.ensures.ready) at c.same_over-same.ensures.full in
    let left : c.write_cies.new.out.room + length (cies_bytes one.table.target one.rows.entries) ≡ 2147483647 = c.in_ok-write_cies.ensures.puts.1 ∙ c.new-mine.ensures.room in
    let left' : c.write_cies-2.new.out.room + length (cies_bytes two.table.target two.rows.entries) ≡ 2147483647 = c.in_ok-write_cies-2.ensures.puts.1 ∙ c.new-other.ensures.room in
    if_lacks c.same_over-same.result (fdes_lack one.table.target ms one.rows.entries (c.requires.rows ms are) 2147483647 _ left) (fdes_lack two.table.target ns two.rows.entries (c.requires.other_rows ns others) 2147483647 _ left')
    (over ms ns are others)
