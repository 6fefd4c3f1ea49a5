use Rattle.dw_section.proofs.{Words.{◌++◌, ◌∷◌, [], take, map, get_or, arith, map_more, subst, sym, AreIndexed, AreOf, IsFound, IsRanged, Section, range_in, Starts, all_zipped_more}, Counts.total_push, Lent.FdeLookup.none, Lent.Judged.all_get}
use Rattle.dw_section.proofs.{RowLookup.{program_so, starts_at}, table.Table.row_starts.Goals.After-found_fde-found}
use Rattle.dw_section.proofs.table.Table.row_starts.Goals as goal

module _ (c : After-found_fde-found) where
  indexed : AreIndexed c.self.inside.target c.self.inside.bytes.now c.index-index.result.now
  indexed = (rw (sym c.self.view_is) at c.index-index.ensures).indexed

  is : IsFound indexed.headers c.found_fde-found.result
  is =
      let hs = indexed.headers in
      let initials = subst (AreOf hs) (sym c.deref.ensures.value) (c.self.invariant.1.1 hs indexed.hold.0.0.0) in
      c.found_fde-found.ensures.is hs indexed.hold.0.0.0 initials (all_get (IsRanged hs) c.index-index.result.now c.loop-fde.fde-index none indexed.each c.loop-fde-test.true)

pub starts_of-sum-requires : goal.starts_of-sum-requires
starts_of-sum-requires c =
    let w = (goal.at.starts_of-sum-requires c).After-found_fde-found in
    let p = program_so c.self.inside.target c.self.inside.bytes.now (indexed w).headers (indexed w).hold c.found_fde-found.result (is w) in
    (p.1, p.3)

pub loop-fde-preserved : goal.loop-fde-preserved
loop-fde-preserved c =
    let w = (goal.at.loop-fde-preserved c).After-found_fde-found in
    let xs = c.index-index.result.now in
    let i = c.loop-fde.fde-index in
    let x = get_or xs i none in
    let f = c.found_fde-found in
    let sum = c.loop-fde.invariant.1 in
    let n = c.starts_of-sum.result in
    let starts = starts_at c.self.inside.target c.self.inside.bytes.now (indexed w).headers (indexed w).hold f.result (is w) x f.ensures.at f.ensures.begin f.ensures.range n c.starts_of-sum.ensures.counted in (
      omega (arith, c.loop-fde.invariant.0, c.starts_of-sum.ensures.bound),
      (
        sum.0 ++ n ∷ [],
        rw (map_more range_in xs i none c.loop-fde-test.true)
            (all_zipped_more (Starts c.args.self.now.target c.args.self.now.bytes) (map range_in (take i xs)) sum.0 (range_in x) n sum.1 (subst (λ (s : Section). Starts s.target s.bytes (range_in x) n) c.self.view_is starts)),
        omega (arith, total_push sum.0 n, sum.2),
      ),
    )
