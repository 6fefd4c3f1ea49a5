use Rattle.dw_normal.proofs.{Words.{◌<◌, ◌∙◌, ap, length, map, subst, arith, Bool, IsTrue, length-map, take_all, Fde, fde_of, initial_rows}, Grouped.{no_member, rows_more}, Short.{share_added, short_where}}
use Rattle.dw_normal.proofs.groups.gather.Goals as goal

pub fdes-preserved : goal.fdes-preserved
fdes-preserved c = (
  λ ms are.
      let count = c.fde_count-place-end.ensures (map fde_of ms) are.fdes ∙ length-map ms fde_of in
      let lt : c.fdes.place < length ms = omega (arith, count, c.fdes-test.true) in
      rows_more c.fdes.place ms c.fdes.rows.entries c.join_fde.new.rows.entries lt (c.fdes.invariant.0 ms are) (c.in_ok-joined.ensures.rows ms are no_member),
  c.add_share-total.ensures.low,
  λ fs are.
      let none : Fde = record { begin = 0; end = 0; return_register = 0 } in
      let lt : c.fdes.place < length fs = omega (arith, c.fde_count-place-end.ensures fs are, c.fdes-test.true) in
      let own = c.opening-opening.result.own in
      let initial = c.opening-opening.result.initial in
      share_added c.args.table.now.target c.args.table.now.bytes fs c.fdes.place none own initial c.fdes.total c.add_share-total.result lt (c.fdes.invariant.2 fs are) (c.opening-opening.ensures.lengths fs are none)
      c.add_share-total.ensures.is c.add_share-total.ensures.some,
  c.in_ok-joined.ensures.section,
  c.in_ok-joined.ensures.joined,
  c.in_ok-joined.ensures.known,
)

pub returns-clause-rows : goal.returns-clause-rows
returns-clause-rows c = λ ms are.
    let count = c.fde_count-place-end.ensures (map fde_of ms) are.fdes ∙ length-map ms fde_of in
    let all = take_all c.fdes.place ms (omega (arith, count, c.fdes-test.false)) in
    c.fdes.invariant.0 ms are ∙ ap initial_rows all

pub returns-clause-short : goal.returns-clause-short
returns-clause-short c = λ ms are short.
    let some = subst (λ (b : Bool). IsTrue b) c.is_some.ensures short in
    short_where c.args.table.now.target c.args.table.now.bytes c.fdes.place c.args.cap c.fdes.total c.accepted.ensures.bytes c.accepted.ensures.accepted
    (λ fs are'. omega (arith, c.fde_count-place-end.ensures fs are', c.fdes.auto.place-end, c.fdes-test.false)) c.fdes.invariant.2 c.fdes.invariant.1 some ms are

pub join_fde-requires-clause-joined : goal.join_fde-requires-clause-joined
join_fde-requires-clause-joined c = c.fdes.invariant.4
