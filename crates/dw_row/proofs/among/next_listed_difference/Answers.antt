use Rattle.dw_row.proofs.Words.{ℕ, List, refl, sym, subst, nat_cmp, range_contains, Bound, Unbounded, place_behind, AreSpecified, SameUnlisted}
use Rattle.dw_row.proofs.{Lent.{RowLists.Entry, Equal.not_one}, Difference.{FromOn, range_on}, Marked.{from_ascends, from_unlisted, differs_here, same_here}}
use Rattle.dw_row.proofs.among.next_listed_difference.Goals as goal

pub marks-init : goal.marks-init
marks-init c =
    let from = place_behind c.args.behind in let start = c.start_behind.result in let far = c.args.marked.now.entries in
    let on = subst (λ (b : Bound ℕ). FromOn (λ (x : Entry). range_contains nat_cmp b Unbounded x.0) from) (sym c.start_behind.ensures) (range_on c.args.behind) in
    let p = λ (x : Entry). range_contains nat_cmp start Unbounded x.0 in
    let is = sym (c.range-marks.ensures.between tt) in (
      subst (AreSpecified from) is (from_ascends p from on 128 far c.requires.marked),
      subst (λ (l : List Entry). SameUnlisted from l c.args.kept.now.registers c.args.row.now.registers) is (from_unlisted p from on 128 far c.args.kept.now.registers c.args.row.now.registers c.requires.marked c.requires.same),
    )

pub returns-then-not-has_same_rule : goal.returns-then-not-has_same_rule
returns-then-not-has_same_rule c = differs_here _ _ _ _ _ _ _ c.in-Some.ensures.steps c.marks.invariant.0 c.marks.invariant.1 (not_one c.if-not-has_same_rule.ensures)

pub marks-preserved : goal.marks-preserved
marks-preserved c = same_here _ _ _ _ _ _ _ c.in-Some.ensures.steps c.marks.invariant.0 c.marks.invariant.1 (c.if-not-has_same_rule.ensures.0 refl)
