use Rattle.std.proofs.lemmas.List.{take_all}
use Rattle.dw_show.proofs.Words.{◌≡◌, ◌∙◌, ◌≤◌, ◌<◌, ◌^◌, ℕ, List, length, take, arith, subst, sym, err_from_is_err_and, AllByRecursion, Rules, Fde, members_exist, Adds, fde_text, member_text, row_text, lines}
use Rattle.dw_show.proofs.{Members.{IsLow, as_many, changes_low, come_all, end_low, fde_is, no_member}, Lent.Endings.{on, printed}, TextLines.lines_more}
use Rattle.dw_show.proofs.rows.put_fdes.Goals as goal

pub put_fde-requires : goal.put_fde-requires
put_fde-requires g c =
    let t = c.args.table.now.target in
    let s = c.args.table.now.bytes in
    let k = c.loop-place.place in
    let b = c.accepted.ensures.bytes in
    let ok = c.accepted.ensures.accepted in
    let count = c.fde_count-place-end in
    let found = members_exist t s b ok in
    let lt : k < length found.0 = subst (λ (n : ℕ). k < n) (as_many t s found.0 count.result found.1 count.ensures) c.loop-place-test.true in
    let is = fde_is t s b ok found.0 found.1 k no_member lt c.fde.result c.fde.ensures in
    record { in_space = subst (λ (f : Fde). f.end ≤ 2 ^ 64) (sym is) (end_low t s b ok found.0 found.1 k no_member lt) }

pub put_changes-requires : goal.put_changes-requires
put_changes-requires g c =
    let t = c.args.table.now.target in
    let s = c.args.table.now.bytes in
    let k = c.loop-place.place in
    let b = c.accepted.ensures.bytes in
    let ok = c.accepted.ensures.accepted in
    let count = c.fde_count-place-end in
    let found = members_exist t s b ok in
    let lt : k < length found.0 = subst (λ (n : ℕ). k < n) (as_many t s found.0 count.result found.1 count.ensures) c.loop-place-test.true in
    let come = come_all t s b ok found.0 found.1 k no_member lt c.go_on.new.changes.to_come c.go_on.ensures.changes in
    record { in_space = subst (λ (l : List (ℕ × Rules)). AllByRecursion IsLow l) (sym come) (changes_low t s b ok found.0 found.1 k no_member lt) }

pub loop-place-preserved : goal.loop-place-preserved
loop-place-preserved g c =
    let t = c.args.table.now.target in
    let s = c.args.table.now.bytes in
    let k = c.loop-place.place in
    let b = c.accepted.ensures.bytes in
    let ok = c.accepted.ensures.accepted in
    let count = c.fde_count-place-end in
    let line = c.put_fde.new.listing in
    let new = c.put_changes.new.out in (
      c.put_changes.ensures.section ∙ c.go_on.ensures.section,
      λ ms are.
          let lt : k < length ms = subst (λ (n : ℕ). k < n) (as_many t s ms count.result are count.ensures) c.loop-place-test.true in
          let is = fde_is t s b ok ms are k no_member lt c.fde.result c.fde.ensures in
          let come = come_all t s b ok ms are k no_member lt c.go_on.new.changes.to_come c.go_on.ensures.changes in
          let p1 = subst (λ (f : Fde). Adds g.W.Write.contents c.loop-place.out line (fde_text f)) is c.put_fde.ensures in
          let p2 = subst (λ (l : List (ℕ × Rules)). Adds g.W.Write.contents line new (lines row_text l)) come c.in_ok-put_changes.ensures.put in
          let all = on g.W.Write.contents _ _ _ _ _ (c.loop-place.invariant.1 ms are) (on g.W.Write.contents _ _ _ _ _ p1 p2) in
          subst (λ (x : List ℕ). Adds g.W.Write.contents c.args.out.now new x) (sym (lines_more member_text ms k no_member lt)) all,
    )

pub returns-in_err-put_changes : goal.returns-in_err-put_changes
returns-in_err-put_changes g c =
    let p = err_from_is_err_and c.from_residual.result c.from_residual.ensures.1 in
    λ ms are. rw (p.1, p.2) (rw c.requires.works c.in_err-put_changes.ensures.told)

pub returns : goal.returns
returns g c = λ ms are.
    let many = as_many c.args.table.now.target c.args.table.now.bytes ms c.fde_count-place-end.result are c.fde_count-place-end.ensures in
    let all : take c.loop-place.place ms ≡ ms = take_all c.loop-place.place ms (omega (arith, many, c.loop-place-test.false)) in
    let put = rw all at (c.loop-place.invariant.1 ms are) in
    printed g.W.Write.contents c.args.out.now c.loop-place.out _ (lines member_text ms) c.finish.result c.requires.works put c.finish.ensures.ends
