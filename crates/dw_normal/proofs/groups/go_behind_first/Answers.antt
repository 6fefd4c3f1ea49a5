use Rattle.dw_normal.proofs.{Words.{◌≡◌, ◌<◌, Some, map, sym, ap, ◌∙◌, subst, ℕ, length-map, members_exist, fde_of, get_or, IsShown, row_or_blank}, ChangesToCome.behind, Filled.on_ok, Grouped.no_member, KnownCies.stands_behind}
use Rattle.dw_normal.proofs.groups.go_behind_first.Goals as goal

pub returns-clause-behind : goal.returns-clause-behind
returns-clause-behind c = λ ms are d.
    let lt = subst (λ (n : ℕ). c.args.fde.place < n) (length-map ms fde_of) (c.requires.place (map fde_of ms) are.fdes) in
    on_ok c.advance_behind.result _ _
    (λ goes. behind c.args.table.now.target c.args.table.now.bytes c.accepted.ensures.bytes c.accepted.ensures.accepted ms are c.args.fde.place d lt c.go_on.new.changes c.go_on.ensures.changes (Unit {0}) c.advance_behind.new.self goes.0 goes.1)
    c.advance_behind.ensures.goes

pub returns-clause-stands : goal.returns-clause-stands
returns-clause-stands c =
    let found = members_exist c.args.table.now.target c.args.table.now.bytes c.accepted.ensures.bytes c.accepted.ensures.accepted in
    let m = get_or found.0 c.args.fde.place no_member in
    let next = c.advance_behind.new.self in
    let shown = on_ok c.advance_behind.result _ (next.shown ≡ Some m.first) (λ first. first.shown) (returns-clause-behind c found.0 found.1 no_member) in
    stands_behind c.go_on.new.changes.section next c.advance_behind.new.changed m.first c.advance_behind.result c.advance_behind.ensures.section shown c.advance_behind.ensures.changed c.advance_behind.ensures.keeps

pub returns-clause-shown : goal.returns-clause-shown
returns-clause-shown c =
    let found = members_exist c.args.table.now.target c.args.table.now.bytes c.accepted.ensures.bytes c.accepted.ensures.accepted in
    on_ok c.advance_behind.result _ (IsShown c.advance_behind.new.self) (λ first. first.shown ∙ ap Some (sym (ap row_or_blank first.shown))) (returns-clause-behind c found.0 found.1 no_member)
