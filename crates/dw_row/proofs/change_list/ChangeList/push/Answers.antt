use Rattle.std.proofs.lemmas.List.{nil_from_length}
use Rattle.dw_row.proofs.{Words.{FitsSigned, arith, nat_tests, rules, to_z-of_z, w64, ◌≡◌}, ChangeLaws.set_listed}
use Rattle.dw_row.proofs.change_list.ChangeList.push.Goals as goal

pub returns-then-is_empty-clause-ok : goal.returns-then-is_empty-clause-ok
returns-then-is_empty-clause-ok c =
    let s = c.self.inside in let e = c.in-Some in let fits : FitsSigned w64 e.number = search rules in
    let empty : s.rest.len ≡ 0 = grind (arith, nat_tests, c.if-is_empty.ensures) in
    rw (← c.self.view_is, to_z-of_z w64 e.number fits) (
    set_listed s.kinds s.registers s.numbers s.count e.kind c.args.register e.number s.rest.items c.args.rule (omega (arith, c.self.invariant.0, c.if-self-lt-IN_PLACE.true))
    (omega (arith, c.self.invariant.1, c.if-self-lt-IN_PLACE.true)) (omega (arith, c.self.invariant.2, c.if-self-lt-IN_PLACE.true)) (nil_from_length s.rest.items (omega (arith, s.rest.ok, empty))) e.ensures
    )
