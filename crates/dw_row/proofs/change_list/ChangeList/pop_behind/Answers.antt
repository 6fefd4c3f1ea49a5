use Rattle.std.proofs.lemmas.List.{nil_from_length}
use Rattle.dw_row.proofs.{Words.{◌≡◌, ◌≤◌, ◌-◌, FitsSigned, arith, get_or, nat_tests, pos, refl, rules, to_z-of_z, w64}, ChangeLaws.{count_listed, last_listed}}
use Rattle.dw_row.proofs.change_list.ChangeList.pop_behind.Goals as goal

pub overflow_sub-self : goal.overflow_sub-self
overflow_sub-self c =
    let s = c.self.inside in let empty : s.rest.len ≡ 0 = grind (arith, nat_tests, c.if-not-is_empty.ensures) in
    let count = rw (← c.self.view_is) at c.len.ensures in
    omega (arith, c.if-len-from.false, count, count_listed s.kinds s.registers s.numbers s.count s.rest.items, s.rest.ok, empty)

pub returns-clause-some : goal.returns-clause-some
returns-clause-some c =
    let s = c.self.inside in let empty : s.rest.len ≡ 0 = grind (arith, nat_tests, c.if-not-is_empty.ensures) in
    let count = rw (← c.self.view_is) at c.len.ensures in
    let some : 1 ≤ s.count = omega (arith, c.if-len-from.false, count, count_listed s.kinds s.registers s.numbers s.count s.rest.items, s.rest.ok, empty) in
    let x = get_or s.numbers (s.count - 1) (pos 0) in let fits : FitsSigned w64 x = search rules in (
      omega (arith, c.if-len-from.false, c.len.ensures),
      rw (← c.self.view_is) (last_listed s.kinds s.registers s.numbers s.count some s.rest.items (nil_from_length s.rest.items (omega (arith, s.rest.ok, empty))) _ (rw (c.from.ensures, rw (to_z-of_z w64 x fits) at c.plain_rule.ensures) refl)),
    )
