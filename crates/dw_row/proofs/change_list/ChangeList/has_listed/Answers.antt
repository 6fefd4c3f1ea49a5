use Rattle.dw_row.proofs.{Words.{arith, sym, ◌∙◌}, ChangeLaws.found_at}
use Rattle.dw_row.proofs.change_list.ChangeList.has_listed.Goals as goal

pub returns-then-from-register : goal.returns-then-from-register
returns-then-from-register c =
    let s = c.self.inside in
    rw (← c.self.view_is) (λ found. found_at s.kinds s.registers s.numbers c.args.register c.args.from c.loop-place.place s.count s.rest.items (omega (arith, c.max-first.ensures, c.loop-place.auto.place)) c.loop-place-test.true
    (sym c.from.ensures ∙ c.if-from-register.true))
