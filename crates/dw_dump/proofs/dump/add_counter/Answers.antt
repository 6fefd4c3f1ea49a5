use Rattle.dw_dump.proofs.{Words.{◌≡◌, true, Option, ℕ, subst, sym, ◌∙◌, arith, refl, is_some, counter_is, counter}, KeepLaws.{repeats, keeps_counter}}
use Rattle.dw_dump.proofs.dump.add_counter.Goals as goal

pub returns-then-is_some : goal.returns-then-is_some
returns-then-is_some c = λ ss k.
    let some = subst (λ (o : Option ℕ). is_some o ≡ true) k.pc (sym c.is_some.ensures ∙ c.if-is_some.true) in
    (k, (omega (arith, c.from.ensures, c.if-from-limit.false), (counter, repeats ss (counter_is c.args.value) counter some refl)))

pub returns : goal.returns
returns c = λ ss k. (keeps_counter c.args.value k (omega (arith, c.from.ensures, c.if-from-limit.false)) (sym c.is_some.ensures ∙ c.if-is_some.false), omega (arith, c.from.ensures, c.if-from-limit.false))
