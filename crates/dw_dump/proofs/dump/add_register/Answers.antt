use Rattle.dw_dump.proofs.{Words.{◌≡◌, ◌<◌, true, false, Option, ℕ, subst, sym, ◌∙◌, arith, refl, is_some, register_is, register}, KeepLaws.{repeats, keeps_register, told_own}}
use Rattle.dw_dump.proofs.dump.add_register.Goals as goal

pub returns-then-is_some : goal.returns-then-is_some
returns-then-is_some c = λ ss k.
    let some = subst (λ (o : Option ℕ). is_some o ≡ true) (c.get.ensures ∙ k.registers c.args.register) (sym c.is_some.ensures ∙ c.if-is_some.true) in
    (k, (omega (arith, c.from.ensures, c.if-from-limit.false), (register c.args.register, repeats ss (register_is c.args.register c.args.value) (register c.args.register) some (told_own c.args.register c.args.value))))

pub returns : goal.returns
returns c = λ ss k.
    let free = subst (λ (o : Option ℕ). is_some o ≡ false) c.get.ensures (sym c.is_some.ensures ∙ c.if-is_some.false) in
    let fits : c.args.value < c.args.limit = omega (arith, c.from.ensures, c.if-from-limit.false) in
    (keeps_register _ c.args.register c.args.value k fits free refl c.in_ok-set.ensures.set refl refl, fits)
