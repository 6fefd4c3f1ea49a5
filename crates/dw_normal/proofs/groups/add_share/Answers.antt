use Rattle.std.proofs.Common.{mul-le-mul}
use Rattle.dw_normal.proofs.Words.{◌≡◌, ◌∙◌, ℕ, ◌+◌, ◌*◌, ◌≤◌, ap, arith, share, sym}
use Rattle.dw_normal.proofs.groups.add_share.Goals as goal

-- the square of a spread of programs that are not long
small : (n : ℕ) → n ≤ 12000035 → n * n ≤ 144000840001225
small n le = omega (arith, mul-le-mul {n₁ = n} {m₁ = n} {n₂ = 12000035} {m₂ = 12000035} le le)

pub overflow_mul-sum : goal.overflow_mul-sum
overflow_mul-sum c =
    let square = small (6 * (c.args.own + c.args.initial) + 35) (omega (arith, c.if-own-gt-LONG.false, c.if-initial-gt-LONG.false)) in
    omega (arith, square)

pub overflow_add-sum : goal.overflow_add-sum
overflow_add-sum c =
    let square = small (6 * (c.args.own + c.args.initial) + 35) (omega (arith, c.if-own-gt-LONG.false, c.if-initial-gt-LONG.false)) in
    omega (arith, square)

pub returns-clause-is : goal.returns-clause-is
returns-clause-is c = λ before is.
    let both = sym c.in_ok-before.was ∙ is in
    let one : c.in_ok-before.before ≡ before = cc in
    ap (λ (n : ℕ). n + share c.args.own c.args.initial) one
