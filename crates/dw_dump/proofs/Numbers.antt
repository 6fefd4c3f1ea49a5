-- Numbers by their digits.
use Rattle.dw_dump.proofs.Words.{◌≡◌, ℕ, suc, ◌+◌, ◌*◌, ◌^◌, ◌<◌, ◌≤◌, arith, add-one, mul-le-mul, pow-suc, digit}
use Rattle.std.proofs.Math.Nat.{pow-le-pow_right}

pub record Grows (number base d i : ℕ) : Type 0 where
  pub below : number * base + d < 16 ^ (i + 1)
  pub fits : number * base + d < 2 ^ 64

pub grows : (number base d i : ℕ) → number < 16 ^ i → base ≤ 16 → d < base → i < 16 → Grows number base d i
grows number base d i small low digit lt =
    let product : suc number * base ≤ 16 ^ i * 16 = mul-le-mul (omega arith) low in
    let power : 16 ^ suc i ≡ 16 ^ i * 16 = pow-suc 16 i in
    let most : 16 ^ suc i ≤ 16 ^ 16 = pow-le-pow_right {n = 16} (omega arith) {i = suc i} {j = 16} (omega arith) in
    let next : number * base + d < 16 ^ suc i = omega arith in
    record { below = rw add-one next; fits = omega arith }
