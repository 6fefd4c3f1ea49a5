-- A product is at most a quarter of the square of the sum.
use Rattle.dw_canon.proofs.Words.{ℕ, ◌+◌, ◌-◌, ◌*◌, ◌≤◌, arith, mul-le-mul}

upward : (a d : ℕ) → 4 * (a * (a + d)) ≤ (a + (a + d)) * (a + (a + d))
upward a d = omega arith

square : (a c : ℕ) → 4 * (a * c) ≤ (a + c) * (a + c)
square a c = grind (arith, upward a (c - a), upward c (a - c))

-- n changes and a CIE, each of at most 23 + w bytes, where six bytes more a change are no more than the programs' bytes six times
pub changes_most : (n w total : ℕ) → 6 * n + w ≤ total + 6 → 24 * ((n + 1) * (23 + w)) ≤ (total + 35) * (total + 35)
changes_most n w total le =
    let s : 6 * (n + 1) + (23 + w) ≤ total + 35 = omega arith in
    let grows = mul-le-mul s s in
    omega (arith, square (6 * (n + 1)) (23 + w), grows)
