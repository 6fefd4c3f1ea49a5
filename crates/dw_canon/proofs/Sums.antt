-- Sums over lists, and over numbers that ascend.
use Rattle.dw_canon.proofs.{Words.{rules, ◌≡◌, ℕ, suc, ◌+◌, ◌<◌, ◌≤◌, List, [], ◌∷◌, ◌++◌, refl, arith, nat_eq, if◌then◌else◌}, AscendingRegisters.Rise}

abbrev pub sum_of : {X : Type 0} → (X → ℕ) → List X → ℕ
sum_of f [] = 0
sum_of f (x ∷ xs) = f x + sum_of f xs

pub sum_more : {X : Type 0} (f : X → ℕ) (xs ys : List X) → sum_of f (xs ++ ys) ≡ sum_of f xs + sum_of f ys
sum_more f [] ys = omega arith
sum_more f (x ∷ xs) ys = omega (arith, sum_more f xs ys)

pub sum_plus : {X : Type 0} (f g : X → ℕ) (xs : List X) → sum_of (λ (x : X). f x + g x) xs ≡ sum_of f xs + sum_of g xs
sum_plus f g [] = omega arith
sum_plus f g (x ∷ xs) = omega (arith, sum_plus f g xs)

pub sum_none : (rs : List ℕ) → sum_of (λ (r : ℕ). 0) rs ≡ 0
sum_none [] = refl
sum_none (r ∷ rs) = omega (arith, sum_none rs)

-- ---- what belongs to one of some numbers

abbrev pub if_own : ℕ → ℕ → ℕ → ℕ
if_own q weight r = if nat_eq q r then weight else 0

none_own : (q weight low : ℕ) (rs : List ℕ) → q < low → Rise low rs → sum_of (if_own q weight) rs ≡ 0
none_own q weight low [] lt up = refl
none_own q weight low (r ∷ rs) lt up = search (rules, none_own q weight (suc r) rs (omega (arith, up.0)) up.1)

-- is counted once where they ascend
pub once_own : (q weight low : ℕ) (rs : List ℕ) → Rise low rs → sum_of (if_own q weight) rs ≤ weight
once_own q weight low [] up = omega arith
once_own q weight low (r ∷ rs) up = search (rules, none_own, once_own q weight (suc r) rs up.1)

-- what each thing adds to numbers is at most what it has
pub sum_once : {X : Type 0} (own : ℕ → X → ℕ) (all : X → ℕ) (rs : List ℕ) → ((x : X) → sum_of (λ (r : ℕ). own r x) rs ≤ all x) → (xs : List X)
    → sum_of (λ (r : ℕ). sum_of (own r) xs) rs ≤ sum_of all xs
sum_once own all rs each [] = omega (arith, sum_none rs)
sum_once own all rs each (x ∷ xs) = omega (arith, sum_plus (λ (r : ℕ). own r x) (λ (r : ℕ). sum_of (own r) xs) rs, each x, sum_once own all rs each xs)
