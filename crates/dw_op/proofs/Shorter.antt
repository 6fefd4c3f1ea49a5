-- Shorter spellings shorten each displacement.
use Rattle.dw_op.proofs.Words.{◌≡◌, ℕ, refl, zero, suc, ◌+◌, ◌≤◌, List, [], ◌∷◌, length, inl, inr, arith, FitsSigned, w16, cases_lt, ints, start, displacement}

-- each part of the first is at most as long as the same part of the second
abbrev pub EachShorter : List (List ℕ) → List (List ℕ) → Type 0
EachShorter [] [] = Unit {0}
EachShorter [] (b ∷ bs) = ⊥
EachShorter (a ∷ as') [] = ⊥
EachShorter (a ∷ as') (b ∷ bs) = (length a ≤ length b) × EachShorter as' bs

pub as_many : (short long : List (List ℕ)) → EachShorter short long → length short ≡ length long
as_many [] [] h = refl
as_many (a ∷ short) (b ∷ long) h = omega (arith, as_many short long h.1)
as_many short long h = absurd h

-- the start of a place does not come later
pub start_le : (short long : List (List ℕ)) (i : ℕ) → EachShorter short long → start short i ≤ start long i
start_le [] (b ∷ bs) (suc i) h = absurd h
start_le (a ∷ short) [] (suc i) h = absurd h
start_le (a ∷ short) (b ∷ long) (suc i) h = omega (arith, start_le short long i h.1, h.0)
start_le short long i h = omega arith

-- what lies between two places grows with the parts
pub between : (short long : List (List ℕ)) (i j : ℕ) → EachShorter short long → i ≤ j → start short j + start long i ≤ start long j + start short i
between short long zero j h le = omega (arith, start_le short long j h)
between [] [] (suc i) (suc j) h le = omega arith
between (a ∷ short) (b ∷ long) (suc i) (suc j) h le = omega (arith, between short long i j h.1 (omega arith), h.0)
between short long i j h le = absurd (first_of (assumption, omega arith))

pub start_mono : (parts : List (List ℕ)) (i j : ℕ) → i ≤ j → start parts i ≤ start parts j
start_mono parts (suc i) zero le = absurd (omega arith)
start_mono (a ∷ parts) (suc i) (suc j) le = omega (arith, start_mono parts i j (omega arith))
start_mono parts i j le = omega arith

-- the displacement of a branch fits where it fitted before
pub displacement_fits : (short long : List (List ℕ)) (k i : ℕ) → EachShorter short long
    → FitsSigned w16 (displacement long k i) → FitsSigned w16 (displacement short k i)
displacement_fits short long k i h fits =
    elim (cases_lt i (k + 1)) [
      | inl lt ↦ omega (arith, ints, between short long i (k + 1) h (omega arith), start_mono short i (k + 1) (omega arith), start_mono long i (k + 1) (omega arith))
      | inr ge ↦ omega (arith, ints, between short long (k + 1) i h ge, start_mono short (k + 1) i ge, start_mono long (k + 1) i ge)
    ]
