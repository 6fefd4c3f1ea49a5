-- The registers of a frame in their room: those in the array, or in the vector where that has some.
use Rattle.std.specs.Prelude.{◌≡◌, ◌<◌, ◌≤◌, ℕ, List, [], ◌∷◌, length, take, Option}

abbrev pub registers_in : List (ℕ × Option ℕ) → ℕ → List (ℕ × Option ℕ) → List (ℕ × Option ℕ)
registers_in near len [] = take len near
registers_in near len (entry ∷ rest) = entry ∷ rest

pub record RoomSo (near : List (ℕ × Option ℕ)) (len : ℕ) (more : List (ℕ × Option ℕ)) : Type 0 where
  pub all : length near ≡ 64
  pub most : len ≤ 64
  pub none : len < 64 → more ≡ []
