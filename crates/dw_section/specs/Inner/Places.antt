-- What the code and its proofs say beside Places.
use Rattle.std.specs.Prelude.{◌≡◌, ℕ, suc, ◌<◌, ◌≤◌, List, [], ◌∷◌, length, slice_index_or}

-- what stands at places from low on, each above the one before it
abbrev pub RiseBy : {X : Type 0} → (X → ℕ) → ℕ → List X → Type 0
RiseBy place low [] = Unit {0}
RiseBy place low (x ∷ xs) = (low ≤ place x) × RiseBy place (suc (place x)) xs

-- numbers from low on, each above the one before it
abbrev pub Rises : ℕ → List ℕ → Type 0
Rises low xs = RiseBy (λ (n : ℕ). n) low xs

-- the k-th of some places is this one
abbrev pub IsAt : List ℕ → ℕ → ℕ → Type 0
IsAt places k place = (k < length places) × (slice_index_or places k 0 ≡ place)
