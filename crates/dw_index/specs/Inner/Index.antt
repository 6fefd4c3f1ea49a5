-- What the walks over an index know of those that they passed.
use Rattle.std.specs.{Prelude.{◌≡◌, ℕ, ◌+◌, ◌<◌, ◌≤◌, ◌⊎◌, List, slice_index_or}, List.AllByRecursion}
use Rattle.dw_index.specs.{Among.IsAmong, Ranges.{Range, end_of}, declared.ranged.Ranged.Ranged}

-- no range ends behind a number, and one ends there unless it is 0
abbrev pub EndsAt : List Range → ℕ → Type 0
EndsAt rs greatest =
    AllByRecursion (λ a. end_of a ≤ greatest) rs × ((greatest ≡ 0) ⊎ ((other : Range) × IsAmong other rs × (end_of other ≡ greatest)))

-- of the first n each begins behind the begin of the one before it
abbrev pub BeginsRise : ℕ → List Ranged → Type 0
BeginsRise n list = (k : ℕ) (d : Ranged) → k + 1 < n → (slice_index_or list k d).begin < (slice_index_or list (k + 1) d).begin
