-- FDEs in order, and their members.
use Rattle.dw_section.proofs.{Words.{ℕ, suc, ◌<◌, List, [], ◌∷◌, map, AllByRecursion, IsPermutation, IsPermutation-map, IsPermutation-sym, Range, Ranged, PlacesRise, IsAmong, arith, range_in}, Lent.Index.all_from}
use Rattle.dw_index.specs.Ranges.{StandInOrder}
pub use Rattle.dw_index.proofs.Lent.Lists.{all_permuted, apart_more}

pub members : (rs : List Range) → AllByRecursion (λ a. IsAmong a rs) rs
members rs = all_from (λ a. IsAmong a rs) rs (λ a i. i)

pub permuted_members : (xs ys : List Ranged) → IsPermutation xs ys → AllByRecursion (λ a. IsAmong a (map range_in xs)) (map range_in ys) × AllByRecursion (λ a. IsAmong a (map range_in ys)) (map range_in xs)
permuted_members xs ys p =
    let rs = map range_in xs in
    let ss = map range_in ys in
    let q = IsPermutation-map range_in xs ys p in
    (all_permuted (λ a. IsAmong a rs) rs ss q (members rs), all_permuted (λ a. IsAmong a ss) ss rs (IsPermutation-sym rs ss q) (members ss))

all_behind : (place low : ℕ) (xs : List Ranged) → place < low → PlacesRise low (map range_in xs) → AllByRecursion (λ f. place < f.at) xs
all_behind place low [] lt up = tt
all_behind place low (e ∷ xs) lt up = (omega (arith, up.0), all_behind place (suc e.at) xs (omega (arith, up.0)) up.1)

pub in_place : (low : ℕ) (xs : List Ranged) → PlacesRise low (map range_in xs) → StandInOrder xs
in_place low [] up = tt
in_place low (e ∷ xs) up = (all_behind e.at (suc e.at) xs (omega arith) up.1, in_place (suc e.at) xs up.1)
