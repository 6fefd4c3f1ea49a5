-- Numbers below 2 ^ N, where N is the number of an address's bits: DWARF 5, 2.5.1.
use Rattle.std.specs.{Prelude.{ℕ, ◌<◌, List}, List.AllByRecursion}
use Rattle.dw_num.specs.{Target.address_limit, declared.target.Size.Size}
use Rattle.dw_eval.specs.declared.place.{Piece.Piece, Place.Place, Place.TheVariants.{Memory, Value}}

-- all entries of a stack
abbrev pub AreInSpace : Size → List ℕ → Type 0
AreInSpace size = AllByRecursion (λ v. v < address_limit size)

-- the address that a place is at, or the value that it is
abbrev pub PlaceInSpace : Size → Place → Type 0
PlaceInSpace size (Memory address) = address < address_limit size
PlaceInSpace size (Value v) = v < address_limit size
PlaceInSpace size other = Unit {0}

-- the places of all pieces
abbrev pub ArePlacesInSpace : Size → List Piece → Type 0
ArePlacesInSpace size = AllByRecursion (λ piece. PlaceInSpace size piece.place)
