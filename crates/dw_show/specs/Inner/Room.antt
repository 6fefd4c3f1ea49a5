-- What the code says of a listing's room.
use Rattle.std.specs.Prelude.{◌≡◌, ℕ, List, ◌++◌, take}
use Rattle.dw_show.specs.declared.listing.Listing.{Listing}

-- a text is put into the room
pub record Fills {W : Type 0} (old new : Listing W) (text : List ℕ) : Type 0 where
  pub works : new.failed ≡ old.failed
  pub out : new.out ≡ old.out
  pub put : take new.len new.room ≡ take old.len old.room ++ text
