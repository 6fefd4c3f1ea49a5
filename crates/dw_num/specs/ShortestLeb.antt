-- What a call appends.
use Rattle.std.specs.Prelude.{◌≡◌, ℕ, ℤ, ◌≤◌, List, ◌++◌, length}
use Rattle.dw_num.specs.Leb.{Uleb, Sleb}

-- new is old and the shortest of the lists that spell
pub record PutsShortest (Spells : List ℕ → Type 0) (old new : List ℕ) : Type 0 where
  pub spelling : List ℕ
  pub spells : Spells spelling
  pub shortest : (other : List ℕ) → Spells other → length spelling ≤ length other
  pub appended : new ≡ old ++ spelling

-- the shortest unsigned spelling of v is appended
abbrev pub PutsUleb : ℕ → List ℕ → List ℕ → Type 0
PutsUleb v old new = PutsShortest (Uleb v) old new

-- the shortest signed spelling of v is appended
abbrev pub PutsSleb : ℤ → List ℕ → List ℕ → Type 0
PutsSleb v old new = PutsShortest (Sleb v) old new
