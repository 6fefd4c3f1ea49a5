-- What holds of reads and of spellings, for the layers above.
use Rattle.std.specs.{Prelude.{◌≡◌, ℕ, ℤ, ◌+◌, ◌^◌, ◌<◌, ◌≤◌, List, ◌++◌, length, Ok, Err, FitsSigned}, Int.w64}
use Rattle.dw_num.specs.Front.{Read, take_at, fixed_at, address_at, unit_length_at, uleb_at, sleb_at, register_at}
use Rattle.dw_num.specs.{Input.Input, Shortest.{shortest_uleb, shortest_sleb}, ShortestLeb.{PutsUleb, PutsSleb}}

-- something holds of one value and of no other
pub record HoldsOfOne {X : Type 0} (P : X → Type 0) : Type 0 where
  pub value : X
  pub holds : P value
  pub only : (other : X) → P other → other ≡ value

-- j is what is left of i: it begins in i or at its end, and both end at one place
pub record IsRest (i j : Input) : Type 0 where
  pub begins : i.at ≤ j.at
  pub ends : j.at + length j.bytes ≡ i.at + length i.bytes

-- a read leaves a rest, or is refused at a place from the input's first byte to its end
abbrev pub StaysIn : {X : Type 0} → Input → Read X → Type 0
StaysIn i (Ok x) = IsRest i x.1
StaysIn i (Err r) = (i.at ≤ r.at) × (r.at ≤ i.at + length i.bytes)

-- so does each read of a cursor: from its base on, its place and what is left add up to one end
pub record ReadsStay : Type 0 where
  pub take : (n : ℕ) (i : Input) → StaysIn i (take_at n i)
  pub fixed : (n : ℕ) (i : Input) → StaysIn i (fixed_at n i)
  pub address : (i : Input) → StaysIn i (address_at i)
  pub unit_length : (i : Input) → StaysIn i (unit_length_at i)
  pub uleb : (i : Input) → StaysIn i (uleb_at i)
  pub sleb : (i : Input) → StaysIn i (sleb_at i)
  pub register : (i : Input) → StaysIn i (register_at i)
  -- what is left of a rest is one too
  pub rest : (i j k : Input) → IsRest i j → IsRest j k → IsRest i k

-- a number has no two shortest spellings
abbrev pub OneUleb : Type 0
OneUleb = (v : ℕ) (old one other : List ℕ) → PutsUleb v old one → PutsUleb v old other → one ≡ other

abbrev pub OneSleb : Type 0
OneSleb = (v : ℤ) (old one other : List ℕ) → PutsSleb v old one → PutsSleb v old other → one ≡ other

-- what is computed as its shortest spelling is that
abbrev pub ShortestUleb : Type 0
ShortestUleb = (v : ℕ) (old : List ℕ) → v < 2 ^ 64 → PutsUleb v old (old ++ shortest_uleb v)

abbrev pub ShortestSleb : Type 0
ShortestSleb = (v : ℤ) (old : List ℕ) → FitsSigned w64 v → PutsSleb v old (old ++ shortest_sleb v)
