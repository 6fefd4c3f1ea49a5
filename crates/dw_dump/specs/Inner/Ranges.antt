-- What the code and its proofs say beside Ranges.
use Rattle.std.specs.{Prelude.{ℕ, ◌+◌, ◌^◌, ◌<◌, ◌≤◌, List, [], ◌∷◌, length, count_by}, List.AllByRecursion}
use Rattle.dw_dump.specs.{Ranges.{end_of, covers, Held}, declared.memory.Range.Range}

-- how many ranges cover an address
abbrev pub cover_count : ℕ → List Range → ℕ
cover_count a rs = count_by (covers a) rs

-- no two ranges share an address
abbrev pub AreApart : List Range → Type 0
AreApart rs = (a : ℕ) → cover_count a rs ≤ 1

-- two ranges share an address
abbrev pub Meet : List Range → Type 0
Meet rs = (a : ℕ) × (1 < cover_count a rs)

-- each range ends at or below the begin of each later one
abbrev pub Rise : List Range → Type 0
Rise [] = Unit {0}
Rise (r ∷ rs) = AllByRecursion (λ q. end_of r ≤ q.address) rs × Rise rs

-- a range has bytes, all of them in the list and below the limit of addresses
pub record IsSoundRange (limit room : ℕ) (r : Range) : Type 0 where
  pub some : 0 < r.len
  pub addresses : end_of r ≤ limit
  pub places : r.place + r.len ≤ room

-- what a memory keeps
pub record IsOrdered (held : Held) : Type 0 where
  pub rise : Rise held.ranges
  pub within : AllByRecursion (IsSoundRange (2 ^ 64) (length held.bytes)) held.ranges
