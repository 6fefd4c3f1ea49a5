-- An index: a list of FDEs' ranges, each with the place of its FDE. It need not be that of a section.
use Rattle.std.specs.{Prelude.{◌≡◌, ℕ, ◌+◌, ◌<◌, ◌≤◌, List, length, map, slice_index_or}, List.AllByRecursion}
use Rattle.dw_num.specs.declared.target.Target.{Target}
use Rattle.dw_section.specs.{Accepted.RulesHold, Headers.Head, Meaning.{Covers, NoneCovers, Returns}, Overlap.{Ascends, AreApart, IsIndex}}
use Rattle.dw_section.specs.declared.lookup.Fde.{Fde}
pub use Rattle.dw_index.specs.{Ranges.range_in, declared.ranged.Ranged.Ranged}

abbrev pub fde_in : Ranged → Fde
fde_in e = record { begin = e.begin; end = e.begin + e.range; return_register = e.return_register }

abbrev pub IsEntry : Ranged → List Ranged → Type 0
IsEntry e index = (i : ℕ) × (i < length index) × ((d : Ranged) → e ≡ slice_index_or index i d)

-- an entry covers an address, and says that its FDE stands at a place
abbrev pub LeadsTo : List Ranged → ℕ → ℕ → Type 0
LeadsTo index a at = (e : Ranged) × IsEntry e index × Covers a (fde_in e) × (at ≡ e.at)

-- no entry covers an address, if they ascend and are apart
abbrev pub Uncovered : List Ranged → ℕ → Type 0
Uncovered index a = Ascends (map range_in index) → AreApart (map range_in index) → NoneCovers a (map fde_in index)

-- ---- the index of a section

-- an entry is of an FDE among the headers, and of the CIE that this names
abbrev pub IsRanged : List Head → Ranged → Type 0
IsRanged hs e = Returns hs (range_in e) e.return_register

-- the entries are the nonempty FDEs of a section whose rules hold, in order of begin
pub record AreIndexed (target : Target) (s : List ℕ) (list : List Ranged) : Type 0 where
  pub headers : List Head
  pub hold : RulesHold target s headers
  pub is_index : IsIndex headers (map range_in list)
  pub few : length list ≤ 2147483647
  pub each : AllByRecursion (IsRanged headers) list

-- the same, and no two share an address
pub record IsTable (target : Target) (s : List ℕ) (list : List Ranged) : Type 0 where
  pub indexed : AreIndexed target s list
  pub apart : AreApart (map range_in list)
