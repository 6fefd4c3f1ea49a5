-- Where the CIEs stand.
use Rattle.std.specs.{Prelude.{ℕ, suc, ◌+◌, ◌-◌, ◌≤◌, ◌==◌, List, [], ◌∷◌, length, Option, Some, None, if◌then◌else◌}, BTreeMap.is_at, Map.lookup, Ordering.nat_cmp}
use Rattle.dw_num.specs.declared.target.Target.{Target}
use Rattle.dw_row.specs.Rows.{Rules}
use Rattle.dw_canon.specs.Members.{Member}
use Rattle.dw_canon.specs.Inner.{Canon.{fde_instrs, initial_of}, Laid.{groups_of, part_of, fde_of}, Spelling.program_bytes, Written.{Written, entry_bytes, fde}}
use Rattle.dw_normal.specs.Inner.Lengths.{cie_with}

-- the place that is kept of a return address register
abbrev pub place_in : List (ℕ × ℕ) → ℕ → Option ℕ
place_in places register = lookup (is_at (nat_cmp register)) places

-- where the CIE of a return address register stands, among CIEs of which the first stands at a place
abbrev pub cie_place : Target → ℕ → List (ℕ × Rules) → ℕ → Option ℕ
cie_place t at [] register = None
cie_place t at (row ∷ rows) register = if row.0 == register then Some at else cie_place t (at + length (entry_bytes t (cie_with t row))) rows register

-- the return address registers ascend, from low on
abbrev pub RowsRise : ℕ → List (ℕ × Rules) → Type 0
RowsRise low [] = Unit {0}
RowsRise low (row ∷ rows) = (low ≤ row.0) × RowsRise (suc row.0) rows

-- ---- FDEs

-- the FDE of a member among the others, whose CIE stands at a place
abbrev pub fde_at : Target → ℕ → List Member → Member → Written
fde_at t cie_at ms m = let instrs = fde_instrs (initial_of ms m.register) m in fde cie_at m.begin (m.end - m.begin) instrs (program_bytes t instrs)

-- the FDE of a member among the others
abbrev pub fde_with : Target → List Member → Member → Written
fde_with t ms m = fde_of t (groups_of t ms) (part_of t ms m)
