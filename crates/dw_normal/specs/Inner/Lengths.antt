-- The entries of a normal form.
use Rattle.std.specs.Prelude.{ℕ, List, map}
use Rattle.dw_num.specs.declared.target.Target.{Target}
use Rattle.dw_row.specs.Rows.{Rules}
use Rattle.dw_canon.specs.{Members.Member, Inner.Canon.cie_instrs}
use Rattle.dw_canon.specs.Inner.{Laid.{groups_of, part_of, fde_of}, Spelling.program_bytes, Written.{Written, cie, section_bytes}}

-- the CIE of a return address register with its initial row
abbrev pub cie_with : Target → ℕ × Rules → Written
cie_with t entry = cie entry.0 (cie_instrs entry.1) (program_bytes t (cie_instrs entry.1))

abbrev pub cies_bytes : Target → List (ℕ × Rules) → List ℕ
cies_bytes t rows = section_bytes t (map (cie_with t) rows)

-- the FDEs of some members among all of them
abbrev pub fdes_bytes : Target → List Member → List Member → List ℕ
fdes_bytes t all ms = section_bytes t (map (fde_of t (groups_of t all)) (map (part_of t all) ms))
