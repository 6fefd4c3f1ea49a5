-- How an FDE's program begins: DWARF 5, 6.4.3.
use Rattle.std.specs.Prelude.{◌≡◌, ℕ, true, List, Ok}
use Rattle.dw_num.specs.{Span.input_of, declared.target.Target.Target}
use Rattle.dw_row.specs.{RegisterSets.{Registers, SameBeside, has}, Rows.{Rules, rule}}
use Rattle.dw_cfa.specs.{Behind.LeavesTo, Opening.{first_row, row_with}, declared.instr.Instr.Instr}
use Rattle.dw_section.specs.{Among.IsAmong, Headers.{CieHead, Head, Headers, cie}, Meaning.FdeSays, Programs.{InitialInstrs, factors_of}}
use Rattle.dw_section.specs.declared.{lookup.Fde.Fde, opening.CieRow.CieRow}

-- the FDE's CIE stands at the place of the row, and by its own program its first row is the one that the CIE's program leaves, with
-- the row's offset of the CFA where it has one
pub record OpensBehind (target : Target) (s : List ℕ) (f : Fde) (row : CieRow) : Type 0 where
  pub initial : List Instr
  pub instrs : List Instr
  pub says : FdeSays target s f.begin f.end initial instrs
  pub named : row.cie_at ≡ says.head.cie_at
  pub head : CieHead
  pub begins : InitialInstrs target says.headers row.cie_at head initial
  pub first : first_row instrs ≡ row_with row.cfa_offset

-- the program of the CIE at this place leaves this row
pub record CieLeaves (target : Target) (s : List ℕ) (at : ℕ) (row : Rules) : Type 0 where
  pub headers : List Head
  pub are : Headers target s headers
  pub head : CieHead
  pub among : IsAmong (cie head) headers
  pub stands : head.at ≡ at
  pub leaves : LeavesTo (factors_of head) (input_of target head.program) (Ok row)

-- a set has exactly the registers whose rules are not the same in both rows
abbrev pub AreChanged : Registers → Rules → Rules → Type 0
AreChanged registers row other = SameBeside registers row other × ((r : ℕ) → has registers r ≡ true → rule row r ≡ rule other r → ⊥)
