-- What holds of the programs of a normal form, and of changes: premises of the laws of normal forms.
use Rattle.std.specs.Prelude.{◌≡◌, ℕ, ◌<◌, List, length}
use Rattle.dw_num.specs.{Target.address_limit, declared.target.Target.Target}
use Rattle.dw_row.specs.Rows.{Rules, rule}
use Rattle.dw_cfa.specs.{InitialRules.{initial_cfa, initial_rule}, InstrSpells.ProgramSpells, Kept.{CieKept, FdeKept}, Location.row_starts}
use Rattle.dw_cfa.specs.declared.instr.Instr.{Instr}
use Rattle.dw_section.specs.{Changes.AreChanges, Fits.RowFits}
use Rattle.dw_canon.specs.{Members.{Member, changes_of}, Inner.Canon.{cie_instrs, fde_instrs}}
use Rattle.dw_canon.specs.Inner.{Fits.MemberStands, Spelling.program_bytes, Written.factors}

-- the CIE's program of an initial row leaves that row
abbrev pub InitialProgram : Type 0
InitialProgram = (t : Target) (initial : Rules) → RowFits t initial
    → ProgramSpells t factors (cie_instrs initial) (program_bytes t (cie_instrs initial)) × CieKept (cie_instrs initial)
    × (initial.cfa ≡ initial_cfa (cie_instrs initial)) × ((r : ℕ) → rule initial r ≡ initial_rule (cie_instrs initial) r)

-- behind it, a member's program changes at the member's addresses to its rules, and starts no other rows
abbrev pub MemberProgram : Type 0
MemberProgram = (t : Target) (initial : Rules) (m : Member) → RowFits t initial → MemberStands t initial m
    → ProgramSpells t factors (fde_instrs initial m) (program_bytes t (fde_instrs initial m)) × FdeKept (address_limit t.size) m.begin initial.cfa (fde_instrs initial m)
    × AreChanges (cie_instrs initial) (fde_instrs initial m) m.begin m.end (changes_of m) × (row_starts (fde_instrs initial m) ≡ length (changes_of m))

-- the changes of a range are one list
abbrev pub ChangesAreOne : Type 0
ChangesAreOne = (initial instrs : List Instr) (begin end : ℕ) (xs ys : List (ℕ × Rules)) → begin < end → AreChanges initial instrs begin end xs → AreChanges initial instrs begin end ys → xs ≡ ys
