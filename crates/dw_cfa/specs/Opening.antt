-- How an FDE's program begins: DWARF 5, 6.4.3.
use Rattle.std.specs.Prelude.{Bool, true, false, List, [], ◌∷◌, Option, Some, None, nat_lt, if◌then◌else◌, ℤ}
use Rattle.dw_row.specs.declared.rule.CfaRule.{CfaRule}
use Rattle.dw_cfa.specs.declared.instr.Instr.{Instr, TheVariants.{Nop, Advance, DefCfaOffset}}
use Rattle.dw_cfa.specs.declared.opening.FirstRow.{FirstRow, TheVariants.{Initial, CfaOffset, Other}}
use Rattle.dw_cfa.specs.Column.{with_offset}

-- whether the first instruction that is no nop advances the location by more than 0, or there is none
abbrev pub moves_first : List Instr → Bool
moves_first [] = true
moves_first (Nop ∷ instrs) = moves_first instrs
moves_first (Advance delta ∷ instrs) = nat_lt 0 delta
moves_first (i ∷ instrs) = false

-- the row at the begin: where the program moves first, the CIE's; where it gives the CFA an offset and moves then, the CIE's with
-- this offset. Nops in front change nothing, and of any other program it says nothing.
abbrev pub first_row : List Instr → FirstRow
first_row (Nop ∷ instrs) = first_row instrs
first_row (DefCfaOffset n ∷ instrs) = if moves_first instrs then CfaOffset n else Other
first_row instrs = if moves_first instrs then Initial else Other

-- the CIE's row, with this offset of the CFA where there is one
abbrev pub row_with : Option ℤ → FirstRow
row_with None = Initial
row_with (Some n) = CfaOffset n

-- a rule of the CFA, with this offset where there is one
abbrev pub cfa_with : Option ℤ → CfaRule → CfaRule
cfa_with None rule = rule
cfa_with (Some n) rule = with_offset n rule
