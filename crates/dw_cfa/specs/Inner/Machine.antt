-- The machine that runs call frame instructions: DWARF 5, 6.4.2 and 6.4.3. It goes forwards, with whole rows and a stack of remembered ones.
use Rattle.std.specs.Prelude.{◌≡◌, MatchOption, ℕ, ◌+◌, List, [], ◌∷◌, length, Bool, true, false, Option, Some, None, nat_lt, if◌then◌else◌}
use Rattle.dw_num.specs.declared.refusal.Code.{Code}
use Rattle.dw_num.specs.declared.refusal.Code.TheVariants.{NotInCie, LocationBackwards, LocationTooLarge, EmptyStateStack, StateStackFull, CfaNotRegister}
use Rattle.dw_row.specs.{Rows.{Rules, rule, with_cfa, with_rule}, declared.rule.CfaRule.CfaRule}
use Rattle.dw_row.specs.declared.rule.CfaRule.TheVariants as cfa
use Rattle.dw_cfa.specs.{Column.cfa_change, Kept.{in_cie, keeps_half}}
use Rattle.dw_cfa.specs.declared.instr.Instr.{Instr, TheVariants.{SetLoc, Advance, Set, Restore, RememberState, RestoreState}}

-- the current row, the remembered ones, the last first, and the location
pub record State : Type 0 where
  pub row : Rules
  pub stack : List Rules
  pub location : ℕ

-- an FDE's program begins with the initial row at its begin
abbrev pub begun : Rules → ℕ → State
begun initial begin = record { row = initial; stack = []; location = begin }

-- the row after an instruction that writes a rule into it
abbrev pub written : Instr → Rules → Rules
written (Set r given) row = with_rule r given row
written i row = with_cfa (cfa_change i row.cfa) row

-- the row after an instruction
abbrev pub changed : Rules → Instr → Rules → Rules
changed initial (Restore r) row = with_rule r (rule initial r) row
changed initial i row = written i row

-- the location after an instruction
abbrev pub moved : Instr → ℕ → ℕ
moved (SetLoc a) location = a
moved (Advance distance) location = location + distance
moved i location = location

abbrev pub popped : State → List Rules → State
popped s [] = s
popped s (row ∷ stack) = record { row = row; stack = stack; location = s.location }

-- the state after an instruction
abbrev pub after : Rules → Instr → State → State
after initial RememberState s = record { row = s.row; stack = s.row ∷ s.stack; location = s.location }
after initial RestoreState s = popped s s.stack
after initial i s = record { row = changed initial i s.row; stack = s.stack; location = moved i s.location }

-- ---- faults

-- half of the CFA's rule is kept of a register and an offset alone
abbrev pub half_fault : Instr → CfaRule → Option Code
half_fault i (cfa.Register r n) = None
half_fault i other = if keeps_half i then Some CfaNotRegister else None

-- the CFA's rule behind an instruction, or none where that keeps half of a rule that has none
abbrev pub IsCfaBehind : Instr → CfaRule → Option CfaRule → Type 0
IsCfaBehind i cfa r = MatchOption r (half_fault i cfa ≡ Some CfaNotRegister) (λ rule. (half_fault i cfa ≡ None) × (rule ≡ cfa_change i cfa))

-- what stands against an instruction of a CIE's program
abbrev pub cie_fault : Instr → Rules → Option Code
cie_fault i row = if in_cie i then half_fault i row.cfa else Some NotInCie

abbrev pub empty_fault : List Rules → Option Code
empty_fault [] = Some EmptyStateStack
empty_fault (row ∷ stack) = None

-- what stands against an instruction of an FDE's program. No location is above the limit.
abbrev pub fde_fault : ℕ → Instr → State → Option Code
fde_fault limit (SetLoc a) s = if nat_lt a s.location then Some LocationBackwards else None
fde_fault limit (Advance distance) s = if nat_lt limit (s.location + distance) then Some LocationTooLarge else None
fde_fault limit RememberState s = if nat_lt (length s.stack) 64 then None else Some StateStackFull
fde_fault limit RestoreState s = empty_fault s.stack
fde_fault limit i s = half_fault i s.row.cfa

-- what stands against an instruction that a CIE's program may not hold
abbrev pub unless_cie : Bool → Option Code → Option Code
unless_cie true fault = Some NotInCie
unless_cie false fault = fault

-- what stands against an instruction of a CIE's or an FDE's program
abbrev pub program_fault : Bool → ℕ → Instr → State → Option Code
program_fault cie limit (SetLoc a) s = unless_cie cie (fde_fault limit (SetLoc a) s)
program_fault cie limit (Advance distance) s = unless_cie cie (fde_fault limit (Advance distance) s)
program_fault cie limit (Restore r) s = unless_cie cie (fde_fault limit (Restore r) s)
program_fault cie limit RememberState s = unless_cie cie (fde_fault limit RememberState s)
program_fault cie limit RestoreState s = unless_cie cie (fde_fault limit RestoreState s)
program_fault cie limit i s = half_fault i s.row.cfa
