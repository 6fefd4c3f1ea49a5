-- The first fault of two programs: DWARF 5, 6.4.2 and 6.4.3. The CIE's program is judged first, each from its front: the
-- longest beginning of instructions that keep the rules, and the fault of what follows it.
use Rattle.std.specs.Prelude.{◌≡◌, ◌⊎◌, ℕ, ◌+◌, ◌<◌, ◌≤◌, List, ◌++◌, length, IsTrue, not}
use Rattle.dw_num.specs.{Input.Input, Target.address_limit, declared.refusal.Code.Code, declared.refusal.Code.TheVariants.{NotInCie, LocationBackwards}}
use Rattle.dw_num.specs.declared.refusal.{Code.TheVariants.{LocationTooLarge, EmptyStateStack, StateStackFull, CfaNotRegister}, Refusal.Refusal}
use Rattle.dw_row.specs.declared.rule.CfaRule.{CfaRule, TheVariants.Unset}
use Rattle.dw_cfa.specs.{Column.cfa_after, InitialRules.initial_cfa, InstrSpells.{InstrSpells, ProgramSpells}}
use Rattle.dw_cfa.specs.{Kept.{in_cie, keeps_half, IsRegisterRule, remembered, restored, CieKept, FdeKept}, Listing.ProgramFault, Location.location}
use Rattle.dw_cfa.specs.declared.instr.{Factors.Factors, Instr.{Instr, TheVariants.{SetLoc, Advance, RememberState, RestoreState}}}

-- half of the CFA's rule is kept, and that rule is no register and offset
abbrev pub BreaksHalf : CfaRule → Instr → Code → Type 0
BreaksHalf rule i code = (code ≡ CfaNotRegister) × IsTrue (keeps_half i) × (IsRegisterRule rule → ⊥)

-- what an instruction of a CIE's program breaks, behind instructions that keep the rules
abbrev pub CieBreaks : List Instr → Instr → Code → Type 0
CieBreaks instrs i code = ((code ≡ NotInCie) × IsTrue (not (in_cie i))) ⊎ (IsTrue (in_cie i) × BreaksHalf (cfa_after Unset instrs (length instrs)) i code)

-- what an instruction of an FDE's program breaks, behind instructions that keep the rules
abbrev pub FdeBreaks : ℕ → ℕ → CfaRule → List Instr → Instr → Code → Type 0
FdeBreaks limit begin initial instrs (SetLoc a) code = (code ≡ LocationBackwards) × (a < location begin instrs (length instrs))
FdeBreaks limit begin initial instrs (Advance delta) code = (code ≡ LocationTooLarge) × (limit < location begin instrs (length instrs) + delta)
FdeBreaks limit begin initial instrs RememberState code = (code ≡ StateStackFull) × (remembered instrs ≡ restored instrs + 64)
FdeBreaks limit begin initial instrs RestoreState code = (code ≡ EmptyStateStack) × (remembered instrs ≡ restored instrs)
FdeBreaks limit begin initial instrs i code = BreaksHalf (cfa_after initial instrs (length instrs)) i code

-- behind the instructions stands one that breaks a rule; the refusal names the place of its opcode
pub record BrokenBehind (f : Factors) (i : Input) (instrs : List Instr) (Breaks : Instr → Code → Type 0) (r : Refusal) : Type 0 where
  pub front : List ℕ
  pub spelling : List ℕ
  pub rest : List ℕ
  pub instr : Instr
  pub whole : i.bytes ≡ front ++ (spelling ++ rest)
  pub read : ProgramSpells i.target f instrs front
  pub next : InstrSpells i.target f instr spelling
  pub breaks : Breaks instr r.code
  pub place : r.at ≡ i.at + length front

-- behind the instructions stands what is no instruction, or one that breaks a rule
abbrev pub FaultBehind : Factors → Input → List Instr → (Instr → Code → Type 0) → Refusal → Type 0
FaultBehind f i instrs Breaks r = ProgramFault i.target f i.at i.bytes instrs r ⊎ BrokenBehind f i instrs Breaks r

-- the first fault of a CIE's program
abbrev pub CieFault : Factors → Input → Refusal → Type 0
CieFault f cie r = (instrs : List Instr) × CieKept instrs × FaultBehind f cie instrs (CieBreaks instrs) r

-- the first fault of an FDE's program that begins with this rule of the CFA, behind these instructions
abbrev pub FdeFaultBehind : Factors → CfaRule → Input → ℕ → List Instr → Refusal → Type 0
FdeFaultBehind f initial fde begin instrs r =
    FdeKept (address_limit fde.target.size) begin initial instrs × FaultBehind f fde instrs (FdeBreaks (address_limit fde.target.size) begin initial instrs) r

-- the first fault of an FDE's program, behind whatever instructions it stands
abbrev pub FdeFault : Factors → CfaRule → Input → ℕ → Refusal → Type 0
FdeFault f initial fde begin r = (instrs : List Instr) × FdeFaultBehind f initial fde begin instrs r

-- the first fault of both: that of the CIE's program, or where it has none, that of the FDE's behind its initial rules
abbrev pub RunFault : Factors → Input → Input → ℕ → Refusal → Type 0
RunFault f cie fde begin r =
    CieFault f cie r ⊎ ((instrs : List Instr) × ProgramSpells cie.target f instrs cie.bytes × CieKept instrs × FdeFault f (initial_cfa instrs) fde begin r)

-- the first fault of an FDE's program, where it comes up to address a: the instructions before it lead to a location at or below a
abbrev pub FdeFaultUpTo : Factors → CfaRule → Input → ℕ → ℕ → Refusal → Type 0
FdeFaultUpTo f initial fde begin a r = (instrs : List Instr) × FdeFaultBehind f initial fde begin instrs r × (location begin instrs (length instrs) ≤ a)

-- the first fault of both, where it comes up to address a. A fault of the CIE's program comes up to every address, since that
-- program moves no location.
abbrev pub FaultUpTo : Factors → Input → Input → ℕ → ℕ → Refusal → Type 0
FaultUpTo f cie fde begin a r =
    CieFault f cie r ⊎ ((instrs : List Instr) × ProgramSpells cie.target f instrs cie.bytes × CieKept instrs × FdeFaultUpTo f (initial_cfa instrs) fde begin a r)

-- no fault of both comes up to an address
abbrev pub NoFaultUpTo : Factors → Input → Input → ℕ → ℕ → Type 0
NoFaultUpTo f cie fde begin a = (r : Refusal) → FaultUpTo f cie fde begin a r → ⊥
