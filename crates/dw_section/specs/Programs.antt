-- Entries whose programs are judged too: DWARF 5, 6.4.2 and 6.4.3.
use Rattle.std.specs.Prelude.{◌≡◌, ℕ, ◌+◌, ◌<◌, ◌≤◌, List}
use Rattle.dw_num.specs.{Span.{Span, input_of}, Target.address_limit}
use Rattle.dw_num.specs.declared.{refusal.Code.TheVariants.NoCfaRule, refusal.Refusal.Refusal, target.Target.Target}
use Rattle.dw_row.specs.declared.rule.CfaRule.TheVariants.{Unset}
use Rattle.dw_cfa.specs.{Column.cfa_after, Faults.{CieFault, FdeFault}, InitialRules.initial_cfa, InstrSpells.ProgramSpells, Kept.{CieKept, FdeKept}}
use Rattle.dw_cfa.specs.{Location.Counts, declared.instr.{Factors.Factors, Instr.Instr}}
use Rattle.dw_section.specs.{Among.IsAmong, Headers.{CieHead, Head, cie, fde}}

abbrev pub factors_of : CieHead → Factors
factors_of c = record { code_factor = c.code_factor; data_factor = c.data_factor }

-- ---- programs of CIEs

-- a CIE's program keeps what it has to
abbrev pub CieRuns : Target → Head → Type 0
CieRuns target (cie c) = (instrs : List Instr) × ProgramSpells target (factors_of c) instrs c.program.bytes × CieKept instrs
CieRuns target (fde f) = Unit {0}

-- a CIE's program has this first fault
abbrev pub CieBroken : Target → Head → Refusal → Type 0
CieBroken target (cie c) r = CieFault (factors_of c) (input_of target c.program) r
CieBroken target (fde f) r = ⊥

-- ---- programs of FDEs

-- at this place stands this CIE, with these instructions
pub record InitialInstrs (target : Target) (hs : List Head) (place : ℕ) (c : CieHead) (initial : List Instr) : Type 0 where
  pub among : IsAmong (cie c) hs
  pub stands : c.at ≡ place
  pub spelled : ProgramSpells target (factors_of c) initial c.program.bytes

-- the instructions of the CIE at this place, and those of an FDE's program
pub record Instrs (target : Target) (hs : List Head) (place : ℕ) (program : Span) (initial instrs : List Instr) : Type 0 where
  pub head : CieHead
  pub begins : InitialInstrs target hs place head initial
  pub spelled : ProgramSpells target (factors_of head) instrs program.bytes

-- an FDE's program keeps what it has to, behind the initial rules of its CIE
abbrev pub FdeRuns : Target → List Head → Head → Type 0
FdeRuns target hs (cie c) = Unit {0}
FdeRuns target hs (fde f) =
    (initial : List Instr) × (instrs : List Instr) × Instrs target hs f.cie_at f.program initial instrs × FdeKept (address_limit target.size) f.begin (initial_cfa initial) instrs

-- an FDE's program has this first fault, behind the initial rules of its CIE
abbrev pub FdeBroken : Target → List Head → Head → Refusal → Type 0
FdeBroken target hs (cie c) r = ⊥
FdeBroken target hs (fde f) r =
    (c : CieHead) × (initial : List Instr) × InitialInstrs target hs f.cie_at c initial × FdeFault (factors_of c) (initial_cfa initial) (input_of target f.program) f.begin r

-- ---- the CFA

-- the CFA has a rule at address a
abbrev pub HasCfa : List Instr → List Instr → ℕ → ℕ → Type 0
HasCfa initial instrs begin a = (k : ℕ) → Counts begin instrs a k → cfa_after (initial_cfa initial) instrs k ≡ Unset → ⊥

-- the CFA has no rule at address a
abbrev pub LacksCfa : List Instr → List Instr → ℕ → ℕ → Type 0
LacksCfa initial instrs begin a = (k : ℕ) × Counts begin instrs a k × (cfa_after (initial_cfa initial) instrs k ≡ Unset)

-- the CFA has a rule at each address of an FDE
abbrev pub HasRules : Target → List Head → Head → Type 0
HasRules target hs (cie c) = Unit {0}
HasRules target hs (fde f) =
    (initial : List Instr) × (instrs : List Instr) × Instrs target hs f.cie_at f.program initial instrs × ((a : ℕ) → f.begin ≤ a → a < f.begin + f.range → HasCfa initial instrs f.begin a)

-- the CFA has no rule at an address of an FDE
abbrev pub LacksRule : Target → List Head → Head → Refusal → Type 0
LacksRule target hs (cie c) r = ⊥
LacksRule target hs (fde f) r =
    (r ≡ record { code = NoCfaRule; at = f.at })
    × ((initial : List Instr) × (instrs : List Instr) × Instrs target hs f.cie_at f.program initial instrs
    × ((a : ℕ) × (f.begin ≤ a) × (a < f.begin + f.range) × LacksCfa initial instrs f.begin a))
