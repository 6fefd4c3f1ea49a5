-- All changes of an FDE that stands in bytes, by its place alone: DWARF 5, 6.4.1 and 6.4.3. The bytes
-- need be no section that is accepted.
--
-- A call that is led to a place for all of them judges in the order of a look-up (`StandingFde`), but
-- for the last step: it judges both programs to their ends, as `check` does, also where the FDE's goes
-- on behind the FDE's end. Rows that start there are none of its changes.
use Rattle.std.specs.Prelude.{◌≡◌, ◌⊎◌, ℕ, ◌+◌, ◌<◌, ◌≤◌, List, [], ◌∷◌, Option, Some, None, Result, Ok, Err}
use Rattle.dw_num.specs.{Refusals.Refuses, Span.input_of, Target.address_limit, declared.error.ReadError.ReadError}
use Rattle.dw_num.specs.declared.{refusal.Refusal.Refusal, target.Target.Target}
use Rattle.dw_row.specs.Rows.{Rules}
use Rattle.dw_cfa.specs.{Faults.RunFault, InitialRules.initial_cfa, InstrSpells.ProgramSpells, Kept.{CieKept, FdeKept}, declared.instr.Instr.Instr}
use Rattle.dw_section.specs.{Changes.AreChanges, Headers.{CieHead, FdeHead}, Programs.factors_of, Ranges.{LeadsTo, Ranged}}
use Rattle.dw_section.specs.{StandingFde.{FdeStands, LookUpFault}, declared.lookup.Fde.Fde}

-- these are the changes of the FDE at a place, by the instructions of its program and of its CIE's,
-- which keep what they have to
pub record StandingChanges (target : Target) (s : List ℕ) (at : ℕ) (f : Fde) (changes : List (ℕ × Rules)) : Type 0 where
  pub own : FdeHead
  pub named : CieHead
  pub stands : FdeStands target s own named
  pub place : own.at ≡ at
  pub begin : f.begin ≡ own.begin
  pub end : f.end ≡ own.begin + own.range
  pub return_register : f.return_register ≡ named.return_register
  pub initial : List Instr
  pub instrs : List Instr
  pub cie_spelled : ProgramSpells target (factors_of named) initial named.program.bytes
  pub spelled : ProgramSpells target (factors_of named) instrs own.program.bytes
  pub cie_kept : CieKept initial
  pub kept : FdeKept (address_limit target.size) own.begin (initial_cfa initial) instrs
  pub change : AreChanges initial instrs f.begin f.end changes

-- ---- what is refused

-- the last step: the first fault of the programs of an FDE that stands at a place and covers an
-- address, and of its CIE, wherever it comes
abbrev pub WholeProgramsFault : Target → List ℕ → ℕ → ℕ → Refusal → Type 0
WholeProgramsFault target s at a r =
    (own : FdeHead) × (named : CieHead) × FdeStands target s own named × (own.at ≡ at) × (own.begin ≤ a) × (a < own.begin + own.range)
    × RunFault (factors_of named) (input_of target named.program) (input_of target own.program) own.begin r

-- all steps: what a look-up of the address refuses, or the last step at a place where the index leads
abbrev pub ChangesFault : Target → List ℕ → List Ranged → ℕ → Refusal → Type 0
ChangesFault target s index a r = LookUpFault target s index a r ⊎ ((at : ℕ) × LeadsTo index a at × WholeProgramsFault target s at a r)

-- ---- changes given one at a time

-- of programs that may be refused: their first fault, also once it was answered; how many rows are
-- still to come before it; the row that is lent; and the changes still to come, if there is no fault
pub record Judging : Type 0 where
  pub fault : Option Refusal
  pub rows : ℕ
  pub current : Rules
  pub to_come : List (ℕ × Rules)

-- What a call answers that goes on to the next change: its address, and its row is lent then. Behind
-- the last one it answers none, if there is no fault. An error is the fault, or memory ran out.
abbrev pub GivesNext : Judging → Result (Option ℕ) ReadError → Judging → Type 0
GivesNext old (Ok None) new = (old.fault ≡ None) × (old.to_come ≡ [])
GivesNext old (Ok (Some address)) new = (new.fault ≡ old.fault) × (new.rows < old.rows) × (old.fault ≡ None → old.to_come ≡ (address, new.current) ∷ new.to_come)
GivesNext old (Err e) new = Refuses (λ r. old.fault ≡ Some r) e
