-- The instructions of a program one after another, up to its first fault: DWARF 5, 6.4.2.
use Rattle.std.specs.Prelude.{◌≡◌, ℕ, ◌+◌, List, [], ◌∷◌, ◌++◌, length, Option, Some, None, Result, Ok, Err}
use Rattle.dw_num.specs.declared.{refusal.Refusal.Refusal, target.Target.Target}
use Rattle.dw_op.specs.Walks.{Walked}
use Rattle.dw_cfa.specs.{InstrFaults.CodeFault, InstrSpells.ProgramSpells, Operands.form_for, declared.instr.Factors.Factors, declared.instr.Instr.Instr}

-- the longest beginning of instructions, and the fault of what follows it, if anything does
abbrev pub Listing : Type 0
Listing = Walked Instr

abbrev pub complete : List Instr → Listing
complete instrs = record { items = instrs; fault = None }

abbrev pub faulty : List Instr → Refusal → Listing
faulty instrs r = record { items = instrs; fault = Some r }

-- behind the instructions stands a code that is read as none, or with its operands, and this is its fault
pub record ProgramFault (t : Target) (f : Factors) (at : ℕ) (bytes : List ℕ) (instrs : List Instr) (r : Refusal) : Type 0 where
  pub front : List ℕ
  pub code : ℕ
  pub operands : List ℕ
  pub whole : bytes ≡ front ++ code ∷ operands
  pub read : ProgramSpells t f instrs front
  pub fault : CodeFault (at + length front) (form_for f code) (record { at = (at + length front) + 1; bytes = operands; target = t }) r

-- ---- one after another

abbrev pub fault_answers : Option Refusal → List (Result Instr Refusal)
fault_answers None = []
fault_answers (Some r) = Err r ∷ []

abbrev pub answers_before : List Instr → List (Result Instr Refusal) → List (Result Instr Refusal)
answers_before [] more = more
answers_before (instr ∷ instrs) more = Ok instr ∷ answers_before instrs more

-- all answers: the instructions, and then the fault
abbrev pub answers : Listing → List (Result Instr Refusal)
answers l = answers_before l.items (fault_answers l.fault)
