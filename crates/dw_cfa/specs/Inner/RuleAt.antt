-- What the code and its proofs say beside RuleAt.
use Rattle.std.specs.Prelude.{◌≡◌, ℕ, ◌≤◌, List, Result, Ok, Err, Some, length}
use Rattle.dw_num.specs.{Input.Input, Refusals.Refuses, declared.{error.ReadError.ReadError, program.Program.Program}}
use Rattle.dw_row.specs.Rows.{Rules}
use Rattle.dw_cfa.specs.{Location.{onto, location_back}, RowSteps.program_input, RuleAt.last_at, declared.{instr.{Factors.Factors, Instr.Instr}, lead.Leading.Leading}}
use Rattle.dw_cfa.specs.Inner.Runs.{StopsAbove, run_rows, run_stop}

-- the instructions that count at address a, behind those that came earlier, are the next k
pub record CountsFrom (begin : ℕ) (earlier instrs : List Instr) (a k : ℕ) : Type 0 where
  pub in_program : k ≤ length instrs
  pub stays : (j : ℕ) → j ≤ k → location_back begin (onto earlier instrs j) ≤ a
  pub greatest : (n : ℕ) → n ≤ length instrs → ((j : ℕ) → j ≤ n → location_back begin (onto earlier instrs j) ≤ a) → n ≤ k

-- both programs give the row of an address up to which no fault comes, or a fault that comes up to there
abbrev pub FoundAt : {X : Type 0} → ℕ → Factors → Input → Input → ℕ → Rules → Result X ReadError → Type 0
FoundAt a f cie fde begin row (Ok x) =
    (last_at a (run_rows f cie fde begin).rows ≡ Some row) × StopsAbove (run_rows f cie fde begin).fault (run_stop f cie fde begin) a
FoundAt a f cie fde begin row (Err e) = Refuses (λ r. ((run_rows f cie fde begin).fault ≡ Some r) × (run_stop f cie fde begin ≤ a)) e

-- the same of the programs as they are handed on
abbrev pub FoundBehind : {X : Type 0} → ℕ → Leading → Program → ℕ → Rules → Result X ReadError → Type 0
FoundBehind a l fde begin row r = FoundAt a l.factors (program_input l.program l.target) (program_input fde l.target) begin row r
