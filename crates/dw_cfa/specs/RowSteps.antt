-- Rows given one at a time.
use Rattle.std.specs.Prelude.{◌≡◌, ◌⊎◌, ℕ, Option, Some, None, Result, Ok, Err}
use Rattle.dw_num.specs.{Input.Input, Refusals.Refuses, declared.error.ReadError.ReadError, declared.program.Program.Program, declared.target.Target.Target}
use Rattle.dw_row.specs.Rows.{Rules}
use Rattle.dw_cfa.specs.{Runs.{Outcome, finished, fails, row_then}, declared.execution.LocatedRow.LocatedRow}

-- the rows still to come, the row that is lent, and the error that was answered, after which it is answered again
pub record Stepping : Type 0 where
  pub outcome : Outcome
  pub current : Rules
  pub error : Option ReadError

-- no error was answered yet
abbrev pub stepping : Rules → Outcome → Stepping
stepping current outcome = record { outcome = outcome; current = current; error = None }

-- where a program stands
abbrev pub program_input : Program → Target → Input
program_input p t = record { at = p.at; bytes = p.bytes.now; target = t }

-- An error is answered, and it is kept as the one to answer again; no row is to come any more. Either the same error was answered
-- before, and then nothing changes. Or none was answered before; then memory ran out, or no row was to come and this is the
-- refusal that stood behind the rows.
abbrev pub Failed : Stepping → ReadError → Stepping → Type 0
Failed old e new = (new.error ≡ Some e) × (new.outcome ≡ finished) × ((old ≡ new) ⊎ (old.error ≡ None) × Refuses (λ r. old.outcome ≡ fails r) e)

-- no row is to come, none comes behind a refusal, and nothing changes
abbrev pub Ended : Stepping → Stepping → Type 0
Ended old new = (old ≡ stepping old.current finished) × (new ≡ old)

-- What a call answers that goes on to the next row: the location that it starts at. That row was the first of those to come and
-- is lent now; the others stay to come. Of no row and of an error the two words above speak.
abbrev pub Advances : Stepping → Result (Option ℕ) ReadError → Stepping → Type 0
Advances old (Ok None) new = Ended old new
Advances old (Ok (Some location)) new =
    (old.error ≡ None) × (new.error ≡ None) × (old.outcome ≡ row_then (record { location = location; row = new.current }) new.outcome)
Advances old (Err e) new = Failed old e new

-- what a call answers that gives the next row away: the same, with the row as the answer
abbrev pub Answers : Stepping → Result (Option LocatedRow) ReadError → Stepping → Type 0
Answers old (Ok None) new = Ended old new
Answers old (Ok (Some row)) new = (old.error ≡ None) × (new.error ≡ None) × (old.outcome ≡ row_then row new.outcome) × (new.current ≡ row.row)
Answers old (Err e) new = Failed old e new
