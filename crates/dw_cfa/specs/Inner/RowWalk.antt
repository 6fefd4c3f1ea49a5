-- How the code runs the programs of one FDE after another in one room.
use Rattle.std.specs.{Prelude.{◌≡◌, ℕ, Bool, true, false, if◌then◌else◌, IsTrue, IfSome, List, Option, Some, Result, Ok, Err, None, []}, List.AllByRecursion}
use Rattle.dw_num.specs.{Input.Input, Refusals.Refuses, declared.error.ReadError.ReadError, declared.refusal.Refusal.Refusal}
use Rattle.dw_row.specs.{Rows.{Rules, blank, is_specified, rule}, States.BeganWith}
use Rattle.dw_cfa.specs.declared.{execution.LocatedRow.LocatedRow, instr.Factors.Factors, lead.Leading.Leading, machine.Machine.Machine}
use Rattle.dw_cfa.specs.{Behind.LeavesTo, RowSteps.{Failed, Stepping, program_input, stepping}, RowWalk.Led, Runs.{Outcome, fails, finished, row_then}}
use Rattle.dw_cfa.specs.{declared.next_row.Progress.Progress, Inner.Runs.{RunsSo, initial_row, placed, rows_left, run_rows}}
use Rattle.dw_cfa.specs.declared.next_row.Progress.TheVariants as progress

abbrev pub led_of : Leading → Led
led_of l = record { program = program_input l.program l.target; factors = l.factors }

-- the CIE's row, while the rows behind one are run
abbrev pub initial_of : Progress → Rules → Option Rules
initial_of progress.Running initial = Some initial
initial_of other initial = None

-- its program leaves that row
abbrev pub AreLeft : Leading → Option Rules → Type 0
AreLeft l initial = IfSome initial (λ row. LeavesTo l.factors (program_input l.program l.target) (Ok row))

-- the row that it leaves, or its first refusal
abbrev pub led_row : Leading → Result Rules Refusal
led_row l = initial_row (placed l.factors (program_input l.program l.target)) blank

abbrev pub led_rows : Leading → Input → ℕ → Outcome
led_rows l fde begin = run_rows l.factors (program_input l.program l.target) fde begin

-- before its first row a walk runs both programs from their beginning
abbrev pub walk_of : Progress → Leading → Input → Machine → Stepping
walk_of progress.Begun l fde m = stepping m.states.row (led_rows l fde m.location)
walk_of progress.Running l fde m = stepping m.states.row (rows_left l.factors fde m)
walk_of progress.Finished l fde m = stepping m.states.row finished
walk_of (progress.Failed e) l fde m = record { outcome = finished; current = m.states.row; error = Some e }

abbrev pub WalkStands : Progress → Input → Machine → Type 0
WalkStands progress.Begun fde m = RunsSo m fde
WalkStands progress.Running fde m = RunsSo m fde
WalkStands other fde m = BeganWith m.initial m.states.first

-- the machine has the initial row of a CIE
abbrev pub HasInitial : Leading → Machine → Type 0
HasInitial l m = led_row l ≡ Ok m.initial

-- programs of equal bytes, which are read with the same
abbrev pub ReadAlike : Leading → Leading → Type 0
ReadAlike l k = (l.program.bytes.now ≡ k.program.bytes.now) × (l.target ≡ k.target) × (l.factors ≡ k.factors)

-- both run a CIE's program alike
abbrev pub LeadsSame : Leading → Leading → Type 0
LeadsSame l k = (m : Machine) → HasInitial l m → HasInitial k m

-- ---- what a CIE's program specifies stays so

-- it specifies every register that another row specifies
abbrev pub Specifies : Rules → Rules → Type 0
Specifies row other = (r : ℕ) → IsTrue (is_specified (rule other r)) → IsTrue (is_specified (rule row r))

abbrev pub AllSpecify : Rules → List LocatedRow → Type 0
AllSpecify other rows = AllByRecursion (λ (next : LocatedRow). Specifies next.row other) rows

-- all rows that are left specify what the CIE's initial row specifies
abbrev pub WalkKeeps : Progress → Leading → Input → Machine → Type 0
WalkKeeps progress.Running l fde m = AllSpecify m.initial (rows_left l.factors fde m).rows
WalkKeeps other l fde m = Unit {0}

-- ---- how a walk stands

-- what is kept of a CIE is its initial row
pub record WalksSo (p : Progress) (kept : Bool) (l : Leading) (fde : Input) (m : Machine) : Type 0 where
  pub stands : WalkStands p fde m
  pub initial : IsTrue kept → HasInitial l m
  pub keeps : WalkKeeps p l fde m
  pub left : AreLeft l (initial_of p m.initial)

-- the machine has the row of a CIE's program, and stands where it stood, at the front of an FDE's
pub record IsLed (l : Leading) (old new : Machine) : Type 0 where
  pub initial : HasInitial l new
  pub row : new.states.row ≡ new.initial
  pub none : new.states.stack ≡ []
  pub first : BeganWith new.initial new.states.first
  pub location : new.location ≡ old.location
  pub limit : new.limit ≡ old.limit

-- ---- the next row

-- an FDE's program runs behind the row of its CIE, or no row is to come, or an error is answered from then on
abbrev pub IsEntered : Progress → Machine → Progress → Leading → Input → Machine → Result Bool ReadError → Type 0
IsEntered old was p l fde m (Ok true) =
    (p ≡ progress.Running) × RunsSo m fde × ((walk_of old l fde was).outcome ≡ rows_left l.factors fde m) × ((walk_of old l fde was).error ≡ None) × (m.location ≡ was.location)
IsEntered old was p l fde m (Ok false) = (p ≡ progress.Finished) × (old ≡ progress.Finished) × (m ≡ was)
IsEntered old was p l fde m (Err e) = (p ≡ progress.Failed e) × Failed (walk_of old l fde was) e (walk_of (progress.Failed e) l fde m)

-- the machine has a row that starts there, and more are left or it is the last
abbrev pub GoesOn : Outcome → Factors → Input → Machine → Progress → Result (Option ℕ) ReadError → Type 0
GoesOn old f i m p (Ok (Some start)) =
    (more : Bool) × RunsSo m i × (old ≡ row_then (record { location = start; row = m.states.row }) (if more then rows_left f i m else finished)) × (p ≡ (if more then progress.Running else progress.Finished))
GoesOn old f i m p (Ok None) = ⊥
GoesOn old f i m p (Err e) = Refuses (λ r. old ≡ fails r) e
