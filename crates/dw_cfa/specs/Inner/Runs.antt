-- Runs of whole programs, and the rows that they give, as the code runs them.
use Rattle.std.specs.Prelude.{◌≡◌, ℕ, ◌<◌, ◌≤◌, List, [], ◌∷◌, length, Bool, false, IsTrue, Option, Some, None, Result, Ok, Err, if◌then◌else◌}
use Rattle.dw_num.specs.{Input.Input, Target.address_limit, declared.refusal.{Code.Code, Refusal.Refusal}}
use Rattle.dw_op.specs.{Walks.Walked, Inner.Walks.walked}
use Rattle.dw_row.specs.{Rows.{Rules, blank}, States.BeganWith}
use Rattle.dw_cfa.specs.{Location.moves_location, Runs.{Outcome, finished, fails, row_then}}
use Rattle.dw_cfa.specs.declared.{execution.LocatedRow.LocatedRow, instr.{Factors.Factors, Instr.Instr}, machine.Machine.Machine}
use Rattle.dw_cfa.specs.Inner.{FrontInstr.instr_at, Machine.{State, begun, written, after, cie_fault, fde_fault}, Steps.state_of}

-- an instruction and the place of its opcode
pub record Placed : Type 0 where
  pub at : ℕ
  pub instr : Instr

abbrev pub place_of : ℕ → Instr → Placed
place_of at i = record { at = at; instr = i }

-- the instructions of a program up to the first that can't be read, and its refusal
abbrev pub Placing : Type 0
Placing = Walked Placed

unfoldable pub placed : Factors → Input → Placing
placed f i = walked (instr_at f) place_of i

-- ---- a CIE's program

abbrev pub refused_at : {A : Type 0} → ℕ → Option Code → Result A Refusal → Result A Refusal
refused_at at (Some code) next = Err (record { code = code; at = at })
refused_at at None next = next

abbrev pub at_end : {A : Type 0} → Option Refusal → A → Result A Refusal
at_end (Some refusal) x = Err refusal
at_end None x = Ok x

-- the row that a CIE's program leaves, or its first refusal
unfoldable pub cie_run : List Placed → Option Refusal → Rules → Result Rules Refusal
cie_run [] fault row = at_end fault row
cie_run (item ∷ items) fault row = refused_at item.at (cie_fault item.instr row) (cie_run items fault (written item.instr row))

abbrev pub initial_row : Placing → Rules → Result Rules Refusal
initial_row l row = cie_run l.items l.fault row

-- ---- an FDE's program

abbrev pub here : State → LocatedRow
here s = record { location = s.location; row = s.row }

abbrev pub last_row : Option Refusal → State → Outcome
last_row (Some refusal) s = fails refusal
last_row None s = row_then (here s) finished

abbrev pub fault_or : ℕ → Option Code → Outcome → Outcome
fault_or at (Some code) next = fails (record { code = code; at = at })
fault_or at None next = next

-- a row ends where the location moves
abbrev pub row_if : Bool → State → Outcome → Outcome
row_if moves s next = if moves then row_then (here s) next else next

-- the rows of an FDE's program: one before each instruction that moves the location, and one at the end
unfoldable pub fde_rows : ℕ → Rules → List Placed → Option Refusal → State → Outcome
fde_rows limit initial [] fault s = last_row fault s
fde_rows limit initial (item ∷ items) fault s =
    fault_or item.at (fde_fault limit item.instr s) (row_if (moves_location item.instr) s (fde_rows limit initial items fault (after initial item.instr s)))

-- the rows still to come of a machine
unfoldable pub rows_left : Factors → Input → Machine → Outcome
rows_left f i m = fde_rows m.limit m.initial (placed f i).items (placed f i).fault (state_of m)

abbrev pub stop_or : Option Code → ℕ → ℕ → ℕ
stop_or (Some code) location next = location
stop_or None location next = next

-- where an FDE's program stops: the location behind its last instruction, or behind those before its fault
unfoldable pub fde_stop : ℕ → Rules → List Placed → State → ℕ
fde_stop limit initial [] s = s.location
fde_stop limit initial (item ∷ items) s = stop_or (fde_fault limit item.instr s) s.location (fde_stop limit initial items (after initial item.instr s))

-- where a machine stops
unfoldable pub stop_left : Factors → Input → Machine → ℕ
stop_left f i m = fde_stop m.limit m.initial (placed f i).items (state_of m)

abbrev pub on_initial : Result Rules Refusal → (Rules → Outcome) → Outcome
on_initial (Ok initial) go = go initial
on_initial (Err refusal) go = fails refusal

-- the rows of a CIE's and an FDE's program
unfoldable pub run_rows : Factors → Input → Input → ℕ → Outcome
run_rows f cie fde begin =
    on_initial (initial_row (placed f cie) blank) (λ initial. fde_rows (address_limit fde.target.size) initial (placed f fde).items (placed f fde).fault (begun initial begin))

-- where an FDE's program stops behind a CIE's, which may be before its first instruction
abbrev pub stop_on : Result Rules Refusal → ℕ → (Rules → ℕ) → ℕ
stop_on (Ok initial) begin go = go initial
stop_on (Err refusal) begin go = begin

unfoldable pub run_stop : Factors → Input → Input → ℕ → ℕ
run_stop f cie fde begin = stop_on (initial_row (placed f cie) blank) begin (λ initial. fde_stop (address_limit fde.target.size) initial (placed f fde).items (begun initial begin))

-- the fault, if there is one, comes above an address
abbrev pub StopsAbove : Option Refusal → ℕ → ℕ → Type 0
StopsAbove fault stop a = (r : Refusal) → fault ≡ Some r → a < stop

-- the fault of what is left to a machine, if there is one, comes above an address
abbrev pub NoneLeftUpTo : Factors → Input → Machine → ℕ → Type 0
NoneLeftUpTo f i m a = StopsAbove (rows_left f i m).fault (stop_left f i m) a

-- it is this one, and comes up to an address
abbrev pub LeftUpTo : Factors → Input → Machine → ℕ → Refusal → Type 0
LeftUpTo f i m a r = ((rows_left f i m).fault ≡ Some r) × (stop_left f i m ≤ a)

-- the rows of an FDE's program behind an initial row
unfoldable pub rows_behind : Factors → Rules → Input → ℕ → Outcome
rows_behind f initial fde begin = fde_rows (address_limit fde.target.size) initial (placed f fde).items (placed f fde).fault (begun initial begin)

-- ---- how the code runs

-- a machine at an FDE's program: no location is above 2 ^ N, and the initial row is the one that can be brought back
pub record RunsSo (m : Machine) (i : Input) : Type 0 where
  pub limit : m.limit ≡ address_limit i.target.size
  pub within : m.location ≤ m.limit
  pub first : BeganWith m.initial m.states.first

-- one instruction was run, of these that are left
pub record RanTo (f : Factors) (i : Input) (m : Machine) (moves : Bool) (i' : Input) (m' : Machine) : Type 0 where
  pub so : RunsSo m' i'
  pub shorter : length i'.bytes < length i.bytes
  pub rows : rows_left f i m ≡ row_if moves (state_of m) (rows_left f i' m')
  pub same_row : IsTrue moves → m'.states.row ≡ m.states.row
  pub same_location : moves ≡ false → m'.location ≡ m.location
  pub stop : stop_left f i m ≡ stop_left f i' m'

-- the same for an instruction of a CIE's program
pub record WroteTo (f : Factors) (i : Input) (row : Rules) (i' : Input) (row' : Rules) : Type 0 where
  pub shorter : length i'.bytes < length i.bytes
  pub initial : initial_row (placed f i) row ≡ initial_row (placed f i') row'
