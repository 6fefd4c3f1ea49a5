-- What the code and its proofs say beside Changes.
use Rattle.std.specs.Prelude.{◌≡◌, ◌⊎◌, ℕ, ◌<◌, nat_lt, ◌&&◌, not, if◌then◌else◌, List, [], ◌∷◌, Option, Some, None, Result, Ok, Err, Bool, false, IsTrue}
use Rattle.dw_num.specs.{Input.AreBytes, declared.{error.ReadError.ReadError, refusal.Refusal.Refusal}}
use Rattle.dw_num.specs.declared.error.ReadError.TheVariants.{Refused, OutOfMemory}
use Rattle.dw_row.specs.{RegisterSets.Registers, Rows.Rules}
use Rattle.dw_row.proofs.Lent.Equal.{row_test}
use Rattle.dw_cfa.specs.{Behind.LeavesTo, RowSteps.Stepping, RowWalk.{AllKeep, Walking}, declared.execution.LocatedRow.LocatedRow}
use Rattle.dw_section.specs.{Changes.Changing, Headers.{Head, Headers}, Opening.AreChanged, Table.Section, declared.walks.Walks.Walks}
use Rattle.dw_section.specs.Inner.{Shown.{shown_if, shown_of, before_of}, Walks.AreLed}

-- ---- changes among rows

-- an address below the end and before the row that comes next
abbrev pub Before : ℕ → ℕ → List LocatedRow → Type 0
Before end a [] = a < end
Before end a (next ∷ rows) = (a < next.location) × (a < end)

-- no address below the end shows the row, or it repeats the one that was shown
abbrev pub Passed : ℕ → Option Rules → LocatedRow → List LocatedRow → Type 0
Passed end shown row rows = (Before end row.location rows → ⊥) ⊎ (shown ≡ Some row.row)

-- an address shows the row, and it is not the one that was shown
abbrev pub Shows : ℕ → Option Rules → LocatedRow → List LocatedRow → Type 0
Shows end shown row rows = Before end row.location rows × (shown ≡ Some row.row → ⊥)

-- the changes among rows, where this row was shown before
abbrev pub Among : ℕ → Option Rules → List LocatedRow → List (ℕ × Rules) → Type 0
Among end shown [] changes = changes ≡ []
Among end shown (row ∷ rows) changes =
    (Passed end shown row rows × Among end shown rows changes)
    ⊎ (Shows end shown row rows × ((more : List (ℕ × Rules)) × (changes ≡ (row.location, row.row) ∷ more) × Among end (Some row.row) rows more))

-- the tests of both: whether an address is before the row that comes next
abbrev pub is_before : ℕ → ℕ → List LocatedRow → Bool
is_before end a [] = nat_lt a end
is_before end a (next ∷ rows) = nat_lt a next.location && nat_lt a end

-- and whether a row repeats the one that was shown
abbrev pub repeats : Option Rules → Rules → Bool
repeats None row = false
repeats (Some shown) row = row_test.0 shown row

-- so the changes among rows are this list
abbrev pub changes_among : ℕ → Option Rules → List LocatedRow → List (ℕ × Rules)
changes_among end shown [] = []
changes_among end shown (row ∷ rows) =
    if is_before end row.location rows && not (repeats shown row.row) then (row.location, row.row) ∷ changes_among end (Some row.row) rows else changes_among end shown rows

-- ---- how the code finds them

-- the fault that was answered, or that is still to come
abbrev pub fault_behind : Option ReadError → Option Refusal → Option Refusal
fault_behind None fault = fault
fault_behind (Some (Refused r)) fault = Some r
fault_behind (Some OutOfMemory) fault = fault

abbrev pub fault_of : Stepping → Option Refusal
fault_of s = fault_behind s.error s.outcome.fault

-- the changes that a walk shows, by whether it lends the row that was shown last, and whether it kept one
abbrev pub showing : Section → Walking → Bool → Bool → ℕ → Bool → Changing
showing s walk lent kept end failed = record {
  section = s;
  to_come = changes_among end (shown_of lent walk.steps.current (shown_if kept walk.kept)) walk.steps.outcome.rows;
  shown = shown_of lent walk.steps.current (shown_if kept walk.kept);
  before = before_of lent (shown_if kept walk.kept);
  failed = failed;
}

-- the rows of a walk that was led by the headers of a section have no fault
pub record ChangesSo (s : Section) (w : Walks) : Type 0 where
  pub no_fault : fault_of w.walk.steps ≡ None
  pub headers : List Head
  pub are : Headers s.target s.bytes headers
  pub led : AreLed s.target headers w

-- where this row was shown before, the next change
abbrev pub FindsChange : {E : Type 0} → ℕ → Stepping → Option Rules → Result (Option ℕ) E → Stepping → Type 0
FindsChange end old shown (Ok None) new = (fault_of new ≡ None) × (changes_among end shown old.outcome.rows ≡ []) × (new.outcome.rows ≡ [])
FindsChange end old shown (Ok (Some start)) new =
    (fault_of new ≡ None) × (changes_among end shown old.outcome.rows ≡ (start, new.current) ∷ changes_among end (Some new.current) new.outcome.rows)
FindsChange end old shown (Err e) new = fault_of new ≡ None

-- the same of the first change, with what else is answered of it
abbrev pub FindsFirst : {A E : Type 0} → ℕ → Stepping → Result (Option ℕ × A) E → Stepping → Type 0
FindsFirst {A} {E} end old (Ok found) new = FindsChange {E = E} end old None (Ok found.0) new
FindsFirst {A} {E} end old (Err e) new = FindsChange {E = E} end old None (Err e) new

-- the row that was kept is the CIE's, and a set has the registers whose rules the row that is lent changes
abbrev pub ShownBehind : Walking → Registers → Type 0
ShownBehind walk changed = LeavesTo walk.led.factors walk.led.program (Ok walk.kept) × AreChanged changed walk.kept walk.steps.current

-- if so, all rows to come specify what the row that is lent does
abbrev pub KeepsIf : Bool → Walking → Type 0
KeepsIf known walk = IsTrue known → AreBytes walk.led.program.bytes → AllKeep walk.steps.current walk.steps.outcome.rows
