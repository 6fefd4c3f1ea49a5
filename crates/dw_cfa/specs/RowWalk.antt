-- The programs of one FDE after another, run in one room.
use Rattle.std.specs.{Prelude.{◌≡◌, pos, List, [], Option, Some, None, Ok, MatchOption}, List.AllByRecursion}
use Rattle.dw_num.specs.{Input.Input, declared.target.Target.Target}
use Rattle.dw_row.specs.{Agreement.kept, Rows.Rules}
use Rattle.dw_cfa.specs.{Behind.LeavesTo, RowSteps.Stepping, Runs.{Outcome, finished}, declared.{execution.LocatedRow.LocatedRow, instr.Factors.Factors}}

-- the program of a CIE, where it stands, and the CIE's factors
pub record Led : Type 0 where
  pub program : Input
  pub factors : Factors

-- where no CIE was named yet: an empty program with factors of 0 stands for none
abbrev pub unled : Target → Led
unled target = record { program = record { at = 0; bytes = []; target = target }; factors = record { code_factor = 0; data_factor = pos 0 } }

-- A walk. `steps`: the rows still to come and the row that is lent. `kept`: the row that was kept of it. `led`: the CIE that was
-- named last. `initial`: the row that this CIE's program leaves, while rows are to come behind one that was gone on to; else none.
pub record Walking : Type 0 where
  pub steps : Stepping
  pub kept : Rules
  pub led : Led
  pub initial : Option Rules

-- behind a row that was gone on to: the row that the CIE's program leaves, or none where no row is to come
abbrev pub StandsOn : Led → Outcome → Option Rules → Type 0
StandsOn led outcome None = outcome ≡ finished
StandsOn led outcome (Some row) = (outcome ≡ finished → ⊥) × LeavesTo led.factors led.program (Ok row)

-- none of these rows leaves a register Unspecified that a row specifies
abbrev pub AllKeep : Rules → List LocatedRow → Type 0
AllKeep row rows = AllByRecursion (λ (next : LocatedRow). kept row next.row ≡ row) rows

-- no row is to come, or the CIE's row specifies every register that a row specifies
abbrev pub CieKeeps : Walking → Rules → Type 0
CieKeeps walk row = MatchOption walk.initial (walk.steps.outcome ≡ finished) (λ initial. kept row initial ≡ row)
