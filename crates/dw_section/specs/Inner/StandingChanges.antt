-- What the code and its proofs say beside StandingChanges.
use Rattle.std.specs.Prelude.{◌≡◌, ℕ, ◌<◌, length, Option, Some, None, Result, Ok, Err, Bool}
use Rattle.dw_num.specs.{Refusals.Refuses, declared.error.ReadError.ReadError}
use Rattle.dw_cfa.specs.{RowSteps.Stepping, RowWalk.Walking}
use Rattle.dw_section.specs.{StandingChanges.Judging, Inner.{Changes.{changes_among, fault_of}, Shown.{shown_if, shown_of}}}

-- what is known of the next change, also if there is a fault
abbrev pub JudgesChange : ℕ → Stepping → Result (Option ℕ) ReadError → Stepping → Type 0
JudgesChange end old (Ok None) new = fault_of old ≡ None
JudgesChange end old (Ok (Some start)) new = (fault_of new ≡ fault_of old) × (length new.outcome.rows < length old.outcome.rows) × (start < end)
JudgesChange end old (Err e) new = Refuses (λ r. fault_of old ≡ Some r) e

-- the changes that a walk gives, by whether it lends the row that was shown last, and whether it kept one
abbrev pub judging : Walking → Bool → Bool → ℕ → Judging
judging walk lent kept end = record {
  fault = fault_of walk.steps;
  rows = length walk.steps.outcome.rows;
  current = walk.steps.current;
  to_come = changes_among end (shown_of lent walk.steps.current (shown_if kept walk.kept)) walk.steps.outcome.rows;
}
