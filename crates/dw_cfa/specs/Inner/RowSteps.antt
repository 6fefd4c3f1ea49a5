-- Rows that come before others.
use Rattle.std.specs.Prelude.{List, ◌++◌, None}
use Rattle.dw_cfa.specs.{Runs.Outcome, declared.execution.LocatedRow.LocatedRow}

-- rows that come first
abbrev pub rows_before : List LocatedRow → Outcome → Outcome
rows_before rows o = record { rows = rows ++ o.rows; fault = o.fault }

-- all rows, and no refusal behind them
abbrev pub gives : List LocatedRow → Outcome
gives rows = record { rows = rows; fault = None }
