-- What a run gives: DWARF 5, 6.4.3.
use Rattle.std.specs.Prelude.{List, [], ◌∷◌, Option, Some, None}
use Rattle.dw_num.specs.declared.refusal.Refusal.{Refusal}
use Rattle.dw_cfa.specs.declared.execution.LocatedRow.{LocatedRow}

-- the rows still to come, and the refusal that comes behind them where the program is not run to its end
pub record Outcome : Type 0 where
  pub rows : List LocatedRow
  pub fault : Option Refusal

abbrev pub finished : Outcome
finished = record { rows = []; fault = None }

abbrev pub fails : Refusal → Outcome
fails refusal = record { rows = []; fault = Some refusal }

abbrev pub row_then : LocatedRow → Outcome → Outcome
row_then row o = record { rows = row ∷ o.rows; fault = o.fault }
