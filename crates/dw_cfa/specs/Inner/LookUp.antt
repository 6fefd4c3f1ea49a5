-- What a look-up keeps, in the words of the machine.
use Rattle.std.specs.Prelude.{ℕ, [], None}
use Rattle.dw_row.specs.Rows.{Rules, blank}
use Rattle.dw_cfa.specs.declared.machine.Machine.{Machine}

-- behind an initial row, with this row, at this location, where no row is remembered
abbrev pub look_up_at : Rules → ℕ → Rules → ℕ → Machine
look_up_at initial limit row location =
    record { initial = initial; states = record { row = row; stack = []; first = None; kept = blank }; location = location; limit = limit }
