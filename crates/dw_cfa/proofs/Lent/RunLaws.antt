-- The two halves of a run, and where its rows start.
use Rattle.dw_cfa.proofs.Words.{ℕ, Result, Ok, Err, Factors, Input, Machine, Outcome, Refusal, Rules, address_limit}
use Rattle.dw_cfa.proofs.{Words.{blank, begun, placed, initial_row, on_initial, rows_left, run_rows, state_of}, Lent.RowsAt.{RowsFrom, refused_from, rows_from}}
pub use Rattle.dw_cfa.proofs.Lent.Listings.{placed_program, program_placed}

-- ---- where the next row of a machine starts

on_initial_from : (r : Result Rules Refusal) (go : Rules → Outcome) (low : ℕ) → ((initial : Rules) → RowsFrom low (go initial)) → RowsFrom low (on_initial r go)
on_initial_from (Ok initial) go low h = h initial
on_initial_from (Err r) go low h = refused_from low r

pub run_from : (f : Factors) (cie fde : Input) (begin : ℕ) → RowsFrom begin (run_rows f cie fde begin)
unfolding run_rows
run_from f cie fde begin = on_initial_from (initial_row (placed f cie) blank) _ begin (λ initial. rows_from (address_limit fde.target.size) initial (placed f fde).items (placed f fde).fault (begun initial begin))

pub left_from : (f : Factors) (i : Input) (m : Machine) → RowsFrom m.location (rows_left f i m)
unfolding rows_left
left_from f i m = rows_from m.limit m.initial (placed f i).items (placed f i).fault (state_of m)
