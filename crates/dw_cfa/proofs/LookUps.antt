-- Both programs, by what a look-up keeps.
use Rattle.dw_cfa.proofs.{Lent.Given.refusal_weaker, RunSteps.{run_ran, run_stuck}, Words.err_from_is_err_and}
use Rattle.dw_cfa.proofs.Words.{◌≡◌, ℕ, Ok, refl, Factors, Input, Machine, Rules, address_limit, blank, initial_row, placed, run_rows, run_stop, rows_left, stop_left, look_up_at}

pub look_up_ran : (f : Factors) (cie fde : Input) (begin : ℕ) (row : Rules) (m : Machine) → initial_row (placed f cie) blank ≡ Ok row → m ≡ look_up_at row (address_limit fde.target.size) row begin
    → (rows_left f fde m ≡ run_rows f cie fde begin) × (stop_left f fde m ≡ run_stop f cie fde begin)
unfolding run_rows rows_left run_stop stop_left
look_up_ran f cie fde begin row m is began = (rw (is, began) refl, rw (is, began) refl)

-- how a run behind a CIE's program ends, in a machine and in a look-up
pub ruleset ends = (err_from_is_err_and, refusal_weaker, run_stuck, run_ran, look_up_ran)
