-- One instruction of a program, in the rows still to come.
use Rattle.dw_cfa.proofs.Words.{◌≡◌, ℕ, ◌<◌, List, [], length, Option, None, Some, Ok, Err, false, refl, sym, ap, ◌∙◌, subst, IsTrue, AreBytes, Code, Factors, Input, Instr, Leading, Machine, Refusal, RegRule, Rules, led_rows, program_input}
use Rattle.dw_cfa.proofs.Words.{State, address_limit, half_fault, SetLoc, Advance, moves_location, instr_at, blank, written, after, cie_fault, fde_fault, BeganWith, IsLed, state_of, IsAfter, placed, cie_run, initial_row, here, row_if}
use Rattle.dw_cfa.proofs.Words.{RememberState, Restore, RestoreState, fault_or, fde_rows, fde_stop, rows_left, rows_behind, run_rows, run_stop, stop_left, stop_or, RunsSo, RanTo, WroteTo, fails, finished, row_then, program_fault}
use Rattle.dw_cfa.proofs.{Lent.RowsAt.stays, Placings.{reads, placed_end, placed_step, placed_stuck}}

-- what stands against an instruction of an FDE's program
pub fde_is : (limit : ℕ) (i : Instr) (s : State) → program_fault false limit i s ≡ fde_fault limit i s
fde_is limit (SetLoc a) s = refl
fde_is limit i s = refl

-- an instruction that leaves the location and the remembered rows alone
pub settled : (i : Instr) (limit : ℕ) (s : State) (initial : Rules) → ((a : ℕ) → i ≡ SetLoc a → ⊥) → ((d : ℕ) → i ≡ Advance d → ⊥) → ((r : ℕ) → i ≡ Restore r → ⊥) → (i ≡ RememberState → ⊥) → (i ≡ RestoreState → ⊥)
    → (program_fault false limit i s ≡ half_fault i s.row.cfa) × (moves_location i ≡ false) × (after initial i s ≡ record { row = written i s.row; stack = s.stack; location = s.location })
settled (SetLoc a) limit s initial set advance restore remember recall = absurd (set a refl)
settled (Advance d) limit s initial set advance restore remember recall = absurd (advance d refl)
settled (Restore r) limit s initial set advance restore remember recall = absurd (restore r refl)
settled RememberState limit s initial set advance restore remember recall = absurd (remember refl)
settled RestoreState limit s initial set advance restore remember recall = absurd (recall refl)
settled i limit s initial set advance restore remember recall = (refl, refl, refl)

pub rows_end : (f : Factors) (i : Input) (m : Machine) → length i.bytes ≡ 0 → rows_left f i m ≡ row_then (here (state_of m)) finished
unfolding rows_left fde_rows
rows_end f i m none = rw (placed_end f i none) refl

pub rows_stuck : (f : Factors) (i : Input) (m : Machine) (r : Refusal) → 0 < length i.bytes → instr_at f i ≡ Err r → rows_left f i m ≡ fails r
unfolding rows_left fde_rows
rows_stuck f i m r some e = rw (placed_stuck f i r some e) refl

module _ (f : Factors) (i : Input) (m : Machine) (x : Instr × Input) (h : AreBytes i.bytes) (some : 0 < length i.bytes) (e : instr_at f i ≡ Ok x) where
  rows_then : rows_left f i m ≡ fault_or i.at (fde_fault m.limit x.0 (state_of m)) (row_if (moves_location x.0) (state_of m) (fde_rows m.limit m.initial (placed f x.1).items (placed f x.1).fault (after m.initial x.0 (state_of m))))
  unfolding rows_left fde_rows
  rows_then = rw (placed_step f i x h some e) refl

  stop_then : stop_left f i m ≡ stop_or (fde_fault m.limit x.0 (state_of m)) m.location (fde_stop m.limit m.initial (placed f x.1).items (after m.initial x.0 (state_of m)))
  unfolding stop_left fde_stop
  stop_then = rw (placed_step f i x h some e) refl

  pub rows_fault : (code : Code) → fde_fault m.limit x.0 (state_of m) ≡ Some code → rows_left f i m ≡ fails (record { code = code; at = i.at })
  rows_fault code is = rw (rows_then, is) refl

  same_row : (i : Instr) (s t : Machine) → state_of t ≡ after s.initial i (state_of s) → IsTrue (moves_location i) → t.states.row ≡ s.states.row
  same_row (SetLoc a) s t is moves = ap (λ (u : State). u.row) is
  same_row (Advance d) s t is moves = ap (λ (u : State). u.row) is
  same_row i s t is moves = absurd cc

  pub rows_ran : (m' : Machine) → RunsSo m i → IsAfter false m x.0 m' → RanTo f i m (moves_location x.0) x.1 m'
  unfolding rows_left stop_left
  rows_ran m' so behind =
      let read = reads f i x h e in
      let allowed = sym (fde_is m.limit x.0 (state_of m)) ∙ behind.allowed in
      record {
        so = record { limit = behind.limit ∙ so.limit ∙ ap (λ t. address_limit t.size) (sym read.target); within = behind.within; first = subst (λ (initial : Rules). BeganWith initial m'.states.first) (sym behind.initial) (subst (λ (first : Option (List (ℕ × RegRule))). BeganWith m.initial first) (sym behind.first) so.first) };
        shorter = read.shorter;
        rows = rows_then ∙ rw (allowed, behind.limit, behind.initial, behind.state) refl;
        same_row = same_row x.0 m m' behind.state;
        same_location = λ no. ap (λ (s : State). s.location) behind.state ∙ stays m.initial x.0 (state_of m) no;
        stop = stop_then ∙ rw (allowed, behind.limit, behind.initial, behind.state) refl;
      }

-- ---- a CIE's program

pub initial_end : (f : Factors) (i : Input) (row : Rules) → length i.bytes ≡ 0 → initial_row (placed f i) row ≡ Ok row
unfolding cie_run
initial_end f i row none = rw (placed_end f i none) refl

pub initial_stuck : (f : Factors) (i : Input) (row : Rules) (r : Refusal) → 0 < length i.bytes → instr_at f i ≡ Err r → initial_row (placed f i) row ≡ Err r
unfolding cie_run
initial_stuck f i row r some e = rw (placed_stuck f i r some e) refl

module _ (f : Factors) (i : Input) (row : Rules) (x : Instr × Input) (h : AreBytes i.bytes) (some : 0 < length i.bytes) (e : instr_at f i ≡ Ok x) where
  pub initial_fault : (code : Code) → cie_fault x.0 row ≡ Some code → initial_row (placed f i) row ≡ Err (record { code = code; at = i.at })
  unfolding cie_run
  initial_fault code is = rw (placed_step f i x h some e, is) refl

  pub initial_wrote : (row' : Rules) → cie_fault x.0 row ≡ None → row' ≡ written x.0 row → WroteTo f i row x.1 row'
  unfolding cie_run
  initial_wrote row' none new = record {
    shorter = (reads f i x h e).shorter;
    initial = rw (placed_step f i x h some e, none, new) refl;
  }

-- ---- a CIE's program, and then an FDE's

pub run_stuck : (f : Factors) (cie fde : Input) (begin : ℕ) (r : Refusal) → initial_row (placed f cie) blank ≡ Err r → (run_rows f cie fde begin ≡ fails r) × (run_stop f cie fde begin ≡ begin)
unfolding run_rows run_stop
run_stuck f cie fde begin r is = (rw is refl, rw is refl)

pub run_ran : (l : Leading) (fde : Input) (old m : Machine) → RunsSo old fde → IsLed l old m
    → (rows_left l.factors fde m ≡ led_rows l fde old.location) × (stop_left l.factors fde m ≡ run_stop l.factors (program_input l.program l.target) fde old.location)
unfolding run_rows rows_left run_stop stop_left
run_ran l fde old m so led = (rw (led.initial, led.row, led.none, led.location, led.limit ∙ so.limit) refl, rw (led.initial, led.row, led.none, led.location, led.limit ∙ so.limit) refl)

pub started : (f : Factors) (fde fde' : Input) (m : Machine) (initial : Rules) (begin : ℕ) → fde ≡ fde' → m.initial ≡ initial → m.states.row ≡ initial → m.states.stack ≡ [] → m.location ≡ begin
    → m.limit ≡ address_limit fde'.target.size → rows_left f fde m ≡ rows_behind f initial fde' begin
unfolding rows_left rows_behind
started f fde fde' m initial begin a i r none l n = rw (a, i, r, none, l, n) refl
