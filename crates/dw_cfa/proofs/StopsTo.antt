-- Where a run stops, as the code goes along.
use Rattle.dw_cfa.proofs.Words.{◌≡◌, ℕ, ◌≤◌, Bool, true, false, List, [], ◌∷◌, Option, Some, None, refl, ap, ◌∙◌, arith, Code, Factors, Input, Machine, Outcome, Placed, Refusal, Rules, State}
use Rattle.dw_cfa.proofs.{Words.{moves_location, fails, after, fde_fault, fault_or, fde_rows, fde_stop, placed, row_if, rows_left, stop_left, stop_or, state_of}, Lent.RowsAt.{forwards, stays}}

-- ---- not before the location where it is

or_later : (code : Option Code) (here next : ℕ) → (code ≡ None → here ≤ next) → here ≤ stop_or code here next
or_later (Some code) here next on = omega arith
or_later None here next on = on refl

stops_later : (limit : ℕ) (initial : Rules) (items : List Placed) (s : State) → s.location ≤ fde_stop limit initial items s
unfolding fde_stop
stops_later limit initial [] s = omega arith
stops_later limit initial (item ∷ items) s =
    let behind = after initial item.instr s in
    let rest = stops_later limit initial items behind in
    or_later (fde_fault limit item.instr s) s.location (fde_stop limit initial items behind) (λ ok. let on = forwards limit initial item.instr s ok in omega arith)

-- ---- and there, where no row ends before the fault

or_here : (code : Option Code) (at : ℕ) (moves : Bool) (s : State) (next : Outcome) (n : ℕ) → (fault_or at code (row_if moves s next)).rows ≡ [] → (moves ≡ false → next.rows ≡ [] → n ≡ s.location)
    → stop_or code s.location n ≡ s.location
or_here (Some code) at moves s next n e same = refl
or_here None at true s next n e same = absurd cc
or_here None at false s next n e same = same refl e

pub stops_here : (limit : ℕ) (initial : Rules) (items : List Placed) (fault : Option Refusal) (s : State) → (fde_rows limit initial items fault s).rows ≡ [] → fde_stop limit initial items s ≡ s.location
unfolding fde_rows fde_stop
stops_here limit initial [] fault s e = refl
stops_here limit initial (item ∷ items) fault s e =
    let behind = after initial item.instr s in
    let next = fde_rows limit initial items fault behind in
    or_here (fde_fault limit item.instr s) item.at (moves_location item.instr) s next (fde_stop limit initial items behind) e
    (λ stay none. stops_here limit initial items fault behind none ∙ stays initial item.instr s stay)

module _ (f : Factors) (i : Input) (m : Machine) where
  pub not_below : m.location ≤ stop_left f i m
  unfolding stop_left
  not_below = stops_later m.limit m.initial (placed f i).items (state_of m)

  pub refused_here : (r : Refusal) → rows_left f i m ≡ fails r → stop_left f i m ≡ m.location
  unfolding rows_left stop_left
  refused_here r e = stops_here m.limit m.initial (placed f i).items (placed f i).fault (state_of m) (ap (λ (o : Outcome). o.rows) e)
