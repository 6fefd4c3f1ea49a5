-- The rows of a run: where they start, and that the last one that starts at or below an address holds the rules at that address.
use Rattle.dw_cfa.proofs.Words.{◌≡◌, ℕ, zero, suc, ◌<◌, ◌≤◌, Bool, true, false, cond, List, [], ◌∷◌, Option, Some, None, refl, sym, ap, ◌∙◌, subst, inl, inr, arith, cases_lt, le-leb, leb_tells, nat_tests, nat_le, nat_lt}
use Rattle.dw_cfa.proofs.Words.{map, Code, Instr, LocatedRow, Outcome, Placed, Refusal, Rules, State, LocationBackwards, SetLoc, Advance, RestoreState, onto, location_back, moves_location, after, popped, fde_fault}
use Rattle.dw_cfa.proofs.{Words.{here, row_if, fault_or, fde_rows, finished, row_then, last_at, NeverFalls, CountsFrom}, Lent.Forward.{Follows, Holds, after_follows}, Stops.{AllRun, all_run, refusal_of, refusal_or}}

abbrev pub instrs_of : List Placed → List Instr
instrs_of items = map (λ (p : Placed). p.instr) items

pub not_le : (m n : ℕ) → n < m → nat_le m n ≡ false
not_le m n lt = elim (leb_tells m n) [ inl p ↦ absurd (omega arith) | inr p ↦ p.0 ]

popped_stays : (s : State) (stack : List Rules) → (popped s stack).location ≡ s.location
popped_stays s [] = refl
popped_stays s (row ∷ stack) = refl

-- an instruction that is run moves the location forwards, or leaves it
pub forwards : (limit : ℕ) (initial : Rules) (i : Instr) (s : State) → fde_fault limit i s ≡ None → s.location ≤ (after initial i s).location
forwards limit initial (SetLoc a) s e = let told : cond (nat_lt a s.location) (Some LocationBackwards) None ≡ None = e in grind (arith, nat_tests)
forwards limit initial RestoreState s e = omega (arith, popped_stays s s.stack)
forwards limit initial i s e = omega arith

pub stays : (initial : Rules) (i : Instr) (s : State) → moves_location i ≡ false → (after initial i s).location ≡ s.location
stays initial (SetLoc a) s e = absurd cc
stays initial (Advance d) s e = absurd cc
stays initial RestoreState s e = popped_stays s s.stack
stays initial i s e = refl

-- ---- a run with no fault

fault_behind : (at : ℕ) (code : Option Code) (moves : Bool) (s : State) (next : Outcome) → (fault_or at code (row_if moves s next)).fault ≡ refusal_or at code next.fault
fault_behind at (Some code) moves s next = refl
fault_behind at None true s next = refl
fault_behind at None false s next = refl

pub run_refusal : (limit : ℕ) (initial : Rules) (items : List Placed) (fault : Option Refusal) (s : State)
    → (fde_rows limit initial items fault s).fault ≡ refusal_of (fde_fault limit) (after initial) items fault s
unfolding fde_rows
run_refusal limit initial [] None s = refl
run_refusal limit initial [] (Some r) s = refl
run_refusal limit initial (item ∷ items) fault s =
    let next = fde_rows limit initial items fault (after initial item.instr s) in
    fault_behind item.at (fde_fault limit item.instr s) (moves_location item.instr) s next
    ∙ ap (refusal_or item.at (fde_fault limit item.instr s)) (run_refusal limit initial items fault (after initial item.instr s))

pub none_refused : (limit : ℕ) (initial : Rules) (items : List Placed) (fault : Option Refusal) (s : State) → (fde_rows limit initial items fault s).fault ≡ None
    → AllRun (fde_fault limit) (after initial) items s × (fault ≡ None)
none_refused limit initial items fault s e = all_run (fde_fault limit) (after initial) items fault s (sym (run_refusal limit initial items fault s) ∙ e)

abbrev pub Gives : ℕ → Rules → List Placed → State → List LocatedRow → Type 0
Gives limit initial items s rows = fde_rows limit initial items None s ≡ record { rows = rows; fault = None }

pub gives_run : (limit : ℕ) (initial : Rules) (items : List Placed) (s : State) (rows : List LocatedRow) → Gives limit initial items s rows → AllRun (fde_fault limit) (after initial) items s
gives_run limit initial items s rows e = (none_refused limit initial items None s (ap (λ (o : Outcome). o.fault) e)).0

-- ---- where rows start, also of a run that is refused

pub record RowsFrom (low : ℕ) (o : Outcome) : Type 0 where
  pub falls : NeverFalls low o.rows
  pub first : (row : LocatedRow) (rest : List LocatedRow) → o.rows ≡ row ∷ rest → row.location ≡ low
  pub some : o ≡ finished → ⊥

lower : (low more : ℕ) (rows : List LocatedRow) → low ≤ more → NeverFalls more rows → NeverFalls low rows
lower low more [] le h = tt
lower low more (row ∷ rows) le h = (omega (arith, h.0), h.1)

pub refused_from : (low : ℕ) (r : Refusal) → RowsFrom low (record { rows = []; fault = Some r })
refused_from low r = record {
  falls = tt;
  first = λ row rest e. absurd cc;
  some = λ e. let fault = ap (λ (o : Outcome). o.fault) e in absurd cc;
}

row_from : (row : LocatedRow) (next : Outcome) → NeverFalls row.location next.rows → RowsFrom row.location (row_then row next)
row_from row next h = record {
  falls = (omega arith, h);
  first = λ other rest e. let same : row ≡ other = cc in sym (ap (λ (x : LocatedRow). x.location) same);
  some = λ e. let rows = ap (λ (o : Outcome). o.rows) e in absurd cc;
}

on_fault : (at : ℕ) (code : Option Code) (next : Outcome) (low : ℕ) → (code ≡ None → RowsFrom low next) → RowsFrom low (fault_or at code next)
on_fault at None next low f = f refl
on_fault at (Some code) next low f = refused_from low (record { code = code; at = at })

on_row : (moves : Bool) (s : State) (next : Outcome) → (moves ≡ true → NeverFalls s.location next.rows) → (moves ≡ false → RowsFrom s.location next) → RowsFrom s.location (row_if moves s next)
on_row true s next f g = row_from (here s) next (f refl)
on_row false s next f g = g refl

pub rows_from : (limit : ℕ) (initial : Rules) (items : List Placed) (fault : Option Refusal) (s : State) → RowsFrom s.location (fde_rows limit initial items fault s)
unfolding fde_rows
rows_from limit initial [] None s = row_from (here s) finished tt
rows_from limit initial [] (Some r) s = refused_from s.location r
rows_from limit initial (item ∷ items) fault s =
    let behind = after initial item.instr s in
    let next = fde_rows limit initial items fault behind in
    let rest = rows_from limit initial items fault behind in
    on_fault item.at (fde_fault limit item.instr s) (row_if (moves_location item.instr) s next) s.location
    (λ ok. on_row (moves_location item.instr) s next (λ moves. lower s.location behind.location next.rows (forwards limit initial item.instr s ok) rest.falls)
    (λ stay. subst (λ (n : ℕ). RowsFrom n next) (stays initial item.instr s stay) rest))

pub never_falls : (limit : ℕ) (initial : Rules) (items : List Placed) (s : State) (rows : List LocatedRow) (low : ℕ) → low ≤ s.location → Gives limit initial items s rows → NeverFalls low rows
never_falls limit initial items s rows low le e = lower low s.location rows le (subst (λ (o : Outcome). NeverFalls s.location o.rows) e (rows_from limit initial items None s).falls)

-- no row starts at or below a where the location has passed it
pub none_at : (a : ℕ) (low : ℕ) (rows : List LocatedRow) → a < low → NeverFalls low rows → last_at a rows ≡ None
none_at a low [] past h = refl
none_at a low (row ∷ rows) past h = rw (none_at a row.location rows (omega (arith, past, h.0)) h.1, not_le row.location a (omega (arith, past, h.0))) refl

pub last_from : (a low : ℕ) (rows : List LocatedRow) (row : Rules) → NeverFalls low rows → last_at a rows ≡ Some row → low ≤ a
last_from a low rows row h is = elim (cases_lt a low) [ inl below ↦ (let none = none_at a low rows below h in absurd cc) | inr from ↦ from ]

-- ---- the instructions that count

module _ (begin a : ℕ) where
  pub counts_rest : (i : Instr) (earlier instrs : List Instr) (k : ℕ) → location_back begin earlier ≤ a
      → CountsFrom begin earlier (i ∷ instrs) a (suc k) → CountsFrom begin (i ∷ earlier) instrs a k
  counts_rest i earlier instrs k le h = record {
    in_program = let in_program = h.in_program in omega arith;
    stays = λ j lt. h.stays (suc j) (omega arith);
    greatest = λ n lt all. let most : suc n ≤ suc k = h.greatest (suc n) (omega arith) (λ j. both n all j) in omega arith;
  }
    where
      both : (n : ℕ) → ((j : ℕ) → j ≤ n → location_back begin (onto (i ∷ earlier) instrs j) ≤ a) → (j : ℕ) → j ≤ suc n → location_back begin (onto earlier (i ∷ instrs) j) ≤ a
      both n all zero lt = le
      both n all (suc j) lt = all j (omega arith)

  -- the first instruction counts where the location after it is at most a
  pub first_counts : (i : Instr) (earlier instrs : List Instr) (k : ℕ) → location_back begin earlier ≤ a → location_back begin (i ∷ earlier) ≤ a
      → CountsFrom begin earlier (i ∷ instrs) a k → 1 ≤ k
  first_counts i earlier instrs k le le' h = h.greatest 1 (omega arith) both
    where
      both : (j : ℕ) → j ≤ 1 → location_back begin (onto earlier (i ∷ instrs) j) ≤ a
      both zero lt = le
      both (suc zero) lt = le'
      both (suc (suc j)) lt = absurd (omega arith)

-- ---- the row of an address

module _ (initial : Rules) (begin a : ℕ) where
  -- the row of a, which holds what looking back from the last instruction that counts gives
  abbrev pub RowAt : List Instr → List Instr → ℕ → List LocatedRow → Type 0
  RowAt earlier instrs k rows = (row : Rules) × (last_at a rows ≡ Some row) × Holds initial (onto earlier instrs k) 0 row

  -- a row that ends there or not, before a's row or at it
  row_later : (moves : Bool) (s : State) (next : Outcome) (row : Rules) → last_at a next.rows ≡ Some row → last_at a (row_if moves s next).rows ≡ Some row
  row_later true s next row e = rw e refl
  row_later false s next row e = e

  row_here : (moves : Bool) (s : State) (next : Outcome) → (moves ≡ false → ⊥) → s.location ≤ a → last_at a next.rows ≡ None → last_at a (row_if moves s next).rows ≡ Some s.row
  row_here true s next moved le none = rw (none, le-leb s.location a le) refl
  row_here false s next moved le none = absurd (moved refl)

  pub rows_run : (limit : ℕ) (items : List Placed) (earlier : List Instr) (s : State) (k : ℕ) → Follows initial begin earlier s → s.location ≤ a
      → CountsFrom begin earlier (instrs_of items) a k → AllRun (fde_fault limit) (after initial) items s → RowAt earlier (instrs_of items) k (fde_rows limit initial items None s).rows
  unfolding fde_rows
  rows_run limit [] earlier s zero follows le counts run = (s.row, rw (le-leb s.location a le) refl, follows.row)
  rows_run limit [] earlier s (suc k) follows le counts run = absurd (omega (arith, counts.in_program))
  rows_run limit (item ∷ items) earlier s zero follows le counts run =
      let behind = after initial item.instr s in
      let next = after_follows initial begin item.instr earlier s limit follows run.0 in
      let past : a < behind.location = elim (cases_lt a behind.location) [
        | inl past ↦ past
        | inr within ↦ absurd (omega (arith, first_counts begin a item.instr earlier (instrs_of items) 0 (omega (arith, follows.location)) (omega (arith, next.location, within)) counts))
      ] in
      let rest = fde_rows limit initial items None behind in
      let none = none_at a behind.location rest.rows past (rows_from limit initial items None behind).falls in
      rw run.0 (s.row, row_here (moves_location item.instr) s rest (λ same. let put = stays initial item.instr s same in absurd (omega arith)) le none, follows.row)
  rows_run limit (item ∷ items) earlier s (suc k) follows le counts run =
      let behind = after initial item.instr s in
      let next = after_follows initial begin item.instr earlier s limit follows run.0 in
      let within : location_back begin (item.instr ∷ earlier) ≤ a = counts.stays 1 (omega arith) in
      let some = rows_run limit items (item.instr ∷ earlier) behind k next (omega (arith, next.location)) (counts_rest begin a item.instr earlier (instrs_of items) k (omega (arith, follows.location)) counts) run.1 in
      rw run.0 (some.0, row_later (moves_location item.instr) s (fde_rows limit initial items None behind) some.0 some.1, some.2)

  pub rows_at : (limit : ℕ) (items : List Placed) (earlier : List Instr) (s : State) (k : ℕ) (rows : List LocatedRow) → Follows initial begin earlier s → s.location ≤ a
      → CountsFrom begin earlier (instrs_of items) a k → Gives limit initial items s rows → RowAt earlier (instrs_of items) k rows
  rows_at limit items earlier s k rows follows le counts e =
      subst (λ (o : Outcome). RowAt earlier (instrs_of items) k o.rows) e (rows_run limit items earlier s k follows le counts (gives_run limit initial items s rows e))
