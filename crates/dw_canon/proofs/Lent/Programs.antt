-- The program of a member runs without a fault, and its rows are the member's changes.
use Rattle.dw_cfa.specs.Runs.{Outcome}
use Rattle.dw_cfa.specs.Inner.Runs.{here}
use Rattle.dw_canon.proofs.Words.{rules, ◌≡◌, ℕ, zero, suc, ◌-◌, ◌<◌, ◌≤◌, ◌^◌, Bool, true, false, List, [], ◌∷◌, ◌++◌, map, replicate, Option, None, refl, sym, ap, ◌∙◌, subst, arith, nat_lt}
use Rattle.dw_canon.proofs.Words.{le-ltb, append_assoc, append-nil, Member, changes_of, fde_instrs, Target, Instr, Nop, LocatedRow, moves_location, State, after, fde_fault, Rules, Placed, row_if}
use Rattle.dw_canon.proofs.{Words.{fault_or, fde_rows, instrs_of, Gives, move, difference, later_changes, RowFits, RowStands, ChangesStand}, Lent.Differences.{Quiet, on, no_half, difference_quiet}}

-- ---- the machine over instructions without their places

-- no fault stands against any of them
abbrev pub NoFaults : ℕ → Rules → List Instr → State → Type 0
NoFaults limit initial [] s = Unit {0}
NoFaults limit initial (i ∷ instrs) s = (fde_fault limit i s ≡ None) × NoFaults limit initial instrs (after initial i s)

abbrev pub row_before : Bool → State → List LocatedRow → List LocatedRow
row_before true s rows = here s ∷ rows
row_before false s rows = rows

abbrev pub plain_rows : Rules → List Instr → State → List LocatedRow
plain_rows initial [] s = here s ∷ []
plain_rows initial (i ∷ instrs) s = row_before (moves_location i) s (plain_rows initial instrs (after initial i s))

next_row : (at : ℕ) (moves : Bool) (s : State) (code : Option _) (next : Outcome) (rows : List LocatedRow) → code ≡ None → next ≡ record { rows = rows; fault = None }
    → fault_or at code (row_if moves s next) ≡ record { rows = row_before moves s rows; fault = None }
next_row at true s code next rows none e = rw (none, e) refl
next_row at false s code next rows none e = rw (none, e) refl

-- they give their rows
pub plain_gives : (limit : ℕ) (initial : Rules) (items : List Placed) (s : State) → NoFaults limit initial (instrs_of items) s → Gives limit initial items s (plain_rows initial (instrs_of items) s)
unfolding fde_rows
plain_gives limit initial [] s h = refl
plain_gives limit initial (item ∷ items) s h = grind (arith, plain_gives limit initial items (after initial item.instr s) h.1)

pub quiet_faults : (limit : ℕ) (initial : Rules) (xs ys : List Instr) (s s' : State) → Quiet limit initial xs s s' → NoFaults limit initial ys s' → NoFaults limit initial (xs ++ ys) s
quiet_faults limit initial [] ys s s' q h = subst (NoFaults limit initial ys) (sym q) h
quiet_faults limit initial (x ∷ xs) ys s s' q h = (q.1, quiet_faults limit initial xs ys (after initial x s) s' q.2 h)

pub quiet_rows : (limit : ℕ) (initial : Rules) (xs ys : List Instr) (s s' : State) → Quiet limit initial xs s s' → plain_rows initial (xs ++ ys) s ≡ plain_rows initial ys s'
quiet_rows limit initial [] ys s s' q = ap (plain_rows initial ys) q
quiet_rows limit initial (x ∷ xs) ys s s' q = rw q.0 (quiet_rows limit initial xs ys (after initial x s) s' q.2)

-- ---- nops

pub nops_quiet : (limit : ℕ) (initial row : Rules) (at n : ℕ) → Quiet limit initial (replicate n Nop) (on row at) (on row at)
nops_quiet limit initial row at zero = refl
nops_quiet limit initial row at (suc n) = (refl, no_half Nop row.cfa refl, nops_quiet limit initial row at n)

-- ---- the changes

abbrev pub located : ℕ × Rules → LocatedRow
located change = record { location = change.0; row = change.1 }

module _ (limit : ℕ) (initial row : Rules) (at to : ℕ) (less : at < to) (within : to ≤ limit) where
  move_kind : (b : Bool) → nat_lt (to - at) (2 ^ 32) ≡ b → (fde_fault limit (move at to) (on row at) ≡ None) × (moves_location (move at to) ≡ true) × (after initial (move at to) (on row at) ≡ on row to)
  move_kind true e = search rules
  move_kind false e = rw e (rw (le-ltb to at (omega arith)) refl, refl, refl)

pub below_end : (t : Target) (initial : Rules) (end at : ℕ) (row : Rules) (changes : List (ℕ × Rules)) → ChangesStand t initial end at row changes → at < end
below_end t initial end at row [] h = h
below_end t initial end at row (change ∷ changes) h = let more = below_end t initial end change.0 change.1 changes h.3 in omega (arith, h.0)

-- a run that has no fault and gives these rows
abbrev pub RunsTo : ℕ → Rules → List Instr → State → List LocatedRow → Type 0
RunsTo limit initial instrs s rows = NoFaults limit initial instrs s × (plain_rows initial instrs s ≡ rows)

pub quiet_runs : (limit : ℕ) (initial : Rules) (xs ys : List Instr) (s s' : State) (rows : List LocatedRow) → Quiet limit initial xs s s' → RunsTo limit initial ys s' rows → RunsTo limit initial (xs ++ ys) s rows
quiet_runs limit initial xs ys s s' rows q h = (quiet_faults limit initial xs ys s s' q h.0, quiet_rows limit initial xs ys s s' q ∙ h.1)

module _ (t : Target) (limit : ℕ) (initial : Rules) (fits : RowFits t initial) (n : ℕ) where
  nops_run : (row : Rules) (at : ℕ) → RunsTo limit initial (replicate n Nop) (on row at) (located (at, row) ∷ [])
  nops_run row at = subst (λ (xs : List Instr). RunsTo limit initial xs (on row at) (located (at, row) ∷ [])) (append-nil (replicate n Nop))
      (quiet_runs limit initial (replicate n Nop) [] (on row at) (on row at) (located (at, row) ∷ []) (nops_quiet limit initial row at n) (tt, refl))

  -- the rest of a program, behind a row at an address
  pub later_run : (at : ℕ) (row : Rules) (changes : List (ℕ × Rules)) (end : ℕ) → end ≤ limit → RowFits t row → ChangesStand t initial end at row changes
      → RunsTo limit initial (later_changes initial at row changes ++ replicate n Nop) (on row at) (located (at, row) ∷ map located changes)
  later_run at row [] end le stands h = nops_run row at
  later_run at row (change ∷ changes) end le stands h =
      let below = below_end t initial end change.0 change.1 changes h.3 in
      let m = move_kind limit initial row at change.0 h.0 (omega arith) (nat_lt (change.0 - at) (2 ^ 32)) refl in
      let q = difference_quiet t initial row change.1 fits stands h.2.fits limit change.0 (λ e. absurd (h.2.set e)) in
      let rest = later_run change.0 change.1 changes end le h.2.fits h.3 in
      let more = quiet_runs limit initial (difference initial row change.1) (later_changes initial change.0 change.1 changes ++ replicate n Nop) (on row change.0) (on change.1 change.0) (located change ∷ map located changes) q rest in
      let whole = subst (λ (xs : List Instr). RunsTo limit initial xs (on row change.0) (located change ∷ map located changes)) (sym (append_assoc (difference initial row change.1) (later_changes initial change.0 change.1 changes) (replicate n Nop))) more in
      let there = subst (λ (s : State). RunsTo limit initial ((difference initial row change.1 ++ later_changes initial change.0 change.1 changes) ++ replicate n Nop) s (located change ∷ map located changes)) (sym m.2) whole in
      ((m.0, there.0), rw m.1 (ap (λ (rows : List LocatedRow). located (at, row) ∷ rows) there.1))

  -- the program of a member, with nops behind it
  pub member_runs : (m : Member) → m.end ≤ limit → RowStands t initial m.first → ChangesStand t initial m.end m.begin m.first m.later
      → RunsTo limit initial (fde_instrs initial m ++ replicate n Nop) (on initial m.begin) (map located (changes_of m))
  member_runs m le first later =
      let q = difference_quiet t initial initial m.first fits fits first.fits limit m.begin (λ e. absurd (first.set e)) in
      let rest = later_run m.begin m.first m.later m.end le first.fits later in
      let more = quiet_runs limit initial (difference initial initial m.first) (later_changes initial m.begin m.first m.later ++ replicate n Nop) (on initial m.begin) (on m.first m.begin) (map located (changes_of m)) q rest in
      subst (λ (xs : List Instr). RunsTo limit initial xs (on initial m.begin) (map located (changes_of m))) (sym (append_assoc (difference initial initial m.first) (later_changes initial m.begin m.first m.later) (replicate n Nop))) more
