-- A run up to the last row that starts at or below an address.
use Rattle.dw_cfa.proofs.Words.{◌≡◌, ℕ, ◌<◌, ◌≤◌, true, List, [], ◌∷◌, length, Some, None, refl, sym, ap, ◌∙◌, subst, le-leb, Factors, Input, LocatedRow, Machine, Outcome, Rules, or_here, last_at, row_then, RanTo, here, rows_left, state_of}
use Rattle.dw_cfa.proofs.{Lent.{RowsAt.none_at, RunLaws.left_from}, RunSteps.rows_end}

-- a row is the last one where no later one is
here_is : (a : ℕ) (first : LocatedRow) (rows : List LocatedRow) → first.location ≤ a → last_at a rows ≡ None → last_at a (first ∷ rows) ≡ Some first.row
here_is a first rows le none = rw (none, le-leb first.location a le) refl

-- ---- rows that start at or below an address

-- they were left behind
pub record Passed (a : ℕ) (old new : Outcome) : Type 0 where
  pub fault : new.fault ≡ old.fault
  pub last : (row : Rules) → last_at a new.rows ≡ Some row → last_at a old.rows ≡ Some row

one_passed : (a : ℕ) (old next : Outcome) (row : LocatedRow) → row.location ≤ a → Passed a old (row_then row next) → Passed a old next
one_passed a old next row le p = record { fault = p.fault; last = λ x e. p.last x (ap (or_here a row) e) }

module _ (f : Factors) (i : Input) (m : Machine) (a : ℕ) (old : Outcome) (p : Passed a old (rows_left f i m)) (le : m.location ≤ a) where
  -- an instruction that ends a row
  pub row_passed : (j : Input) (m' : Machine) → RanTo f i m true j m' → Passed a old (rows_left f j m')
  row_passed j m' moved = one_passed a old (rows_left f j m') (here (state_of m)) le (subst (Passed a old) moved.rows p)

  -- the next row starts above
  pub stops_above : (j : Input) (m' : Machine) → RanTo f i m true j m' → a < m'.location → last_at a old.rows ≡ Some m'.states.row
  stops_above j m' moved past =
      let next = rows_left f j m' in
      let ended : Passed a old (row_then (here (state_of m)) next) = subst (Passed a old) moved.rows p in
      ended.last m.states.row (here_is a (here (state_of m)) next.rows le (none_at a m'.location next.rows past (left_from f j m').falls)) ∙ ap Some (sym (moved.same_row refl))

  -- or there is none
  pub ends_above : length i.bytes ≡ 0 → last_at a old.rows ≡ Some m.states.row
  ends_above none = (subst (Passed a old) (rows_end f i m none) p).last m.states.row (here_is a (here (state_of m)) [] le refl)
