use Rattle.dw_cfa.proofs.Words.{◌||◌, [], ◌∷◌, false, ap, sym, ◌∙◌, arith, lacks_from, Outcome, Rules, rows_left, ◌≡◌, ℕ, Bool, true, List, Option, None, refl, Factors}
use Rattle.dw_cfa.proofs.{Words.{Input, LocatedRow, Machine, Refusal, is_unset, leaves_one, row_then, RanTo, here, state_of}, Lent.RunLaws.left_from, RunSteps.rows_end}
use Rattle.dw_cfa.proofs.coverage.lacks_rule.Goals as goal

or_more : (x y z : Bool) → (x || (y || z)) ≡ ((x || y) || z)
or_more true y z = refl
or_more false y z = refl

-- where no row came before, it does not matter where it would start
any_low : (end low other : ℕ) (rows : List LocatedRow) → lacks_from end low false rows ≡ lacks_from end other false rows
any_low end low other [] = refl
any_low end low other (row ∷ rows) = refl

module _ (f : Factors) (i : Input) (m : Machine) (j : Input) (m' : Machine) (moved : RanTo f i m true j m') (end : ℕ) (lacks : Bool) where
  -- a row that ends is asked, and those that are left are still to be asked
  lacks_moved : (rows_left f j m').fault ≡ None
      → (lacks || lacks_from end 0 false (rows_left f i m).rows) ≡ ((lacks || leaves_one end m.location (is_unset m'.states.row.cfa) m'.location) || lacks_from end 0 false (rows_left f j m').rows)
  lacks_moved none =
      let ended : rows_left f i m ≡ row_then (here (state_of m)) (rows_left f j m') = moved.rows in
      ap (λ (o : Outcome). lacks || lacks_from end 0 false o.rows) ended
      ∙ ap (λ (row : Rules). lacks || lacks_from end m.location (is_unset row.cfa) (rows_left f j m').rows) (sym (moved.same_row refl))
      ∙ go (rows_left f j m').rows refl
    where
      go : (rows : List LocatedRow) → (rows_left f j m').rows ≡ rows
          → (lacks || lacks_from end m.location (is_unset m'.states.row.cfa) rows) ≡ ((lacks || leaves_one end m.location (is_unset m'.states.row.cfa) m'.location) || lacks_from end 0 false rows)
      go [] e = absurd ((left_from f j m').some (ap (λ (rows : List LocatedRow). let p : Outcome = record { rows = rows; fault = (rows_left f j m').fault } in p) e ∙ ap (λ (fault : Option Refusal). let p : Outcome = record { rows = []; fault = fault } in p) none))
      go (row ∷ rest) e =
          ap (λ (n : ℕ). lacks || (leaves_one end m.location (is_unset m'.states.row.cfa) n || lacks_from end row.location (is_unset row.row.cfa) rest)) ((left_from f j m').first row rest e)
          ∙ or_more lacks (leaves_one end m.location (is_unset m'.states.row.cfa) m'.location) (lacks_from end row.location (is_unset row.row.cfa) rest)

pub returns-clause-found : goal.returns-clause-found
returns-clause-found c =
    let l = c.instrs in
    let last = rows_end c.args.factors l.cursor l.machine (omega arith) in
    let none = ap (λ (o : Outcome). o.fault) last in (
      l.invariant.4 ∙ none,
      λ low. c.lacks_at_last.ensures
          ∙ ap (λ (row : Rules). l.lacks || lacks_from c.args.end 0 false (record { location = l.low; row = row } ∷ [])) c.row-2.ensures
          ∙ ap (λ (n : ℕ). l.lacks || lacks_from c.args.end 0 false (record { location = n; row = l.machine.states.row } ∷ [])) l.invariant.1
          ∙ ap (λ (o : Outcome). l.lacks || lacks_from c.args.end 0 false o.rows) (sym last) ∙ l.invariant.5 none
          ∙ any_low c.args.end 0 low (rows_left c.args.factors c.args.cursor.now c.args.machine.now).rows,
    )

pub instrs-preserved : goal.instrs-preserved
instrs-preserved c =
    let l = c.instrs in
    let f = c.args.factors in
    let j = c.turn_machine.new.cursor in
    let m = c.turn_machine.new.machine in
    let moved = c.in-Moved.ensures.turned in (
      moved.so,
      refl,
      c.in-Moved.ensures.same.0 ∙ l.invariant.2,
      c.in-Moved.ensures.same.1 ∙ l.invariant.3,
      l.invariant.4 ∙ ap (λ (o : Outcome). o.fault) moved.rows,
      λ none. cc (c.lacks_now-lacks.ensures, c.row.ensures, l.invariant.1, lacks_moved f l.cursor l.machine j m moved c.args.end l.lacks none, l.invariant.5 (ap (λ (o : Outcome). o.fault) moved.rows ∙ none)),
    )
