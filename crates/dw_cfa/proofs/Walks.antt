-- A walk from one FDE's program to another's, behind a CIE's row that is run or brought back.
use Rattle.dw_cfa.specs.{RowSteps.{Advances}, Inner.RowWalk.{AllSpecify, GoesOn, LeadsSame, ReadAlike}}
use Rattle.dw_cfa.proofs.Words.{◌≡◌, ◌⊎◌, ℕ, Bool, true, false, Option, Some, None, Ok, Result, Err, refl, sym, ap, subst, ◌∙◌, inl, inr, ◌↔◌, IsTrue, MatchOption, AreBytes, Factors, Input, Leading, Machine, Outcome, Progress, ReadError}
use Rattle.dw_cfa.proofs.Words.{Refuses, Rules, Stepping, Target, ProgramSpells, blank, fails, finished, RunsSo, initial_row, placed, rows_left, program_input, kept, StandsOn, AreLeft, HasInitial, WalksSo, initial_of, led_of, led_row}
use Rattle.dw_cfa.proofs.{Words.{led_rows, walk_of}, Lent.{FaultLaws.initial_leaves, Given.{leaves_to, refusal_weaker, to_leaves}, RowsAt.RowsFrom, RunLaws.{left_from, run_from}}, RunSteps.run_stuck}
use Rattle.dw_cfa.specs.declared.next_row.Progress.TheVariants as progress

-- ---- the CIE's half

-- of equal programs at other places the row is the same
pub initial_elsewhere : (f : Factors) (i j : Input) (row : Rules) → AreBytes i.bytes → i.bytes ≡ j.bytes → i.target ≡ j.target → initial_row (placed f i) blank ≡ Ok row → initial_row (placed f j) blank ≡ Ok row
initial_elsewhere f i j row bytes same target is =
    let here = initial_leaves f i row bytes is in
    let program : ProgramSpells j.target f here.0 j.bytes = subst (λ (t : Target). ProgramSpells t f here.0 j.bytes) target (subst (ProgramSpells i.target f here.0) same here.1.program) in
    sym (to_leaves f j (subst AreBytes same bytes) (Ok row) (here.0, record { program = program; kept = here.1.kept; cfa = here.1.cfa; rules = here.1.rules; listed = here.1.listed }))

pub same_led : (l k : Leading) → AreBytes l.program.bytes.now → ReadAlike l k → LeadsSame l k
same_led l k bytes alike m has =
    initial_elsewhere k.factors (program_input l.program l.target) (program_input k.program k.target) m.initial bytes alike.0 alike.1
    (subst (λ (f : Factors). initial_row (placed f (program_input l.program l.target)) blank ≡ Ok m.initial) alike.2 has)

-- it is refused where that one is
pub led_stuck : (l : Leading) (fde : Input) (begin : ℕ) (e : ReadError) → Refuses (λ r. led_row l ≡ Err r) e → Refuses (λ r. led_rows l fde begin ≡ fails r) e
led_stuck l fde begin e stuck = refusal_weaker e _ _ (λ r is. (run_stuck l.factors (program_input l.program l.target) fde begin r is).0) stuck

-- ---- the FDE's half

-- ---- where the next row starts

pub walk_from : (p : Progress) (l : Leading) (fde : Input) (m : Machine) (s : Stepping) → (p ≡ progress.Begun) ⊎ (p ≡ progress.Running) → walk_of p l fde m ≡ s → RowsFrom m.location s.outcome
walk_from progress.Begun l fde m s is e = subst (λ (x : Stepping). RowsFrom m.location x.outcome) e (run_from l.factors (program_input l.program l.target) fde m.location)
walk_from progress.Running l fde m s is e = subst (λ (x : Stepping). RowsFrom m.location x.outcome) e (left_from l.factors fde m)
walk_from p l fde m s is e = elim is [ inl e ↦ absurd cc | inr e ↦ absurd cc ]

-- ---- a row that is kept changes no row to come

abbrev pub with_kept : Machine → Rules → Machine
with_kept m kept = record { initial = m.initial; states = record { row = m.states.row; stack = m.states.stack; first = m.states.first; kept = kept }; location = m.location; limit = m.limit }

pub kept_walk : (p : Progress) (l : Leading) (fde : Input) (m : Machine) (kept : Rules) → walk_of p l fde (with_kept m kept) ≡ walk_of p l fde m
unfolding rows_left
kept_walk progress.Begun l fde m kept = refl
kept_walk p l fde m kept = refl

kept_so : (fde : Input) (m : Machine) (kept : Rules) → RunsSo m fde → RunsSo (with_kept m kept) fde
kept_so fde m kept h = record { limit = h.limit; within = h.within; first = h.first }

pub kept_walks : (p : Progress) (has : Bool) (l : Leading) (fde : Input) (m : Machine) (kept : Rules) → WalksSo p has l fde m → WalksSo p has l fde (with_kept m kept)
unfolding rows_left
kept_walks progress.Begun has l fde m kept h = record { stands = kept_so fde m kept h.stands; initial = h.initial; keeps = tt; left = h.left }
kept_walks progress.Running has l fde m kept h = record { stands = kept_so fde m kept h.stands; initial = h.initial; keeps = h.keeps; left = h.left }
kept_walks p has l fde m kept h = record { stands = h.stands; initial = h.initial; keeps = tt; left = h.left }

-- ---- the CIE's row, while the rows behind one are run

pub row_left : (l : Leading) (m m' : Machine) → AreBytes l.program.bytes.now → HasInitial l m → m'.initial ≡ m.initial → AreLeft l (Some m'.initial)
row_left l m m' bytes is same = subst (λ (r : Rules). AreLeft l (Some r)) (sym same) (leaves_to l.factors (program_input l.program l.target) bytes (Ok m.initial) is)

-- it is kept
pub left_kept : (l : Leading) (m : Machine) (kept : Rules) → AreBytes l.program.bytes.now → HasInitial l m → m.states.row ≡ m.initial → kept ≡ m.states.row → AreLeft l (Some kept)
left_kept l m kept bytes is row same = subst (λ (r : Rules). AreLeft l (Some r)) (sym (same ∙ row)) (row_left l m m bytes is refl)

-- behind the end of a row
pub goes_on_stands : (l : Leading) (fde : Input) (m : Machine) (p : Progress) (old : Outcome) (start : Option ℕ) → GoesOn old l.factors fde m p (Ok start) → AreLeft l (Some m.initial) → StandsOn (led_of l) (walk_of p l fde m).outcome (initial_of p m.initial)
goes_on_stands l fde m p old (Some start) (true, so, rows, is) h = rw is ((left_from l.factors fde m).some, h)
goes_on_stands l fde m p old (Some start) (false, so, rows, is) h = rw is refl
goes_on_stands l fde m p old None gives h = absurd gives

pub goes_on_so : (l : Leading) (k : Bool) (i j : Input) (m n : Machine) (p : Progress) (s : Option ℕ) → WalksSo progress.Running k l i m → n.initial ≡ m.initial → GoesOn (rows_left l.factors i m) l.factors j n p (Ok s) → WalksSo p k l j n
goes_on_so l k i j m n p (Some start) so same (true, runs, rows, is) =
    rw is (record { stands = runs; initial = rw same so.initial; keeps = subst (λ (r : Rules). AllSpecify r (rows_left l.factors j n).rows) (sym same) (rw rows at so.keeps).1; left = rw same so.left })
goes_on_so l k i j m n p (Some start) so same (false, runs, rows, is) = rw is (record { stands = runs.first; initial = rw same so.initial; keeps = tt; left = tt })
goes_on_so l k i j m n p None so same gives = absurd gives

-- an error is answered again
pub answered_again : (old : Stepping) (result : Result (Option ℕ) ReadError) (new : Stepping) → Advances old result new → (e : ReadError) → old.error ≡ Some e → result ≡ Err e
answered_again old (Ok None) new (ended, same) e is = let none = ap (λ (s : Stepping). s.error) ended in absurd cc
answered_again old (Ok (Some start)) new (none, more, rows) e is = absurd cc
answered_again old (Err f) new (is_f, over, inl same) e is = let both : Some f ≡ Some e = sym is_f ∙ ap (λ (s : Stepping). s.error) (sym same) ∙ is in cc
answered_again old (Err f) new (is_f, over, inr (none, refused)) e is = absurd cc

-- ---- whether what it specifies is known to be kept

abbrev pub KeptWhere : Stepping → Rules → Option Rules → Type 0
KeptWhere s row initial = MatchOption initial (s.outcome ≡ finished) (λ (r : Rules). kept row r ≡ row)

module _ (l : Leading) (fde : Input) (m : Machine) (s : Stepping) (initial : Option Rules) (row : Rules) where
  -- no row was gone on to
  pub begun_unknown : (p : Progress) → p ≡ progress.Begun → walk_of p l fde m ≡ s → initial_of p m.initial ≡ initial → IsTrue false ↔ KeptWhere s row initial
  begun_unknown p is e same =
      let none : None ≡ initial = ap (λ (q : Progress). initial_of q m.initial) (sym is) ∙ same in
      subst (λ (o : Option Rules). IsTrue false ↔ KeptWhere s row o) none ((λ t. absurd cc), λ all. absurd ((walk_from p l fde m s (inl is) e).some all))
