-- What a CIE's program specifies is specified in every row of its FDEs.
use Rattle.dw_row.proofs.Lent.{Narrowed.left_too, RowLists.Entry}
use Rattle.dw_cfa.proofs.Words.{◌≡◌, ℕ, Bool, List, [], ◌∷◌, Option, Some, None, refl, sym, ap, ◌∙◌, subst, arith, inl, inr, IsTrue, AllZip, AreBytes, Factors, Input, Instr, Leading, LocatedRow, Machine, Outcome, Progress, Refusal, RegRule}
use Rattle.dw_cfa.proofs.Words.{Rules, Stepping, is_kept, kept, IsRowAfter, GivesUpTo, ends, is_specified, rule, RunsSo, rows_behind, rows_left, program_input, AllKeep, AllSpecify, IsLed, WalkKeeps, WalksSo, finished, initial_of, walk_of}
use Rattle.dw_cfa.proofs.{Lent.{FaultLaws.initial_leaves, Given.behind_runs, Openings.{AllSet, all_set, stays_specified}}, RunSteps.started, Walks.{KeptWhere, row_left}}
use Rattle.dw_cfa.specs.declared.next_row.Progress.TheVariants as progress

-- ---- a run

rows_specify : (initial : Rules) (begin : ℕ) (instrs : List Instr) (ks : List ℕ) (rows : List LocatedRow) → AllSet instrs → AllZip (IsRowAfter initial begin instrs) ks rows → AllSpecify initial rows
rows_specify initial begin instrs [] [] all h = tt
rows_specify initial begin instrs (k ∷ ks) (row ∷ rows) all h = (
  λ r some. subst (λ (x : RegRule). IsTrue (is_specified x)) (sym (h.0.holds.rules r)) (stays_specified r (rule initial r) some instrs k all),
  rows_specify initial begin instrs ks rows all h.1,
)
rows_specify initial begin instrs ks rows all h = absurd assumption

module _ (f : Factors) (initial : Rules) (fde : Input) (begin : ℕ) where
  up_to_specifies : (fault : Option Refusal) (rows : List LocatedRow) → GivesUpTo f initial fde begin fault rows → AllSpecify initial rows
  up_to_specifies None rows g = rows_specify initial begin g.instrs (ends (0 ∷ []) g.instrs) rows (all_set fde.target f g.instrs fde.bytes g.program) g.each
  up_to_specifies (Some r) rows g =
      let all : AllSet g.instrs = elim g.fault.1 [ inl stuck ↦ all_set fde.target f g.instrs stuck.front stuck.read | inr b ↦ all_set fde.target f g.instrs b.front b.read ] in
      rows_specify initial begin g.instrs (ends [] g.instrs) rows all g.each

-- ---- a walk

-- behind a CIE's row that is run or brought back
pub led_keeps : (l : Leading) (fde : Input) (old m : Machine) → AreBytes l.program.bytes.now → AreBytes fde.bytes → RunsSo old fde → IsLed l old m → AllSpecify m.initial (rows_left l.factors fde m).rows
led_keeps l fde old m bytes fb so r =
    let listed = (initial_leaves l.factors (program_input l.program l.target) m.initial bytes r.initial).1.listed in
    let limit = r.limit ∙ so.limit in
    let same = started l.factors fde fde m m.initial m.location refl refl r.row r.none refl limit in
    let runs = behind_runs l.factors m.initial fde m.location fb listed (omega (arith, r.location, r.limit, so.within, limit)) in
    subst (λ (o : Outcome). AllSpecify m.initial o.rows) (sym same) (up_to_specifies l.factors m.initial fde m.location (rows_behind l.factors m.initial fde m.location).fault (rows_behind l.factors m.initial fde m.location).rows runs)

pub led_so : (l : Leading) (fde : Input) (old m : Machine) (kept : Bool) → AreBytes l.program.bytes.now → AreBytes fde.bytes → RunsSo old fde → IsLed l old m → WalksSo progress.Running kept l fde m
led_so l fde old m kept bytes fb so led = record {
  stands = record { limit = led.limit ∙ so.limit; within = omega (arith, led.location, led.limit, so.within); first = led.first };
  initial = λ _. led.initial;
  keeps = led_keeps l fde old m bytes fb so led;
  left = row_left l m m bytes led.initial refl;
}

-- ---- a row to keep

-- what the initial row specifies, all rows keep
pub all_keep : (row initial : Rules) (rows : List LocatedRow) → kept row initial ≡ row → AllSpecify initial rows → AllKeep row rows
all_keep row initial [] same h = tt
all_keep row initial (next ∷ rows) same h = (
  ap (λ (xs : List Entry). let r : Rules = record { cfa = row.cfa; registers = xs } in r)
      (left_too (is_kept initial.registers) (is_kept next.row.registers) row.registers (λ x e. h.0 x.0 e) (ap (λ (r : Rules). r.registers) same)),
  all_keep row initial rows same h.1,
)

pub walk_keeps : (p : Progress) (l : Leading) (fde : Input) (m : Machine) (s : Stepping) (row : Rules) → p ≡ progress.Running → walk_of p l fde m ≡ s → WalkKeeps p l fde m → kept row m.initial ≡ row → AllKeep row s.outcome.rows
walk_keeps p l fde m s row is e h same =
    let all = subst (λ (x : Progress). WalkKeeps x l fde m) is h in
    let here : rows_left l.factors fde m ≡ s.outcome = ap (λ (x : Progress). (walk_of x l fde m).outcome) (sym is) ∙ ap (λ (x : Stepping). x.outcome) e in
    subst (λ (o : Outcome). AllKeep row o.rows) here (all_keep row m.initial (rows_left l.factors fde m).rows same all)

-- whatever comes: the CIE's row specifies what a row does, or no row is to come
pub cie_keeps : (p : Progress) (l : Leading) (fde : Input) (m : Machine) (s : Stepping) (initial : Option Rules) (row : Rules) → walk_of p l fde m ≡ s → initial_of p m.initial ≡ initial → WalkKeeps p l fde m → KeptWhere s row initial → AllKeep row s.outcome.rows
cie_keeps progress.Running l fde m s initial row e same h all = walk_keeps progress.Running l fde m s row refl e h (subst (λ (o : Option Rules). KeptWhere s row o) (sym same) all)
cie_keeps p l fde m s initial row e same h all =
    let none : s.outcome ≡ finished = subst (λ (o : Option Rules). KeptWhere s row o) (sym same) all in
    subst (λ (o : Outcome). AllKeep row o.rows) (sym none) tt
