use Rattle.std.specs.Prelude.{IsErrAnd}
use Rattle.dw_unwind.specs.declared.by_index.UnwindAtError.TheVariants.{Unwind}
use Rattle.dw_unwind.proofs.Words.{◌≡◌, MatchResult, Ok, UnwindError, Result, Err, refl, sym, ap, subst, ◌∙◌, arith, inl, inr, Rules, UnwindAtError, Frame, NoFde, OutOfMemory, IsCovered, IsLed, by_index}
use Rattle.dw_unwind.proofs.by_index.unwind_at.Goals as goal

mapped : (r : Result Frame UnwindError) (answer : Result Frame UnwindAtError) → MatchResult r (λ f. answer ≡ Ok f) (λ e. IsErrAnd answer (λ u. u ≡ Unwind e)) → answer ≡ by_index r
mapped (Ok f) answer h = h
mapped (Err e) (Ok f) h = absurd h
mapped (Err e) (Err u) h = ap Err h

unmapped : (r : Result Frame UnwindError) (e : UnwindError) → by_index r ≡ Err (Unwind e) → r ≡ Err e
unmapped (Ok f) e same = absurd cc
unmapped (Err x) e same = cc

pub returns-in-Ok-clause-own : goal.returns-in-Ok-clause-own
returns-in-Ok-clause-own g c = λ t.
    let a = c.args in
    let register = c.in-Ok.returns in
    let row = c.row-row.result.now in
    let covered = subst (λ (x : Rules). IsCovered a.target a.bytes.now a.pc register x) (sym c.row-row.ensures) (c.in-Ok.ensures.own t) in
    let told = c.unwind_row.ensures in (
      c.unwind_row.result,
      (mapped c.unwind_row.result c.map_err.result c.map_err.ensures.cases),
      λ same. elim (told.answered same) [ inl short ↦ inl short | inr is ↦ inr (inr (register, row, covered, is)) ],
      λ grew. let f = told.failed grew in (f.0, f.1, (register, row, covered, f.3)),
    )

pub returns-in-Ok-clause-answered : goal.returns-in-Ok-clause-answered
returns-in-Ok-clause-answered g c = λ same.
    let a = c.args in
    let register = c.in-Ok.returns in
    let row = c.row-row.result.now in
    let led = subst (λ (x : Rules). IsLed a.target a.bytes.now a.index.now a.pc register x) (sym c.row-row.ensures) c.in-Ok.ensures.led in
    elim (c.unwind_row.ensures.answered same) [
      | inl short ↦ inl ((mapped c.unwind_row.result c.map_err.result c.map_err.ensures.cases) ∙ ap by_index short)
      | inr is ↦ inr (inr (register, row, led, (c.unwind_row.result, (mapped c.unwind_row.result c.map_err.result c.map_err.ensures.cases), is)))
    ]

pub returns-in-Ok-clause-failed : goal.returns-in-Ok-clause-failed
returns-in-Ok-clause-failed g c = λ grew.
    let a = c.args in
    let register = c.in-Ok.returns in
    let row = c.row-row.result.now in
    let led = subst (λ (x : Rules). IsLed a.target a.bytes.now a.index.now a.pc register x) (sym c.row-row.ensures) c.in-Ok.ensures.led in
    let f = c.unwind_row.ensures.failed grew in
    (f.0, (mapped c.unwind_row.result c.map_err.result c.map_err.ensures.cases) ∙ ap by_index f.1, f.2, (register, row, led, f.3))

pub returns-in-Err-clause-own : goal.returns-in-Err-clause-own
returns-in-Err-clause-own g c = λ t.
    elim (c.in-Err.ensures.own t) [
      | inl short ↦ (Err OutOfMemory, ap (λ (e : UnwindAtError). let r : Result Frame UnwindAtError = Err e in r) short, λ same. inl refl, λ grew. absurd (omega (arith, grew)))
      | inr none ↦ (Err NoFde, ap (λ (e : UnwindAtError). let r : Result Frame UnwindAtError = Err e in r) none.0, λ same. inr (inl (refl, none.1)), λ grew. absurd (omega (arith, grew)))
    ]

pub returns-in-Ok-clause-device : goal.returns-in-Ok-clause-device
returns-in-Ok-clause-device g c = λ e same. c.unwind_row.ensures.device e (unmapped c.unwind_row.result e (sym (mapped c.unwind_row.result c.map_err.result c.map_err.ensures.cases) ∙ same))
