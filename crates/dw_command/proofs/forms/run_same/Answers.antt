use Rattle.dw_command.proofs.{Words.{◌≤◌, Bool, Err, Failure, IfOk, List, Ok, Output, Prints, Result, arith, false, if◌then◌else◌, inl, inr, output_of, refl, true, ℕ, err_from_is_err_and, Keeps-refl}, Endings.compared}
use Rattle.dw_show.proofs.Lent.Endings.{lent, load_before}
use Rattle.dw_command.proofs.forms.run_same.Goals as goal

pub returns-in_err-second-clause-ends : goal.returns-in_err-second-clause-ends
returns-in_err-second-clause-ends g c =
    let p = err_from_is_err_and c.from_residual-in_err-second.result c.from_residual-in_err-second.ensures.1 in
    let second = load_before _ _ c.in_ok-first.ensures.same c.args.other.now (Err c.in_err-second.field-0.0) c.in_err-second.ensures.loads in
    rw (p.1, p.2) (inl (c.in_ok-first.first.items, c.in_ok-first.ensures.loads, inr (c.in_err-second.field-0.0, second, refl, Keeps-refl _)))

pub returns-in_err-is_same-clause-ends : goal.returns-in_err-is_same-clause-ends
returns-in_err-is_same-clause-ends g c =
    let p = err_from_is_err_and c.from_residual-in_err-is_same.result c.from_residual-in_err-is_same.ensures.1 in
    let first = lent (g.L.Load.gives c.args.files.now) c.args.path.now _ c.deref.result.now c.deref.ensures.value c.in_ok-first.ensures.loads in
    let second = lent (g.L.Load.gives c.args.files.now) c.args.other.now _ c.deref-2.result.now c.deref-2.ensures.value (c.in_ok-first.ensures.same c.args.other.now (Ok c.in_ok-second.second.items) c.in_ok-second.ensures.loads) in
    let told = compared c.args.target c.deref.result.now c.deref-2.result.now c.same.result (Err c.in_err-is_same.field-0.0) c.in_err-is_same.ensures.cases c.same.ensures.found c.same.ensures.fit c.same.ensures.refused in
    rw (p.1, p.2) (inl (c.deref.result.now, first, inl (c.deref-2.result.now, second, inr (c.in_err-is_same.field-0.0, told, refl, Keeps-refl _))))

pub returns-clause-ends : goal.returns-clause-ends
returns-clause-ends g c =
    let first = lent (g.L.Load.gives c.args.files.now) c.args.path.now _ c.deref.result.now c.deref.ensures.value c.in_ok-first.ensures.loads in
    let second = lent (g.L.Load.gives c.args.files.now) c.args.other.now _ c.deref-2.result.now c.deref-2.ensures.value (c.in_ok-first.ensures.same c.args.other.now (Ok c.in_ok-second.second.items) c.in_ok-second.ensures.loads) in
    let told = compared c.args.target c.deref.result.now c.deref-2.result.now c.same.result (Ok c.in_ok-is_same.is_same) c.in_ok-is_same.ensures.cases c.same.ensures.found c.same.ensures.fit c.same.ensures.refused in
    inl (c.deref.result.now, first, inl (c.deref-2.result.now, second, inl (c.in_ok-is_same.is_same, told, c.put_verdict.ensures)))

most_of : (old new : Output) (text : List ℕ) (b : Bool) (r : Result ℕ Failure) → Prints old new text (if b then 0 else 1) r → IfOk r (λ status. status ≤ 1)
most_of old new text true (Ok status) h = rw h.0 (omega arith)
most_of old new text false (Ok status) h = rw h.0 (omega arith)
most_of old new text b (Err e) h = tt

pub returns-clause-most : goal.returns-clause-most
returns-clause-most g c = most_of (output_of g.W.Write.contents c.args.out.now) (output_of g.W.Write.contents c.put_verdict.new.out) _ c.in_ok-is_same.is_same c.put_verdict.result c.put_verdict.ensures
