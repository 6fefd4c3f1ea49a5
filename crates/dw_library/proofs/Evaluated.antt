-- The fault of an expression, as it is told.
use Rattle.dw_library.proofs.Words.{◌≡◌, ◌⊎◌, ℕ, List, Some, Result, Err, subst, inl, inr, Target, not_refused, Machine}
use Rattle.dw_op.specs.{declared.op.Op.Op, declared.profile.Profile.TheVariants.Location, Faults.IsBlock}
use Rattle.dw_eval.specs.declared.error.{EvalError.EvalError, EvalError.TheVariants.{Fault as Faults, OutOfMemory}, Kind.Kind}
use Rattle.dw_library.specs.{declared.evaluation.Context.Context, Evaluation.{IsEvaluated, Told, ValueOf, fault_at}}

pub fault_told : (target own : Target) (block : List ℕ) (ops : List Op) (c : Context) (m : Machine) (t : Told) (kind : Kind) (i : ℕ) (e : EvalError) (r : Result ℕ EvalError)
    → own ≡ target → IsBlock Location target ops block → e ≡ Faults kind i → r ≡ Err e → ((r ≡ Err OutOfMemory) ⊎ ValueOf own ops c m r)
    → t ≡ record { status = 6; value = 0; refusal = not_refused; fault = fault_at kind i } → IsEvaluated (Some target) block c m t
fault_told target own block ops c m t kind i e r same spells is why (inl short) told = absurd cc
fault_told target own block ops c m t kind i e r same spells is why (inr has) told =
    let whole : r ≡ Err (Faults kind i) = cc in
    inl (ops, spells, inr (kind, i, subst (λ (x : Target). ValueOf x ops c m (Err (Faults kind i))) same (subst (ValueOf own ops c m) whole has), told))
