-- What the values of columns are over a memory.
use Rattle.std.proofs.Common.{rules}
use Rattle.std.specs.Prelude.{IsOkAnd}
use Rattle.dw_frame.proofs.Words.{◌≡◌, ◌⊎◌, ℕ, ◌<◌, ◌≤◌, List, Option, Some, Result, Ok, Err, MatchResult, refl, ap, subst, true, arith, inl, inr}
use Rattle.dw_frame.proofs.Words.{Expression, EvalError, Context, Evaluates, MayFailAt, Column, UnwindError, Eval, Device, OutOfMemory, in_column, recovered, ValueIs, ValueFails, Over, is_device}
use Rattle.dw_eval.specs.declared.error.EvalError.TheVariants as eval
use Rattle.dw_eval.specs.declared.error.Kind.TheVariants as kinds

-- what is known of an evaluation over a memory
pub record Tells (c : Context) (limit : ℕ) (e : Expression) (first : List ℕ) (before after : ℕ) (r : Result ℕ EvalError) : Type 0 where
  pub counted : before ≤ after
  pub answered : after ≡ before → (r ≡ Err eval.OutOfMemory) ⊎ Evaluates e.ops c first limit r
  pub failed : before < after → (i : ℕ) × (r ≡ Err (eval.Fault kinds.Device i)) × MayFailAt e.ops c first limit i
  pub device : (i : ℕ) → r ≡ Err (eval.Fault kinds.Device i) → before < after

module _ (c : Context) (limit : ℕ) (column : Column) (e : Expression) (first : List ℕ) (before after : ℕ) where
  -- the count stays where no failure is answered
  stays : (r : Result ℕ EvalError) → Tells c limit e first before after r → ((i : ℕ) → r ≡ Err (eval.Fault kinds.Device i) → ⊥) → after ≡ before
  stays r t other = search rules

  told : (r : Result ℕ EvalError) → Tells c limit e first before after r → ((i : ℕ) → r ≡ Err (eval.Fault kinds.Device i) → ⊥) → (r ≡ Err eval.OutOfMemory → ⊥) → ValueIs c limit column e first (in_column column r) × (after ≡ before)
  told r t other some = search (rules, stays)

  pub value_over : (r : Result ℕ EvalError) → Tells c limit e first before after r → Over (ValueIs c limit column e first) (ValueFails c limit column first e) before (in_column column r) after
  value_over (Ok v) t = told (Ok v) t (λ i p. absurd cc) (λ p. absurd cc)
  value_over (Err (eval.Fault kinds.Device i)) t = search rules
  value_over (Err (eval.Fault kind i)) t = told (Err (eval.Fault kind i)) t (λ j p. absurd cc) (λ p. absurd cc)
  value_over (Err eval.OutOfMemory) t = stays (Err eval.OutOfMemory) t (λ i p. absurd cc)

-- an error that ends a larger answer
pub over_error : {A B : Type 0} (P : Result A UnwindError → Type 0) (Q : Result B UnwindError → Type 0) (F G : UnwindError → Type 0) → ((e : UnwindError) → P (Err e) → Q (Err e)) → ((e : UnwindError) → F e → G e)
    → (before : ℕ) (e : UnwindError) (after : ℕ) → Over P F before (Err e) after → Over Q G before (Err e) after
over_error P Q F G f g before OutOfMemory after h = h
over_error P Q F G f g before (Device column) after h = (g (Device column) h.0, h.1)
over_error P Q F G f g before (Eval kinds.Device i column) after h = (g (Eval kinds.Device i column) h.0, h.1)
over_error P Q F G f g before e after h = (f e h.0, h.1)

mapped : (r : Result ℕ UnwindError) (answer : Result (Option ℕ) UnwindError) → MatchResult r (λ v. IsOkAnd answer (λ o. o ≡ Some v)) (λ e. answer ≡ Err e) → answer ≡ recovered r
mapped (Ok v) (Ok o) h = ap Ok h
mapped (Ok v) (Err e) h = absurd h
mapped (Err e) answer h = h

-- a register that is recovered
module _ (P : Result ℕ UnwindError → Type 0) (Q : Result (Option ℕ) UnwindError → Type 0) (F G : UnwindError → Type 0)
    (f : (r : Result ℕ UnwindError) → P r → Q (recovered r)) (g : (e : UnwindError) → F e → G e) (before after : ℕ) where
  recovers : (r : Result ℕ UnwindError) → Over P F before r after → Over Q G before (recovered r) after
  recovers (Ok v) h = (f (Ok v) h.0, h.1)
  recovers (Err e) h = over_error P Q F G (λ x p. f (Err x) p) g before e after h

  pub over_recovered : (r : Result ℕ UnwindError) (answer : Result (Option ℕ) UnwindError) → MatchResult r (λ v. IsOkAnd answer (λ o. o ≡ Some v)) (λ e. answer ≡ Err e) → Over P F before r after → Over Q G before answer after
  over_recovered r answer m h = rw (mapped r answer m) (recovers r h)

pub over_answered : {A : Type 0} (P : Result A UnwindError → Type 0) (F : UnwindError → Type 0) (before : ℕ) (r : Result A UnwindError) (after : ℕ) → Over P F before r after → after ≡ before → (r ≡ Err OutOfMemory) ⊎ P r
over_answered P F before (Err OutOfMemory) after h e = inl refl
over_answered P F before (Err (Device column)) after h e = absurd (omega (arith, h.1))
over_answered P F before (Err (Eval kinds.Device i column)) after h e = absurd (omega (arith, h.1))
over_answered P F before r after h e = inr h.0

module _ {A : Type 0} (P : Result A UnwindError → Type 0) (F : UnwindError → Type 0) (before : ℕ) where
  pub over_failed : (r : Result A UnwindError) (after : ℕ) → Over P F before r after → before < after → (e : UnwindError) × (r ≡ Err e) × (is_device e ≡ true) × F e
  over_failed (Err OutOfMemory) after h grew = absurd (omega (arith, h, grew))
  over_failed (Err (Device column)) after h grew = (Device column, refl, refl, h.0)
  over_failed (Err (Eval kinds.Device i column)) after h grew = (Eval kinds.Device i column, refl, refl, h.0)
  over_failed r after h grew = absurd (omega (arith, h.1, grew))

  grows : (e : UnwindError) (after : ℕ) → Over P F before (Err e) after → is_device e ≡ true → before < after
  grows (Device column) after h is = h.1
  grows (Eval kinds.Device i column) after h is = h.1
  grows e after h is = absurd cc

  pub over_device : (r : Result A UnwindError) (after : ℕ) → Over P F before r after → (e : UnwindError) → r ≡ Err e → is_device e ≡ true → before < after
  over_device r after h e same is = grows e after (subst (λ (x : Result A UnwindError). Over P F before x after) same h) is
