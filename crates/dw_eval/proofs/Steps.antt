-- What one operation of the code tells of a run.
use Rattle.dw_op.specs.Inner.Ranges.{Fits}
use Rattle.dw_eval.proofs.Words.{◌≡◌, ℕ, ◌+◌, ◌<◌, ◌≤◌, List, length, length-map, map, get_or, Some, Result, Ok, Err, refl, sym, ◌∙◌, ap, subst, inl, inr, arith, slice_get, Target, byte_count, Op, DerefSize, bare, bare_at, in_range_at, fits, AllInRange}
use Rattle.dw_eval.proofs.Words.{Context, EvalError, Fault, OutOfMemory, Kind, Device, StepLimit, Runs, OpEffect, leads, Does, Acts, StepsTo}
use Rattle.dw_eval.specs.Inner.Steps.{reached}
use Rattle.std.proofs.Math.Numerals.{suc-eq-add-one}
use Rattle.dw_eval.specs.{Inner.Runs.{Answered, Right, Short, Failed}, declared.stack.Flow.Flow, declared.stack.Stop.Stop}
use Rattle.dw_eval.specs.declared.stack.Flow.TheVariants as flow
use Rattle.dw_eval.specs.declared.stack.Stop.TheVariants as stop

-- an operation without memory is one over a memory that stays
pub acts_so : (outcome : OpEffect) (Read : Type 0) (before : ℕ) (result : Result Flow Stop) (stack : List ℕ) (after : ℕ) → Does outcome result stack → after ≡ before → Acts outcome Read before result stack after
acts_so outcome Read before (Ok flow.Next) stack after d e = (d, e)
acts_so outcome Read before (Ok (flow.Jump i)) stack after d e = (d, e)
acts_so outcome Read before (Err (stop.Fault kind)) stack after d e = (d, e)
acts_so outcome Read before (Err stop.Device) stack after d e = absurd d
acts_so outcome Read before (Err stop.OutOfMemory) stack after d e = e

-- where the answer of an operation leads, for any machine
pub acted : {S : Type 0} (at : ℕ → List ℕ → S) (outcome : OpEffect) (Read Told : Type 0) (told : Read → Told) (i before : ℕ) (answer : Result Flow Stop) (new : List ℕ) (after : ℕ) (result : Result ℕ EvalError) → Acts outcome Read before answer new after → result ≡ reached i answer
    → StepsTo (leads at i outcome) Told i before (λ n. at n new) result after
acted at outcome Read Told told i before answer new after result h e = rw e (of answer h)
  where
    of : (answer : Result Flow Stop) → Acts outcome Read before answer new after → StepsTo (leads at i outcome) Told i before (λ n. at n new) (reached i answer) after
    of (Ok flow.Next) h = (ap (leads at i) h.0, h.1)
    of (Ok (flow.Jump j)) h = (ap (leads at i) h.0, h.1)
    of (Err (stop.Fault kind)) h = (refl, inl (ap (leads at i) h.0, h.1))
    of (Err stop.Device) h = (refl, inr (refl, h.1, told h.0))
    of (Err stop.OutOfMemory) h = h

-- the size of a deref_size in range
pub access_at : (t : Target) (ops : List Op) (i : ℕ) (d : Op) → AllInRange t (map bare ops) → i < length ops → (len : ℕ) → get_or ops i d ≡ DerefSize len → (1 ≤ len) × (len ≤ byte_count t.size)
access_at t ops i d range lt len e =
    let P : Op → Type 0 = Fits t (length ops) in
    subst P e (fits t (length ops) (get_or ops i d) (in_range_at t ops i d range lt))

-- ---- a loop of steps, whatever the machine: in a context that stays, before operation i and after n steps
module _ {S A : Type 0} (index : S → ℕ) (step : Context → Op → S → Result S Kind) (reads : Context → Op → S → Type 0) (ending : ℕ → S → Result A EvalError) (c c' : Context) (ops : List Op) (start : S)
    (n i before mid : ℕ) (s : S) (d : Op) (same : c' ≡ c) (runs : Runs index (step c) (map bare ops) start n s) (at : index s ≡ i) (inside : i < length ops) (count : mid ≡ before) where
  -- the operation goes
  abbrev Goes : Context → ℕ → (ℕ → S) → Result ℕ EvalError → Type 0
  Goes x after state result = StepsTo (step x (bare (get_or ops i d)) s) (reads x (bare (get_or ops i d)) s) i mid state result after

  abbrev Answers : ℕ → Result A EvalError → ℕ → Type 0
  Answers limit result after = Answered index (step c) (map bare ops) start (reads c) (ending (length (map bare ops))) limit before result after

  stands : slice_get (map bare ops) (index s) ≡ Some (bare (get_or ops i d))
  stands = ap (slice_get (map bare ops)) at ∙ bare_at ops i d inside

  -- one step more
  pub step_more : (next after : ℕ) (state : ℕ → S) → ((op : Op) (s s' : S) → slice_get (map bare ops) (index s) ≡ Some op → step c op s ≡ Ok s' → index s' ≤ length (map bare ops)) → ((k : ℕ) → index (state k) ≡ k)
      → Goes c' after state (Ok next) → Runs index (step c) (map bare ops) start (n + 1) (state next) × (next ≤ length ops) × (after ≡ before)
  step_more next after state stays indexed h =
      let goes = subst (λ x. Goes x after state (Ok next)) same h in
      let most = stays (bare (get_or ops i d)) s (state next) stands goes.0 in
      let len : length (map bare ops) ≡ length ops = length-map ops bare in
      (subst (λ k. Runs index (step c) (map bare ops) start k (state next)) (suc-eq-add-one n) (s, bare (get_or ops i d), runs, stands, goes.0), omega (arith, most, len, indexed next), goes.1 ∙ count)

  stopped : (limit after : ℕ) (state : ℕ → S) (e : EvalError) → n < limit → Goes c after state (Err e) → Answers limit (Err e) after
  stopped limit after state OutOfMemory lt h = Short (h ∙ count) refl
  stopped limit after state (Fault kind j) lt h = elim h.1 [
    | inl w ↦ Right (w.1 ∙ count) (inr (inl (record {
      steps = n;
      state = s;
      operation = bare (get_or ops i d);
      kind = kind;
      below_limit = lt;
      run = runs;
      reached = stands;
      faults = w.0;
      gives = ap (λ k. Err (Fault kind k)) (h.0 ∙ sym at);
    })))
    | inr w ↦ Failed (omega (arith, w.1, count)) i (ap (λ k. Err (Fault k j)) w.0 ∙ ap (λ k. Err (Fault Device k)) h.0)
        (record { steps = n; state = s; operation = bare (get_or ops i d); below_limit = lt; run = runs; at = at; reached = bare_at ops i d inside; reads_memory = w.2 })
  ]

  -- a step that leads to an error ends the run
  pub step_stop : (limit after : ℕ) (state : ℕ → S) (e : EvalError) → n < limit → Goes c' after state (Err e) → Answers limit (Err e) after
  step_stop limit after state e lt h = stopped limit after state e lt (subst (λ x. Goes x after state (Err e)) same h)

  -- the limit
  pub step_limit : (limit : ℕ) → n ≡ limit → Answers limit (Err (Fault StepLimit i)) mid
  step_limit limit all =
      let len : length (map bare ops) ≡ length ops = length-map ops bare in
      Right count (inr (inr (record { state = s; run = subst (λ k. Runs index (step c) (map bare ops) start k s) all runs; before_end = omega (arith, at, inside, len); gives = ap (λ k. Err (Fault StepLimit k)) (sym at) })))
