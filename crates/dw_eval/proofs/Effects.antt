-- What an operation does: a jump goes to the target that it names, numbers stay below 2 ^ N, and what a fault asks for is missing.
use Rattle.std.proofs.lemmas.Nat.{mod_below}
use Rattle.dw_eval.specs.{Space.AreInSpace, Wanted.IsMissing}
use Rattle.dw_eval.proofs.Words.{◌≡◌, ◌⊎◌, ℕ, ℤ, zero, suc, ◌+◌, ◌%◌, ◌<◌, ◌≤◌, Bool, true, false, List, [], ◌∷◌, length, Option, Some, None, Result, Ok, Err, refl, subst, inl, inr, arith, slice_get, nat_eq, if◌then◌else◌, slice_get_within, Target}
use Rattle.dw_eval.proofs.Words.{Size, Four, Eight, address_limit, Op, Dup, Drop, Over, Pick, Swap, Rot, Div, Mod, Bra, Skip, Breg, Fbreg, Nop}
use Rattle.dw_eval.proofs.Words.{PushObjectAddress, CallFrameCfa, StackValue, branch_target, InRange, AllInRange, TargetWithin, modulo_below, Kind, StackUnderflow, DivideByZero, NoRegister, Unreadable, NoFrameBase, NoCfa}
use Rattle.dw_eval.proofs.Words.{NoObject, Context, read_at, OpEffect, Next, Jump, Faults, on_top, on_two, on_three, known, push, push_signed, tell, effect, leads, State, value_step}
use Rattle.std.specs.List.{AllByRecursion}

limit_positive : (size : Size) → 1 < address_limit size
limit_positive Four = omega arith
limit_positive Eight = omega arith

picked : (size : Size) (stack : List ℕ) (i v : ℕ) → AreInSpace size stack → slice_get stack i ≡ Some v → v < address_limit size
picked size [] i v h e = absurd (cc)
picked size (t ∷ below) zero v h e = let same : t ≡ v = cc in let most = h.0 in omega (arith, same, most)
picked size (t ∷ below) (suc i) v h e = picked size below i v h.1 e

module _ (c : Context) where
  abbrev pub InSpace : List ℕ → Type 0
  InSpace stack = AreInSpace c.target.size stack

  -- of an operation with this target, on a stack of which something may be known
  abbrev pub Tells : Option ℕ → Type 0 → OpEffect → Type 0
  Tells target Known (Next stack) = Known → InSpace stack
  Tells target Known (Jump j stack) = (target ≡ Some j) × (Known → InSpace stack)
  Tells target Known (Faults kind) = IsMissing c kind

  top_tells : (target : Option ℕ) (stack : List ℕ) (f : ℕ → List ℕ → OpEffect) → ((t : ℕ) (below : List ℕ) → Tells target (InSpace (t ∷ below)) (f t below)) → Tells target (InSpace stack) (on_top stack f)
  top_tells target [] f h = tt
  top_tells target (t ∷ below) f h = h t below

  two_tell : (stack : List ℕ) (f : ℕ → ℕ → List ℕ → OpEffect) → ((s t : ℕ) (below : List ℕ) → Tells None (InSpace (t ∷ s ∷ below)) (f s t below)) → Tells None (InSpace stack) (on_two stack f)
  two_tell (t ∷ s ∷ below) f h = h s t below
  two_tell stack f h = tt

  rot_tells : (stack : List ℕ) → Tells None (InSpace stack) (on_three stack (λ third s t below. Next (s ∷ third ∷ t ∷ below)))
  rot_tells (t ∷ s ∷ third ∷ below) = λ h. (h.1.0, (h.1.1.0, (h.0, h.1.1.1)))
  rot_tells stack = tt

  known_tells : (Known : Type 0) (kind : Kind) (o : Option ℕ) (f : ℕ → OpEffect) → (o ≡ None → IsMissing c kind) → ((v : ℕ) → Tells None Known (f v)) → Tells None Known (known kind o f)
  known_tells Known kind None f none h = none refl
  known_tells Known kind (Some v) f none h = h v

  pick_tells : (stack : List ℕ) (i : ℕ) (o : Option ℕ) → slice_get stack i ≡ o → Tells None (InSpace stack) (known StackUnderflow o (λ v. Next (v ∷ stack)))
  pick_tells stack i None e = tt
  pick_tells stack i (Some v) e = λ h. (picked c.target.size stack i v h e, h)

  pushed : (v : ℕ) (below : List ℕ) → InSpace below → InSpace (v % address_limit c.target.size ∷ below)
  pushed v below h = (mod_below v (address_limit c.target.size) (omega (arith, limit_positive c.target.size)), h)

  top_pushes : (f : ℕ → ℕ) (stack : List ℕ) → Tells None (InSpace stack) (on_top stack (λ t below. push c.target.size (f t) below))
  top_pushes f stack = top_tells _ stack _ (λ t below h. pushed (f t) below h.1)

  top_pushes_signed : (f : ℕ → ℤ) (stack : List ℕ) → Tells None (InSpace stack) (on_top stack (λ t below. push_signed c.target.size (f t) below))
  top_pushes_signed f stack = top_tells _ stack _ (λ t below h. (modulo_below c.target.size (f t), h.1))

  two_push : (f : ℕ → ℕ → ℕ) (stack : List ℕ) → Tells None (InSpace stack) (on_two stack (λ s t below. push c.target.size (f s t) below))
  two_push f stack = two_tell stack _ (λ s t below h. pushed (f s t) below h.1.1)

  two_push_signed : (f : ℕ → ℕ → ℤ) (stack : List ℕ) → Tells None (InSpace stack) (on_two stack (λ s t below. push_signed c.target.size (f s t) below))
  two_push_signed f stack = two_tell stack _ (λ s t below h. (modulo_below c.target.size (f s t), h.1.1))

  reads : (stack : List ℕ) (k : ℕ) → Tells None (InSpace stack) (on_top stack (λ t below. known (Unreadable t k) (read_at c t k) (λ v. push c.target.size v below)))
  reads stack k = top_tells _ stack _ (λ t below. known_tells _ (Unreadable t k) (read_at c t k) _ (λ none. none) (λ v h. pushed v below h.1))

  told : (b : Bool) (s t : ℕ) (below : List ℕ) → Tells None (InSpace (t ∷ s ∷ below)) (tell b below)
  told true s t below = λ h. (limit_positive c.target.size, h.1.1)
  told false s t below = λ h. (omega (arith, limit_positive c.target.size), h.1.1)

  compares : (f : ℕ → ℕ → Bool) (stack : List ℕ) → Tells None (InSpace stack) (on_two stack (λ s t below. tell (f s t) below))
  compares f stack = two_tell stack _ (λ s t below. told (f s t) s t below)

  unless_zero : (Known : Type 0) (b : Bool) (o : OpEffect) → Tells None Known o → Tells None Known (if b then Faults DivideByZero else o)
  unless_zero Known true o h = tt
  unless_zero Known false o h = h

  branches : (b : Bool) (i t : ℕ) (below : List ℕ) → Tells (Some i) (InSpace (t ∷ below)) (if b then Next below else Jump i below)
  branches true i t below = λ h. h.1
  branches false i t below = (refl, λ h. h.1)

  pub effect_tells : (op : Op) (stack : List ℕ) → Tells (branch_target op) (InSpace stack) (effect c op stack)
  effect_tells Dup stack = top_tells _ stack _ (λ t below h. (h.0, h))
  effect_tells Drop stack = top_tells _ stack _ (λ t below h. h.1)
  effect_tells Over stack = two_tell stack _ (λ s t below h. (h.1.0, h))
  effect_tells (Pick i) stack = pick_tells stack i (slice_get stack i) refl
  effect_tells Swap stack = two_tell stack _ (λ s t below h. (h.1.0, (h.0, h.1.1)))
  effect_tells Rot stack = rot_tells stack
  effect_tells Div stack = two_tell stack _ (λ s t below. unless_zero _ (nat_eq (t % address_limit c.target.size) 0) _ (λ h. (modulo_below c.target.size _, h.1.1)))
  effect_tells Mod stack = two_tell stack _ (λ s t below. unless_zero _ (nat_eq t 0) _ (λ h. pushed _ below h.1.1))
  effect_tells (Bra i) stack = top_tells _ stack _ (λ t below. branches (nat_eq t 0) i t below)
  effect_tells (Skip i) stack = (refl, λ h. h)
  effect_tells (Breg r n) stack = known_tells _ (NoRegister r) (c.register r) _ (λ none. none) (λ v h. (modulo_below c.target.size _, h))
  effect_tells (Fbreg n) stack = known_tells _ NoFrameBase c.frame_base _ (λ none. none) (λ v h. (modulo_below c.target.size _, h))
  effect_tells Nop stack = λ h. h
  effect_tells PushObjectAddress stack = known_tells _ NoObject c.object _ (λ none. none) (λ v. pushed v stack)
  effect_tells CallFrameCfa stack = known_tells _ NoCfa c.cfa _ (λ none. none) (λ v. pushed v stack)
  effect_tells StackValue stack = top_tells _ stack _ (λ t below. tt)
  effect_tells op stack = search (pushed, top_pushes, top_pushes_signed, two_push, two_push_signed, compares, reads)

  -- ---- steps

  -- of the state that a step leads to, or of its fault
  abbrev pub StepTells : {S : Type 0} → (S → Type 0) → Result S Kind → Type 0
  StepTells Holds (Ok s) = Holds s
  StepTells Holds (Err kind) = IsMissing c kind

  pub leads_tells : {S : Type 0} (Holds : S → Type 0) (at : ℕ → List ℕ → S) (i : ℕ) (op : Op) (stack : List ℕ) (o : OpEffect) → Tells (branch_target op) (InSpace stack) o
      → ((j : ℕ) (new : List ℕ) → (j ≡ i + 1) ⊎ (branch_target op ≡ Some j) → (InSpace stack → InSpace new) → Holds (at j new)) → StepTells Holds (leads at i o)
  leads_tells Holds at i op stack (Next new) h holds = holds (i + 1) new (inl refl) h
  leads_tells Holds at i op stack (Jump j new) h holds = holds j new (inr h.0) h.1
  leads_tells Holds at i op stack (Faults kind) h holds = h

-- an index after one operation lies in the list, or at its end
pub led_within : (len i j : ℕ) (target : Option ℕ) → (j ≡ i + 1) ⊎ (target ≡ Some j) → i < len → TargetWithin len target → j ≤ len
led_within len i j target (inl e) lt within = omega (arith, e, lt)
led_within len i j None (inr e) lt within = absurd (cc)
led_within len i j (Some k) (inr e) lt within = let same : k ≡ j = cc in omega (arith, same, within)

pub in_range_at : (t : Target) (len : ℕ) (ops : List Op) (k : ℕ) (op : Op) → AllByRecursion (InRange t len) ops → slice_get ops k ≡ Some op → InRange t len op
in_range_at t len [] k op h e = absurd (cc)
in_range_at t len (first ∷ ops) zero op h e =
    let same : first ≡ op = cc in
    let P : Op → Type 0 = InRange t len in
    subst P same h.0
in_range_at t len (first ∷ ops) (suc k) op h e = in_range_at t len ops k op h.1 e

abbrev pub ValueLeads : Context → Op → State → State → Type 0
ValueLeads c op s s' = ((len : ℕ) → s.index < len → TargetWithin len (branch_target op) → s'.index ≤ len) × (InSpace c s.stack → InSpace c s'.stack)

pub value_tells : (c : Context) (op : Op) (s : State) → StepTells c (ValueLeads c op s) (value_step c op s)
value_tells c op s = leads_tells c (ValueLeads c op s) _ s.index op s.stack (effect c op s.stack) (effect_tells c op s.stack) (λ j new goes keeps. (λ len lt within. led_within len s.index j (branch_target op) goes lt within, keeps))

-- an operation in range leads to an operation or to the end
pub value_stays : (c : Context) (ops : List Op) → AllInRange c.target ops → (op : Op) (s s' : State) → slice_get ops s.index ≡ Some op → value_step c op s ≡ Ok s' → s'.index ≤ length ops
value_stays c ops range op s s' stands goes =
    (subst (StepTells c (ValueLeads c op s)) goes (value_tells c op s)).0 (length ops) (slice_get_within ops s.index op stands) (in_range_at c.target (length ops) ops s.index op range stands).within_list
