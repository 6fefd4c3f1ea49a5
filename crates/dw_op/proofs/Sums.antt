-- Where operations begin in their least spelling is the sum of what stands before them.
use Rattle.dw_op.specs.{declared.operation.Branch.TheVariants.{Bra, Skip}, Inner.Walk.one}
use Rattle.dw_op.specs.declared.op.Op.TheVariants as ops
use Rattle.dw_op.proofs.Words.{◌≡◌, ℕ, suc, ◌+◌, List, [], ◌∷◌, length, Option, Some, None, refl, sym, ap, subst, ◌∙◌, arith, inl, inr, cases_eq, eq-eqb, ne_eqb, length-fixed, Target, Op, Branch, Step, Plain, Jump, StepSpells, least_bytes}
use Rattle.dw_op.proofs.{Words.{least_spelling, blank_parts, branch_target, start, step_length, PlacedStep, plus, passed, goes_to, find_at, branch_to, op_of, resolve}, Lent.Blocks.{answered, first_of_all}, Lent.ReadingLaws.some_is}

-- where the operation of a number begins
abbrev pub begins : List (List ℕ) → Option ℕ → Option ℕ
begins parts None = None
begins parts (Some k) = Some (start parts k)

-- ---- a branch by the number of an operation, and the same by where that begins

pub record Alike (t : Target) (parts : List (List ℕ)) (op other : Op) : Type 0 where
  pub target : branch_target other ≡ begins parts (branch_target op)
  pub bytes : (bits : ℕ) → least_bytes t bits other ≡ least_bytes t bits op

jump_alike : (t : Target) (parts : List (List ℕ)) (branch : Branch) (o : Option ℕ) (op other : Op) → branch_to branch o ≡ Some op → branch_to branch (begins parts o) ≡ Some other → Alike t parts op other
unfolding least_bytes least_spelling
jump_alike t parts branch None op other e q = absurd cc
jump_alike t parts Bra (Some i) op other e q = rw (← some_is (ops.Bra i) op e, ← some_is (ops.Bra (start parts i)) other q) (record { target = refl; bytes = λ bits. refl })
jump_alike t parts Skip (Some i) op other e q = rw (← some_is (ops.Skip i) op e, ← some_is (ops.Skip (start parts i)) other q) (record { target = refl; bytes = λ bits. refl })

find_begins : (parts : List (List ℕ)) (find sum : ℕ → Option ℕ) (o : Option ℕ) → ((place : ℕ) → sum place ≡ begins parts (find place)) → find_at sum o ≡ begins parts (find_at find o)
find_begins parts find sum None h = refl
find_begins parts find sum (Some place) h = h place

pub alike : (t : Target) (parts : List (List ℕ)) (find sum : ℕ → Option ℕ) (at : ℕ) (step : Step) (part : List ℕ) (op other : Op) → ((place : ℕ) → sum place ≡ begins parts (find place)) → StepSpells t step part
    → op_of find at step ≡ Some op → op_of sum at step ≡ Some other → Alike t parts op other
alike t parts find sum at (Plain o) part op other h s e q =
    subst (λ (x : Op). Alike t parts x other) (some_is o op e)
    (subst (λ (x : Op). Alike t parts o x) (some_is o other q) (record { target = rw s.1 refl; bytes = λ bits. refl }))
alike t parts find sum at (Jump branch number) part op other h s e q =
    let goes = goes_to (at + 3) number in
    jump_alike t parts branch (find_at find goes) op other e (ap (λ (o : Option ℕ). branch_to branch o) (sym (find_begins parts find sum goes h)) ∙ q)

jump_never : (parts : List (List ℕ)) (branch : Branch) (o : Option ℕ) (op : Op) → branch_to branch o ≡ Some op → branch_to branch (begins parts o) ≡ None → ⊥
jump_never parts branch None op e q = cc
jump_never parts Bra (Some i) op e q = cc
jump_never parts Skip (Some i) op e q = cc

-- an operation that is found by a number is found by a sum
pub never_bad : (parts : List (List ℕ)) (find sum : ℕ → Option ℕ) (at : ℕ) (step : Step) (op : Op) → ((place : ℕ) → sum place ≡ begins parts (find place))
    → op_of find at step ≡ Some op → op_of sum at step ≡ None → ⊥
never_bad parts find sum at (Plain o) op h e q = cc
never_bad parts find sum at (Jump branch number) op h e q =
    let goes = goes_to (at + 3) number in
    jump_never parts branch (find_at find goes) op e (ap (λ (o : Option ℕ). branch_to branch o) (sym (find_begins parts find sum goes h)) ∙ q)

-- ---- sums

jump_len : (t : Target) (branch : Branch) (o : Option ℕ) (op : Op) → branch_to branch o ≡ Some op → 3 ≡ length (least_bytes t 0 op)
unfolding least_bytes least_spelling
jump_len t branch None op e = absurd cc
jump_len t Bra (Some i) op e = subst (λ (x : Op). 3 ≡ length (least_bytes t 0 x)) (some_is (ops.Bra i) op e) (omega (arith, length-fixed t.order 2 0))
jump_len t Skip (Some i) op e = subst (λ (x : Op). 3 ≡ length (least_bytes t 0 x)) (some_is (ops.Skip i) op e) (omega (arith, length-fixed t.order 2 0))

pub same_len : (t : Target) (find : ℕ → Option ℕ) (at : ℕ) (step : Step) (op : Op) → op_of find at step ≡ Some op → step_length t step ≡ length (least_bytes t 0 op)
same_len t find at (Plain o) op e = ap (λ (x : Op). length (least_bytes t 0 x)) (some_is o op e)
same_len t find at (Jump branch number) op e = jump_len t branch (find_at find (goes_to (at + 3) number)) op e

begins_more : (t : Target) (op : Op) (ops : List Op) (n : ℕ) (o : Option ℕ) → n ≡ length (least_bytes t 0 op) → plus n (begins (blank_parts t ops) o) ≡ begins (blank_parts t (op ∷ ops)) (plus 1 o)
begins_more t op ops n None e = refl
begins_more t op ops n (Some k) e = let one : 1 + k ≡ suc k = omega arith in rw (one, e) refl

-- the sum of least spellings before a place is where the operation begins that starts there
pub sums_are : (t : Target) (find : ℕ → Option ℕ) (items : List PlacedStep) (ops : List Op) (end place : ℕ) → resolve find items ≡ answered ops → passed (step_length t) items end place ≡ begins (blank_parts t ops) (passed one items end place)
sums_are t find [] ops end place e = elim (cases_eq place end) [
  | inl same ↦ rw (eq-eqb place end same) refl
  | inr ne ↦ rw (ne_eqb place end ne) refl
]
sums_are t find (item ∷ items) ops end place e = elim (cases_eq place item.at) [
  | inl same ↦ rw (eq-eqb place item.at same) refl
  | inr ne ↦
      let h = first_of_all item.at (op_of find item.at item.step) (resolve find items) ops e in
      rw (ne_eqb place item.at ne)
      (ap (λ (o : Option ℕ). plus (step_length t item.step) o) (sums_are t find items h.more end place h.rest)
      ∙ begins_more t h.op h.more (step_length t item.step) (passed one items end place) (same_len t find item.at item.step h.op h.first)
      ∙ ap (λ (l : List Op). begins (blank_parts t l) (plus 1 (passed one items end place))) (sym h.is))
]
