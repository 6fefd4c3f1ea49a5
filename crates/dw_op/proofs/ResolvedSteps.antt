-- Steps that are resolved are the operations that stand in a block.
use Rattle.dw_op.specs.declared.operation.Branch.TheVariants.{Bra, Skip}
use Rattle.dw_op.specs.declared.op.Op.TheVariants as ops
use Rattle.dw_op.proofs.Words.{◌≡◌, ℕ, ◌+◌, ◌≤◌, true, List, [], ◌∷◌, length, Option, Some, None, refl, sym, ap, subst, ◌∙◌, arith, w16, cast_unsigned, Target, Fixed, fixed_number, Input, ok_is, Op, Profile, Frame, Location, Branch, Step}
use Rattle.dw_op.proofs.{Words.{Plain, Jump, OpSpells, Code, AnyTwo, start, displacement, Displaced, Stands, branch_code, step_allowed, goes_to, find_at, branch_to, op_of, in_frame, op_allowed}, Branches.{goes_displaced, displaced_goes}}
use Rattle.dw_op.proofs.{Branches.{displaced_fixed, fixed_displaced, fixed_any, any_fixed, length-two}, Lent.ReadingLaws.some_is, Lent.Spellings.{by_table, in_table}, ReadingAgain.step_again, Splits.{Spelled, spelled, input}}

-- ---- one part, one step

-- one spelling is of one step
pub one_step : (profile : Profile) (t : Target) (step other : Step) (part : List ℕ) → Spelled profile t step part → Spelled profile t other part → step ≡ other
one_step profile t step other part h k =
    let a = step_again t profile step part h.spells h.allowed 0 [] in
    let b = step_again t profile other part k.spells k.allowed 0 [] in
    let x = input (0 + length part) [] t in
    ap (λ (z : Step × Input). z.0) (ok_is (step, x) (other, x) (sym a ∙ b))

pub as_location : (profile : Profile) (t : Target) (step : Step) (part : List ℕ) → Spelled profile t step part → Spelled Location t step part
as_location profile t step part h = record { spells = h.spells; allowed = refl; some = h.some }

pub plain_allows : (profile : Profile) (op : Op) → step_allowed profile (Plain op) ≡ op_allowed profile op
plain_allows Frame op = refl
plain_allows Location op = refl

-- what a frame's expression may hold is allowed
pub framed : (profile : Profile) (op : Op) → in_frame op ≡ true → op_allowed profile op ≡ true
framed Frame op e = e
framed Location op e = refl

pub any_code : (t : Target) (branch : Branch) (part : List ℕ) (h : Code (branch_code branch) AnyTwo part) → Spelled Location t (Jump branch (fixed_number t.order 2 h.rest)) part
any_code t branch part h = spelled Location t (Jump branch (fixed_number t.order 2 h.rest)) part (record { rest = h.rest; operands = any_fixed t.order h.rest h.operands; whole = h.whole }) refl

with_profile : (profile : Profile) (t : Target) (branch : Branch) (n : ℕ) (part : List ℕ) → Spelled Location t (Jump branch n) part → Spelled profile t (Jump branch n) part
with_profile Frame t branch n part h = record { spells = h.spells; allowed = refl; some = h.some }
with_profile Location t branch n part h = h

-- what spells an operation spells a step
pub part_step : (profile : Profile) (t : Target) (part : List ℕ) (op : Op) → OpSpells t op part → op_allowed profile op ≡ true → (step : Step) × Spelled profile t step part
part_step profile t part (ops.Bra i) h allowed = let c = by_table t (ops.Bra i) part h in (Jump Bra (fixed_number t.order 2 c.rest), with_profile profile t Bra (fixed_number t.order 2 c.rest) part (any_code t Bra part c))
part_step profile t part (ops.Skip i) h allowed = let c = by_table t (ops.Skip i) part h in (Jump Skip (fixed_number t.order 2 c.rest), with_profile profile t Skip (fixed_number t.order 2 c.rest) part (any_code t Skip part c))
part_step profile t part op h allowed = (Plain op, spelled profile t (Plain op) part (h, refl) (plain_allows profile op ∙ allowed))

-- ---- a step and the operation that it is resolved to

-- numbers that are found for places are those of the parts that begin there
pub record Finds (all : List (List ℕ)) (find : ℕ → Option ℕ) : Type 0 where
  pub found : (place k : ℕ) → find place ≡ Some k → (k ≤ length all) × (place ≡ start all k)
  pub back : (place k : ℕ) → k ≤ length all → place ≡ start all k → find place ≡ Some k

-- what a branch that is resolved says
pub record BranchTo (find : ℕ → Option ℕ) (branch : Branch) (end number : ℕ) (op : Op) : Type 0 where
  pub index : ℕ
  pub place : ℕ
  pub goes : goes_to end number ≡ Some place
  pub found : find place ≡ Some index
  pub is : branch_to branch (Some index) ≡ Some op

branch_says : (find : ℕ → Option ℕ) (branch : Branch) (end number : ℕ) (o : Option ℕ) (q : Option ℕ) (op : Op) → goes_to end number ≡ o → find_at find o ≡ q → branch_to branch q ≡ Some op → BranchTo find branch end number op
branch_says find branch end number o None op goes found e = let none : Option Op = None in let k : none ≡ Some op = e in absurd cc
branch_says find branch end number None (Some i) op goes found e = absurd cc
branch_says find branch end number (Some place) (Some i) op goes found e = record { index = i; place = place; goes = goes; found = found; is = e }

abbrev pub Placed : List (List ℕ) → ℕ → List ℕ → Type 0
Placed all k part = start all (k + 1) ≡ start all k + length part

pub jump_length : (t : Target) (branch : Branch) (n : ℕ) (part : List ℕ) → Code (branch_code branch) (Fixed t.order 2 n) part → length part ≡ 3
jump_length t branch n part h = let two = length-two t.order n h.rest h.operands in ap length h.whole ∙ omega arith

-- the displacement of a branch that is resolved
jump_displaced : (t : Target) (all : List (List ℕ)) (find : ℕ → Option ℕ) (k : ℕ) (branch : Branch) (n : ℕ) (op : Op) (part : List ℕ) (h : Code (branch_code branch) (Fixed t.order 2 n) part)
    → Finds all find → Placed all k part → (b : BranchTo find branch (start all k + 3) n op) → Displaced t.order all k (Some b.index) part
jump_displaced t all find k branch n op part h f placed b =
    let found = f.found b.place b.index b.found in
    let end : start all k + 3 ≡ start all (k + 1) = omega (arith, jump_length t branch n part h) in
    let goes : goes_to (start all (k + 1)) n ≡ Some (start all b.index) = subst (λ (p : ℕ). goes_to (start all (k + 1)) n ≡ Some p) found.1 (subst (λ (e : ℕ). goes_to e n ≡ Some b.place) end b.goes) in
    let d = goes_displaced (start all (k + 1)) n (start all b.index) (omega (arith, h.operands.fits)) goes in
    (found.0, branch_code branch, record { rest = h.rest; operands = fixed_displaced t.order n (displacement all k b.index) h.rest h.operands d.0 d.1; whole = h.whole })

-- a step that is resolved stands there as the operation
pub step_stands : (profile : Profile) (t : Target) (all : List (List ℕ)) (find : ℕ → Option ℕ) (k : ℕ) (step : Step) (op : Op) (part : List ℕ) → Finds all find → Spelled profile t step part → Placed all k part
    → op_of find (start all k) step ≡ Some op → Stands t all k op part × (op_allowed profile op ≡ true)
step_stands profile t all find k (Plain other) op part f h placed e =
    subst (λ (x : Op). Stands t all k x part × (op_allowed profile x ≡ true)) (some_is other op e)
    (record { spells = h.spells.0; displaced = subst (λ (o : Option ℕ). Displaced t.order all k o part) (sym h.spells.1) tt }, sym (plain_allows profile other) ∙ h.allowed)
step_stands profile t all find k (Jump Bra n) op part f h placed e =
    let b = branch_says find Bra (start all k + 3) n (goes_to (start all k + 3) n) (find_at find (goes_to (start all k + 3) n)) op refl refl e in
    subst (λ (x : Op). Stands t all k x part × (op_allowed profile x ≡ true)) (some_is (ops.Bra b.index) op b.is)
    (record { spells = in_table t (ops.Bra b.index) part (record { rest = h.spells.rest; operands = fixed_any t.order n h.spells.rest h.spells.operands; whole = h.spells.whole }); displaced = jump_displaced t all find k Bra n op part h.spells f placed b }, framed profile (ops.Bra b.index) refl)
step_stands profile t all find k (Jump Skip n) op part f h placed e =
    let b = branch_says find Skip (start all k + 3) n (goes_to (start all k + 3) n) (find_at find (goes_to (start all k + 3) n)) op refl refl e in
    subst (λ (x : Op). Stands t all k x part × (op_allowed profile x ≡ true)) (some_is (ops.Skip b.index) op b.is)
    (record { spells = in_table t (ops.Skip b.index) part (record { rest = h.spells.rest; operands = fixed_any t.order n h.spells.rest h.spells.operands; whole = h.spells.whole }); displaced = jump_displaced t all find k Skip n op part h.spells f placed b }, framed profile (ops.Skip b.index) refl)

-- what a branch that stands there is resolved to
branch_resolved : (t : Target) (all : List (List ℕ)) (find : ℕ → Option ℕ) (k i : ℕ) (branch : Branch) (part : List ℕ) (h : Code (branch_code branch) AnyTwo part) → Finds all find → Placed all k part
    → Displaced t.order all k (Some i) part → Spelled Location t (Jump branch (fixed_number t.order 2 h.rest)) part → op_of find (start all k) (Jump branch (fixed_number t.order 2 h.rest)) ≡ branch_to branch (Some i)
branch_resolved t all find k i branch part h f placed d s =
    let z = displacement all k i in
    let number = cast_unsigned w16 z in
    let whole : d.1 ∷ d.2.rest ≡ branch_code branch ∷ h.rest = sym d.2.whole ∙ h.whole in
    let same : d.2.rest ≡ h.rest = cc in
    let fixed : Fixed t.order 2 number h.rest = subst (λ (l : List ℕ). Fixed t.order 2 number l) same (displaced_fixed t.order z d.2.rest d.2.operands) in
    let other : Spelled Location t (Jump branch number) part = spelled Location t (Jump branch number) part (record { rest = h.rest; operands = fixed; whole = h.whole }) refl in
    let end : start all (k + 1) ≡ start all k + 3 = omega (arith, jump_length t branch number part (record { rest = h.rest; operands = fixed; whole = h.whole })) in
    let goes : goes_to (start all k + 3) number ≡ Some (start all i) = subst (λ (e : ℕ). goes_to e number ≡ Some (start all i)) end (displaced_goes (start all (k + 1)) number (start all i) d.2.operands.fits refl) in
    let found : find (start all i) ≡ Some i = f.back (start all i) i d.0 refl in
    ap (λ (step : Step). op_of find (start all k) step) (one_step Location t (Jump branch (fixed_number t.order 2 h.rest)) (Jump branch number) part s other)
    ∙ ap (λ (o : Option ℕ). branch_to branch (find_at find o)) goes
    ∙ ap (λ (o : Option ℕ). branch_to branch o) found

stands_jump : (profile : Profile) (t : Target) (all : List (List ℕ)) (find : ℕ → Option ℕ) (k i : ℕ) (branch : Branch) (part : List ℕ) → Finds all find → Placed all k part → Code (branch_code branch) AnyTwo part
    → Displaced t.order all k (Some i) part → (step : Step) × Spelled profile t step part × (op_of find (start all k) step ≡ branch_to branch (Some i))
stands_jump profile t all find k i branch part f placed h d =
    let s = any_code t branch part h in
    let n = fixed_number t.order 2 h.rest in
    (Jump branch n, with_profile profile t branch n part s, branch_resolved t all find k i branch part h f placed d s)

-- an operation that stands there is what its step is resolved to
pub stands_step : (profile : Profile) (t : Target) (all : List (List ℕ)) (find : ℕ → Option ℕ) (k : ℕ) (op : Op) (part : List ℕ) → Finds all find → Placed all k part → Stands t all k op part → op_allowed profile op ≡ true
    → (step : Step) × Spelled profile t step part × (op_of find (start all k) step ≡ Some op)
stands_step profile t all find k (ops.Bra i) part f placed h allowed = stands_jump profile t all find k i Bra part f placed (by_table t (ops.Bra i) part h.spells) h.displaced
stands_step profile t all find k (ops.Skip i) part f placed h allowed = stands_jump profile t all find k i Skip part f placed (by_table t (ops.Skip i) part h.spells) h.displaced
stands_step profile t all find k op part f placed h allowed = (Plain op, spelled profile t (Plain op) part (h.spells, refl) (plain_allows profile op ∙ allowed), refl)
