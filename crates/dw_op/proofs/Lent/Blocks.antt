-- What is decoded is the block's operations, or its first fault.
use Rattle.std.proofs.Math.{Nat.{add-zero, zero-add}, Numerals.add-one}
use Rattle.dw_op.specs.declared.operation.Branch.TheVariants.{Bra, Skip}
use Rattle.dw_op.specs.declared.op.Op.TheVariants as ops
use Rattle.dw_op.proofs.Words.{◌≡◌, ℕ, zero, suc, ◌+◌, ◌<◌, List, [], ◌∷◌, ◌++◌, length, Option, Some, None, Result, Ok, Err, refl, sym, ap, subst, ◌∙◌, arith, inl, inr, ◌⊎◌, IsTrue, slice_get, cases_lt, AllByRecursion}
use Rattle.dw_op.proofs.Words.{append-nil, BadBranch, Refusal, Target, Input, AreBytes, Op, Profile, Frame, Location, Step, Plain, Jump, start, Stands, EachPart, joined, Block, step_at, PlacedStep, Walk, walk, index_at}
use Rattle.dw_op.proofs.{Words.{op_of, put_first, resolve, unless, block_input, decode_at, IsBlock, op_allowed, IsPart, Leads, ReadingFault, BlockFault}, BranchParts.{Stood, stood_leads, leads_stood, moved}}
use Rattle.dw_op.proofs.{Branches.fixed_any, Lent.Ranges.listed_at, Lent.ReadingLaws.some_is, Lent.Spellings.in_table, OperandLaws.{stuck_fault, fault_stuck}, Places.{index_start, index_begins}}
use Rattle.dw_op.proofs.{ResolvedSteps.{Finds, Placed, one_step, as_location, part_step, plain_allows, framed, step_stands, stands_step}, Splits.{Spelled, EachSpells, items_from, input, Ends, Split, split_of, joined_walk}}

-- ---- where parts stand

-- the starts of the parts from part k on
abbrev Follow : List (List ℕ) → ℕ → List (List ℕ) → Type 0
Follow all k parts = (j : ℕ) → start all (k + j) ≡ start all k + start parts j

start_zero : (all : List (List ℕ)) → start all 0 ≡ 0
start_zero [] = refl
start_zero (part ∷ all) = refl

follow_all : (all : List (List ℕ)) → Follow all 0 all
follow_all all j = ap (λ (m : ℕ). start all m) (zero-add j) ∙ omega (arith, start_zero all)

follow_placed : (all : List (List ℕ)) (k : ℕ) (part : List ℕ) (parts : List (List ℕ)) → Follow all k (part ∷ parts) → Placed all k part
follow_placed all k part parts h = omega (arith, h 1, start_zero parts)

follow_next : (all : List (List ℕ)) (k : ℕ) (part : List ℕ) (parts : List (List ℕ)) → Follow all k (part ∷ parts) → Follow all (suc k) parts
follow_next all k part parts h j =
    let here : start all (suc k) ≡ start all k + length part = ap (λ (m : ℕ). start all m) (sym (add-one k)) ∙ follow_placed all k part parts h in
    let there : start all (suc k + j) ≡ start all (k + suc j) = ap (λ (m : ℕ). start all m) (sym (moved k j)) in
    omega (arith, h (suc j))

-- the place of part k + 1 by the one of part k
next_place : (all : List (List ℕ)) (k : ℕ) (part : List ℕ) → Placed all k part → start all k + length part ≡ start all (suc k)
next_place all k part h = sym h ∙ ap (λ (m : ℕ). start all m) (add-one k)

-- ---- what resolving says

abbrev pub answered : List Op → Result (List Op) Refusal
answered ops = Ok ops

abbrev pub refused : Refusal → Result (List Op) Refusal
refused r = Err r

pub same_ops : (a b : List Op) → answered a ≡ answered b → a ≡ b
same_ops a b e = cc

-- all are resolved
pub record First (at : ℕ) (o : Option Op) (r : Result (List Op) Refusal) (ops : List Op) : Type 0 where
  pub op : Op
  pub more : List Op
  pub first : o ≡ Some op
  pub rest : r ≡ answered more
  pub is : ops ≡ op ∷ more

pub first_of_all : (at : ℕ) (o : Option Op) (r : Result (List Op) Refusal) (ops : List Op) → put_first o at r ≡ answered ops → First at o r ops
first_of_all at (Some op) (Ok more) ops e = record { op = op; more = more; first = refl; rest = refl; is = sym (same_ops (op ∷ more) ops e) }
first_of_all at o r ops e = absurd cc

abbrev pub bad_branch : ℕ → Refusal
bad_branch at = record { code = BadBranch; at = at }

pub same_refusal : (a b : Refusal) → refused a ≡ refused b → a ≡ b
same_refusal a b e = cc

-- the first or a later one is bad
abbrev Unresolved : (ℕ → Option ℕ) → ℕ → Step → List PlacedStep → Refusal → Type 0
Unresolved find at step items r = ((op_of find at step ≡ None) × (r ≡ bad_branch at)) ⊎ ((op : Op) × (op_of find at step ≡ Some op) × (resolve find items ≡ Err r))

unresolved_first : (find : ℕ → Option ℕ) (at : ℕ) (step : Step) (items : List PlacedStep) (o : Option Op) (q : Result (List Op) Refusal) (r : Refusal) → op_of find at step ≡ o → resolve find items ≡ q → put_first o at q ≡ Err r → Unresolved find at step items r
unresolved_first find at step items None q r one two e = inl (one, sym (same_refusal (bad_branch at) r e))
unresolved_first find at step items (Some op) (Ok more) r one two e = absurd cc
unresolved_first find at step items (Some op) (Err x) r one two e = inr (op, one, two ∙ e)

-- no earlier branch leads nowhere, and this one does
abbrev FirstAt : Target → List (List ℕ) → ℕ → Type 0
FirstAt t parts bad = (Leads t parts bad → ⊥) × ((k : ℕ) → k < bad → Leads t parts k)

-- such a branch is one
one_first : (t : Target) (parts : List (List ℕ)) (a b : ℕ) → FirstAt t parts a → FirstAt t parts b → a ≡ b
one_first t parts a b h k = elim (cases_lt a b) [
  | inl lt ↦ absurd (h.0 (k.1 a lt))
  | inr ge ↦ elim (cases_lt b a) [ inl lt ↦ absurd (k.0 (h.1 b lt)) | inr le ↦ omega arith ]
]

-- ---- resolved steps are the operations that stand

module _ (profile : Profile) (t : Target) (all : List (List ℕ)) (find : ℕ → Option ℕ) (f : Finds all find) where
  abbrev Allowed : List Op → Type 0
  Allowed ops = AllByRecursion (λ op. IsTrue (op_allowed profile op)) ops

  resolved_stand : (k : ℕ) (steps : List Step) (parts : List (List ℕ)) (ops : List Op) → EachSpells profile t steps parts → Follow all k parts → resolve find (items_from (start all k) steps parts) ≡ Ok ops
      → EachPart (Stands t all) k ops parts × Allowed ops
  resolved_stand k [] [] ops h follow e = subst (λ (l : List Op). EachPart (Stands t all) k l [] × Allowed l) (same_ops [] ops e) (tt, tt)
  resolved_stand k (step ∷ steps) (part ∷ parts) ops h follow e =
      let at = start all k in
      let items = items_from (at + length part) steps parts in
      let r = first_of_all at (op_of find at step) (resolve find items) ops e in
      let placed = follow_placed all k part parts follow in
      let here = step_stands profile t all find k step r.op part f h.0 placed r.first in
      let later : resolve find (items_from (start all (suc k)) steps parts) ≡ Ok r.more = subst (λ (n : ℕ). resolve find (items_from n steps parts) ≡ Ok r.more) (next_place all k part placed) r.rest in
      let more = resolved_stand (suc k) steps parts r.more h.1 (follow_next all k part parts follow) later in
      subst (λ (l : List Op). EachPart (Stands t all) k l (part ∷ parts) × Allowed l) (sym r.is) ((here.0, more.0), (here.1, more.1))
  resolved_stand k steps parts ops h follow e = absurd h

  one_op : (k : ℕ) (op other : Op) (part : List ℕ) → Placed all k part → Stands t all k op part → Stands t all k other part → op ≡ other
  one_op k op other part placed h g =
      let a = stands_step Location t all find k op part f placed h refl in
      let b = stands_step Location t all find k other part f placed g refl in
      some_is op other (sym a.2 ∙ ap (λ (step : Step). op_of find (start all k) step) (one_step Location t a.0 b.0 part a.1 b.1) ∙ b.2)

  -- operations that stand at the same parts
  one_list : (k : ℕ) (ops others : List Op) (parts : List (List ℕ)) → EachPart (Stands t all) k ops parts → EachPart (Stands t all) k others parts → Follow all k parts → ops ≡ others
  one_list k [] [] parts h g follow = refl
  one_list k [] (other ∷ others) [] h g follow = absurd g
  one_list k (op ∷ ops) others [] h g follow = absurd h
  one_list k (op ∷ ops) (other ∷ others) (part ∷ parts) h g follow =
      let first = one_op k op other part (follow_placed all k part parts follow) h.0 g.0 in
      let more = one_list (suc k) ops others parts h.1 g.1 (follow_next all k part parts follow) in
      cc
  one_list k ops others parts h g follow = absurd assumption

  -- ---- a branch that is not resolved leads nowhere

  -- of these parts, the first at which no operation stands
  record FirstBad (k : ℕ) (parts : List (List ℕ)) (r : Refusal) : Type 0 where
    index : ℕ
    part : List ℕ
    there : slice_get parts index ≡ Some part
    good : (j : ℕ) (x : List ℕ) → j < index → slice_get parts j ≡ Some x → Stood t all (k + j) x
    bad : Stood t all (k + index) part → ⊥
    is : r ≡ bad_branch (start all k + start parts index)

  good_more : (k : ℕ) (part : List ℕ) (parts : List (List ℕ)) (n : ℕ) → Stood t all k part → ((j : ℕ) (x : List ℕ) → j < n → slice_get parts j ≡ Some x → Stood t all (suc k + j) x)
      → (j : ℕ) (x : List ℕ) → j < suc n → slice_get (part ∷ parts) j ≡ Some x → Stood t all (k + j) x
  good_more k part parts n s more zero x lt e = rw (add-zero k) (subst (Stood t all k) (some_is part x e) s)
  good_more k part parts n s more (suc j) x lt e = subst (λ (m : ℕ). Stood t all m x) (sym (moved k j)) (more j x (omega arith) e)

  nothing_stands : (k : ℕ) (step : Step) (part : List ℕ) → Spelled profile t step part → Placed all k part → op_of find (start all k) step ≡ None → Stood t all k part → ⊥
  nothing_stands k step part h placed none stood =
      let s = stands_step Location t all find k stood.0 part f placed stood.1 refl in
      let same = one_step Location t step s.0 part (as_location profile t step part h) s.1 in
      let some : op_of find (start all k) step ≡ Some stood.0 = ap (λ (x : Step). op_of find (start all k) x) same ∙ s.2 in
      absurd cc

  unresolved_bad : (k : ℕ) (steps : List Step) (parts : List (List ℕ)) (r : Refusal) → EachSpells profile t steps parts → Follow all k parts → resolve find (items_from (start all k) steps parts) ≡ Err r → FirstBad k parts r
  unresolved_bad k (step ∷ steps) (part ∷ parts) r h follow e =
      let at = start all k in
      let items = items_from (at + length part) steps parts in
      let placed = follow_placed all k part parts follow in
      elim (unresolved_first find at step items (op_of find at step) (resolve find items) r refl refl e) [
        | inl u ↦ record {
          index = 0;
          part = part;
          there = refl;
          good = λ j x lt here. absurd (omega arith);
          bad = subst (λ (n : ℕ). Stood t all n part → ⊥) (sym (add-zero k)) (nothing_stands k step part h.0 placed u.0);
          is = u.1 ∙ ap bad_branch (omega (arith, start_zero (part ∷ parts)));
        }
        | inr u ↦
            let later : resolve find (items_from (start all (suc k)) steps parts) ≡ Err r = subst (λ (n : ℕ). resolve find (items_from n steps parts) ≡ Err r) (next_place all k part placed) u.2 in
            let more = unresolved_bad (suc k) steps parts r h.1 (follow_next all k part parts follow) later in
            record {
              index = suc more.index;
              part = more.part;
              there = more.there;
              good = good_more k part parts more.index (u.0, (step_stands profile t all find k step u.0 part f h.0 placed u.1).0) more.good;
              bad = subst (λ (n : ℕ). Stood t all n more.part → ⊥) (sym (moved k more.index)) more.bad;
              is = more.is ∙ ap bad_branch (omega (arith, next_place all k part placed));
            }
      ]
  unresolved_bad k steps parts r h follow e = absurd (first_of (assumption, cc))

  -- that is the first branch that leads nowhere
  bad_at : AllByRecursion (IsPart profile t) all → (r : Refusal) (u : FirstBad 0 all r) → FirstAt t all u.index × (r ≡ bad_branch (start all u.index))
  bad_at each r u = ((nowhere, first), u.is ∙ ap bad_branch (omega (arith, start_zero all)))
    where
      nowhere : Leads t all u.index → ⊥
      nowhere leads = u.bad (rw (zero-add u.index) (leads_stood profile t all u.index u.part u.there (listed_at (IsPart profile t) all u.index u.part each u.there) leads))

      first : (k : ℕ) → k < u.index → Leads t all k
      first k lt part there = stood_leads t all k part there (subst (λ (n : ℕ). Stood t all n part) (zero-add k) (u.good k part lt there)) part there

  stood_at : (k : ℕ) (ops : List Op) (parts : List (List ℕ)) → EachPart (Stands t all) k ops parts → (j : ℕ) (x : List ℕ) → slice_get parts j ≡ Some x → Stood t all (k + j) x
  stood_at k [] [] h j x e = absurd cc
  stood_at k (op ∷ ops) (part ∷ parts) h j x e = good_more k part parts j (op, h.0) (λ i y lt. stood_at (suc k) ops parts h.1 i y) j x (omega arith) e
  stood_at k ops parts h j x e = absurd h

  -- what stands is answered
  stands_answered : (steps : List Step) (ops : List Op) → EachSpells profile t steps all → EachPart (Stands t all) 0 ops all → resolve find (items_from (start all 0) steps all) ≡ answered ops
  stands_answered steps ops h each = of (resolve find (items_from (start all 0) steps all)) refl
    where
      of : (q : Result (List Op) Refusal) → resolve find (items_from (start all 0) steps all) ≡ q → q ≡ answered ops
      of (Ok others) e = ap answered (one_list 0 others ops all (resolved_stand 0 steps all others h (follow_all all) e).0 each (follow_all all))
      of (Err r) e = let u = unresolved_bad 0 steps all r h (follow_all all) e in absurd (u.bad (stood_at 0 ops all each u.index u.part u.there))

  -- and the first branch that leads nowhere is refused
  bad_refused : AllByRecursion (IsPart profile t) all → (steps : List Step) → EachSpells profile t steps all → (bad : ℕ) → FirstAt t all bad → resolve find (items_from (start all 0) steps all) ≡ refused (bad_branch (start all bad))
  bad_refused each steps h bad first = of (resolve find (items_from (start all 0) steps all)) refl
    where
      of : (q : Result (List Op) Refusal) → resolve find (items_from (start all 0) steps all) ≡ q → q ≡ refused (bad_branch (start all bad))
      of (Ok ops) e =
          let stood = stood_at 0 ops all (resolved_stand 0 steps all ops h (follow_all all) e).0 bad in
          absurd (first.0 (λ part there. stood_leads t all bad part there (subst (λ (n : ℕ). Stood t all n part) (zero-add bad) (stood part there)) part there))
      of (Err r) e =
          let u = unresolved_bad 0 steps all r h (follow_all all) e in
          let s = bad_at each r u in
          ap refused (s.1 ∙ ap (λ (n : ℕ). bad_branch (start all n)) (one_first t all u.index bad s.0 first))

-- ---- a whole block

abbrev finder : List Step → List (List ℕ) → ℕ → Option ℕ
finder steps parts place = index_at (items_from 0 steps parts) (length (joined parts)) place

finder_finds : (profile : Profile) (t : Target) (steps : List Step) (parts : List (List ℕ)) → EachSpells profile t steps parts → Finds parts (finder steps parts)
finder_finds profile t steps parts h = record {
  found = λ place k e. let b = index_begins profile t steps parts 0 (length (joined parts)) place k h (omega arith) e in (b.0, omega (arith, b.1));
  back = λ place k le is. index_start profile t steps parts 0 (length (joined parts)) place k h le (omega arith) (omega (arith, is));
}

pub decoded_fault : (profile : Profile) (i : Input) (r : Refusal) → (walk profile i).fault ≡ Some r → decode_at profile i ≡ Err r
unfolding decode_at
decoded_fault profile i r e = rw e refl

-- parts that spell steps to the end
decoded_parts : (profile : Profile) (t : Target) (bytes : List ℕ) (steps : List Step) (parts : List (List ℕ)) → EachSpells profile t steps parts → bytes ≡ joined parts
    → decode_at profile (block_input t bytes) ≡ resolve (finder steps parts) (items_from (start parts 0) steps parts)
unfolding decode_at
decoded_parts profile t bytes steps parts h e =
    let same : bytes ≡ joined parts ++ [] = e ∙ sym (append-nil (joined parts)) in
    let w : walk profile (input 0 bytes t) ≡ record { items = items_from 0 steps parts; fault = None } = ap (λ (l : List ℕ). walk profile (input 0 l t)) same ∙ joined_walk profile t steps parts 0 [] None h refl in
    let end : 0 + length bytes ≡ length (joined parts) = omega (arith, ap length e) in
    ap (λ (y : Walk). unless y.fault (resolve (index_at y.items (0 + length bytes)) y.items)) w
    ∙ ap (λ (n : ℕ). resolve (index_at (items_from 0 steps parts) n) (items_from 0 steps parts)) end ∙ ap (λ (n : ℕ). resolve (finder steps parts) (items_from n steps parts)) (sym (start_zero parts))

-- ---- what is read, and what is not

step_part : (profile : Profile) (t : Target) (step : Step) (part : List ℕ) → Spelled profile t step part → IsPart profile t part
step_part profile t (Plain op) part h = (op, h.spells.0, sym (plain_allows profile op) ∙ h.allowed)
step_part profile t (Jump Bra n) part h = (ops.Bra 0, in_table t (ops.Bra 0) part (record { rest = h.spells.rest; operands = fixed_any t.order n h.spells.rest h.spells.operands; whole = h.spells.whole }), framed profile (ops.Bra 0) refl)
step_part profile t (Jump Skip n) part h = (ops.Skip 0, in_table t (ops.Skip 0) part (record { rest = h.spells.rest; operands = fixed_any t.order n h.spells.rest h.spells.operands; whole = h.spells.whole }), framed profile (ops.Skip 0) refl)

step_parts : (profile : Profile) (t : Target) (steps : List Step) (parts : List (List ℕ)) → EachSpells profile t steps parts → AllByRecursion (IsPart profile t) parts
step_parts profile t [] [] h = tt
step_parts profile t (step ∷ steps) (part ∷ parts) h = (step_part profile t step part h.0, step_parts profile t steps parts h.1)
step_parts profile t steps parts h = absurd h

-- bytes that are read as no operation begin with a code that has a fault
stuck_reading : (profile : Profile) (t : Target) (bytes : List ℕ) (r : Refusal) (parts : List (List ℕ)) (rest : List ℕ) → bytes ≡ joined parts ++ rest → AllByRecursion (IsPart profile t) parts → 0 < length rest
    → step_at profile (input (length (joined parts)) rest t) ≡ Err r → ReadingFault profile t bytes r
stuck_reading profile t bytes r parts [] whole each some e = absurd (omega arith)
stuck_reading profile t bytes r parts (code ∷ operands) whole each some e = record { parts = parts; code = code; operands = operands; whole = whole; each = each; fault = stuck_fault profile t (length (joined parts)) code operands r e }

-- a block that is read to its end, or is not
record Read (profile : Profile) (t : Target) (bytes : List ℕ) : Type 0 where
  steps : List Step
  parts : List (List ℕ)
  each : EachSpells profile t steps parts
  whole : bytes ≡ joined parts
  decoded : decode_at profile (block_input t bytes) ≡ resolve (finder steps parts) (items_from (start parts 0) steps parts)

abbrev Stuck : Profile → Target → List ℕ → Type 0
Stuck profile t bytes = (r : Refusal) × ReadingFault profile t bytes r × (decode_at profile (block_input t bytes) ≡ Err r)

read_or_stuck : (profile : Profile) (t : Target) (bytes : List ℕ) (w : Walk) (f : Option Refusal) → Split profile (block_input t bytes) w → w.fault ≡ f → walk profile (block_input t bytes) ≡ w → Read profile t bytes ⊎ Stuck profile t bytes
read_or_stuck profile t bytes w None s none is =
    let empty : s.rest ≡ [] = subst (λ (o : Option Refusal). Ends profile (input (0 + length (joined s.parts)) s.rest t) o) none s.ends in
    let whole : bytes ≡ joined s.parts = s.whole ∙ ap (λ (l : List ℕ). joined s.parts ++ l) empty ∙ append-nil (joined s.parts) in
    inl (record { steps = s.steps; parts = s.parts; each = s.each; whole = whole; decoded = decoded_parts profile t bytes s.steps s.parts s.each whole })
read_or_stuck profile t bytes w (Some r) s some is =
    let ends : (0 < length s.rest) × (step_at profile (input (0 + length (joined s.parts)) s.rest t) ≡ Err r) = subst (λ (o : Option Refusal). Ends profile (input (0 + length (joined s.parts)) s.rest t) o) some s.ends in
    let stuck = subst (λ (n : ℕ). step_at profile (input n s.rest t) ≡ Err r) (zero-add (length (joined s.parts))) ends.1 in
    inr (r, stuck_reading profile t bytes r s.parts s.rest s.whole (step_parts profile t s.steps s.parts s.each) ends.0 stuck, decoded_fault profile (block_input t bytes) r (ap (λ (x : Walk). x.fault) is ∙ some))

reads : (profile : Profile) (t : Target) (bytes : List ℕ) → AreBytes bytes → Read profile t bytes ⊎ Stuck profile t bytes
reads profile t bytes h =
    let i = block_input t bytes in
    read_or_stuck profile t bytes (walk profile i) (walk profile i).fault (split_of profile i h) refl refl

-- ---- operations

as_block : (profile : Profile) (t : Target) (ops : List Op) (bytes : List ℕ) → Block t ops bytes → AllByRecursion (λ op. IsTrue (op_allowed profile op)) ops → IsBlock profile t ops bytes
as_block Frame t ops bytes b allowed = (b, allowed)
as_block Location t ops bytes b allowed = b

all_allowed : (ops : List Op) → AllByRecursion (λ op. IsTrue (op_allowed Location op)) ops
all_allowed [] = tt
all_allowed (op ∷ ops) = (refl, all_allowed ops)

-- the block, of operations that the profile has
pub block_so : (profile : Profile) (t : Target) (ops : List Op) (bytes : List ℕ) → IsBlock profile t ops bytes → Block t ops bytes × AllByRecursion (λ op. IsTrue (op_allowed profile op)) ops
block_so Frame t ops bytes h = h
block_so Location t ops bytes h = (h, all_allowed ops)

each_is_part : (profile : Profile) (t : Target) (all : List (List ℕ)) (k : ℕ) (ops : List Op) (parts : List (List ℕ)) → EachPart (Stands t all) k ops parts → AllByRecursion (λ op. IsTrue (op_allowed profile op)) ops
    → AllByRecursion (IsPart profile t) parts
each_is_part profile t all k [] [] h allowed = tt
each_is_part profile t all k (op ∷ ops) (part ∷ parts) h allowed = ((op, h.0.spells, allowed.0), each_is_part profile t all (suc k) ops parts h.1 allowed.1)
each_is_part profile t all k ops parts h allowed = absurd h

-- the steps of parts
part_steps : (profile : Profile) (t : Target) (parts : List (List ℕ)) → AllByRecursion (IsPart profile t) parts → (steps : List Step) × EachSpells profile t steps parts
part_steps profile t [] h = ([], tt)
part_steps profile t (part ∷ parts) h =
    let one = part_step profile t part h.0.0 h.0.1 h.0.2 in
    let more = part_steps profile t parts h.1 in
    (one.0 ∷ more.0, (one.1, more.1))

-- what is decoded has this block
pub block_found : (profile : Profile) (t : Target) (bytes : List ℕ) (ops : List Op) → AreBytes bytes → decode_at profile (block_input t bytes) ≡ Ok ops → IsBlock profile t ops bytes
block_found profile t bytes ops h e = elim (reads profile t bytes h) [
  | inl r ↦
      let find = finder r.steps r.parts in
      let finds = finder_finds profile t r.steps r.parts r.each in
      let done_is : resolve find (items_from (start r.parts 0) r.steps r.parts) ≡ Ok ops = sym r.decoded ∙ e in
      let s = resolved_stand profile t r.parts find finds 0 r.steps r.parts ops r.each (follow_all r.parts) done_is in
      as_block profile t ops bytes (record { parts = r.parts; each = s.0; whole = r.whole }) s.1
  | inr r ↦ let k = r.2 in absurd cc
]

-- what has this block is decoded
pub block_only : (profile : Profile) (t : Target) (bytes : List ℕ) (ops : List Op) → IsBlock profile t ops bytes → decode_at profile (block_input t bytes) ≡ Ok ops
block_only profile t bytes ops h =
    let (b, allowed) = block_so profile t ops bytes h in
    let steps = part_steps profile t b.parts (each_is_part profile t b.parts 0 ops b.parts b.each allowed) in
    let find = finder steps.0 b.parts in
    let finds = finder_finds profile t steps.0 b.parts steps.1 in
    decoded_parts profile t bytes steps.0 b.parts steps.1 b.whole ∙ stands_answered profile t b.parts find finds steps.0 ops steps.1 b.each

-- ---- faults

-- the fault that is answered is the first
pub fault_found : (profile : Profile) (t : Target) (bytes : List ℕ) (r : Refusal) → AreBytes bytes → decode_at profile (block_input t bytes) ≡ Err r → BlockFault profile t bytes r
fault_found profile t bytes r h e = elim (reads profile t bytes h) [
  | inl b ↦
      let find = finder b.steps b.parts in
      let finds = finder_finds profile t b.steps b.parts b.each in
      let bad : resolve find (items_from (start b.parts 0) b.steps b.parts) ≡ Err r = sym b.decoded ∙ e in
      let u = unresolved_bad profile t b.parts find finds 0 b.steps b.parts r b.each (follow_all b.parts) bad in
      let each = step_parts profile t b.steps b.parts b.each in
      let s = bad_at profile t b.parts find finds each r u in
      inr (record { parts = b.parts; whole = b.whole; each = each; bad = u.index; nowhere = s.0.0; first = s.0.1; is = s.1 })
  | inr s ↦ inl (subst (ReadingFault profile t bytes) (same_refusal s.0 r (sym s.2 ∙ e)) s.1)
]

-- the first fault is what is answered
pub fault_only : (profile : Profile) (t : Target) (bytes : List ℕ) (r : Refusal) → BlockFault profile t bytes r → decode_at profile (block_input t bytes) ≡ Err r
fault_only profile t bytes r (inl h) =
    let steps = part_steps profile t h.parts h.each in
    let rest = h.code ∷ h.operands in
    let stuck = fault_stuck profile t (length (joined h.parts)) h.code h.operands r h.fault in
    let ends : Ends profile (input (0 + length (joined h.parts)) rest t) (Some r) = subst (λ (n : ℕ). (0 < length rest) × (step_at profile (input n rest t) ≡ Err r)) (sym (zero-add (length (joined h.parts)))) (omega arith, stuck) in
    let w = joined_walk profile t steps.0 h.parts 0 rest (Some r) steps.1 ends in
    decoded_fault profile (block_input t bytes) r (ap (λ (l : List ℕ). (walk profile (input 0 l t)).fault) h.whole ∙ ap (λ (x : Walk). x.fault) w)
fault_only profile t bytes r (inr h) =
    let steps = part_steps profile t h.parts h.each in
    let find = finder steps.0 h.parts in
    let finds = finder_finds profile t steps.0 h.parts steps.1 in
    decoded_parts profile t bytes steps.0 h.parts steps.1 h.whole
    ∙ bad_refused profile t h.parts find finds h.each steps.0 steps.1 h.bad (h.nowhere, h.first) ∙ ap refused (sym h.is)
