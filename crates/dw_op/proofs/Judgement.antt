-- Judging a block, and what an accepted one stands for.
use Rattle.std.specs.Prelude.{MatchOption}
use Rattle.dw_op.proofs.Words.{◌≡◌, ℕ, ◌<◌, Bool, true, false, false≢true, List, [], ◌∷◌, ◌++◌, length, Option, Some, None, Result, Ok, Err, refl, sym, ap, subst, ◌∙◌, Refusal, Target, Input, AreBytes, block_input}
use Rattle.dw_op.proofs.Words.{done, Op, Profile, Frame, Location, Step, Plain, Measure, Operations, Walker, FrameBlock, Expression, bare, step_at, Walk, walk, end_of, sum_in, index_at, index_in, op_of, put_first, resolve, unless}
use Rattle.dw_op.proofs.{Walkers.walked_block, Words.{decode_at, block_of, WalkSo, Walked, WalkedBad, Walks, Within, IsDecoded, IsAccepted, ok_ops, ops_of, left_of, StepsSo}, Decoded.{within_more, OpsSo, ops_more, ops_bad, ops_all}}
use Rattle.dw_op.proofs.{Lent.Blocks.{block_found, block_only, answered, first_of_all, decoded_fault}, Lent.ReadingLaws.some_is, Lent.Lines.expression_is, Splits.{walk_step, walk_stuck, walk_end, step_shorter, walk_located, located_none}}

-- a block without fault in its reading is decoded as its branches are resolved
pub resolved_is : (profile : Profile) (i : Input) (r : Result (List Op) Refusal) → (walk profile i).fault ≡ None → resolve (index_in profile i) (walk profile i).items ≡ r → decode_at profile i ≡ r
unfolding decode_at
resolved_is profile i r none e = ap (λ (o : Option Refusal). unless o (resolve (index_in profile i) (walk profile i).items)) none ∙ e

-- and so it is as a location description
decode_located : (profile : Profile) (i : Input) → (walk profile i).fault ≡ None → decode_at Location i ≡ decode_at profile i
unfolding decode_at
decode_located profile i none = ap (λ (w : Walk). unless w.fault (resolve (λ place. index_at w.items (end_of i) place) w.items)) (walk_located profile i none)

located_is : (profile : Profile) (i : Input) (r : Result (List Op) Refusal) → (walk profile i).fault ≡ None → resolve (index_in Location i) (walk Location i).items ≡ r → decode_at profile i ≡ r
located_is profile i r none e = sym (decode_located profile i none) ∙ resolved_is Location i r (located_none profile i none) e

-- ---- the first reading

-- operations up to j, resolved
abbrev pub SoFar : Profile → Input → Input → Type 0
SoFar profile i j = (ops : List Op) × OpsSo profile i j (index_in profile i) ops

pub record ReadSo (profile : Profile) (i j : Input) (found : Bool) : Type 0 where
  pub within : Within i j
  pub fault : (walk profile j).fault ≡ (walk profile i).fault
  pub plain : found ≡ false → SoFar profile i j

module _ (profile : Profile) (i j : Input) (found : Bool) (h : ReadSo profile i j found) where
  read_more : (new : Input) (step : Step) (more : Bool) → step_at profile j ≡ done (step, new) → (more ≡ false → SoFar profile i new) → ReadSo profile i new more
  read_more new step more e plain = record {
    within = within_more profile i j (step, new) h.within e;
    fault = sym (ap (λ (y : Walk). y.fault) (walk_step profile j (step, new) h.within.bytes e)) ∙ h.fault;
    plain = plain;
  }

  pub read_plain : (new : Input) (step : Step) (op : Op) → step_at profile j ≡ done (step, new) → step ≡ Plain op → ReadSo profile i new found
  read_plain new step op e is = read_more new step found e (λ k.
      let so = h.plain k in
      (so.0 ++ op ∷ [], ops_more profile i j (index_in profile i) so.0 (step, new) op so.1 e (ap (λ (s : Step). op_of (index_in profile i) j.at s) is)))

  pub read_jump : (new : Input) (step : Step) → step_at profile j ≡ done (step, new) → ReadSo profile i new true
  read_jump new step e = read_more new step true e (λ k. absurd (false≢true (sym k)))

  pub read_end : length j.bytes ≡ 0 → (walk profile i).fault ≡ None
  read_end e = sym h.fault ∙ ap (λ (y : Walk). y.fault) (walk_end profile j e)

  pub read_stuck : (r : Refusal) → 0 < length j.bytes → step_at profile j ≡ Err r → (walk profile i).fault ≡ Some r
  read_stuck r some e = sym h.fault ∙ ap (λ (y : Walk). y.fault) (walk_stuck profile j r some e)

pub read_plain_end : (profile : Profile) (t : Target) (bytes : List ℕ) (j : Input) (found : Bool) → ReadSo profile (block_input t bytes) j found → length j.bytes ≡ 0 → found ≡ false → IsDecoded profile t bytes
read_plain_end profile t bytes j found h e k =
    let i = block_input t bytes in
    let so = h.plain k in
    (so.0, resolved_is profile i (Ok so.0) (read_end profile i j found h e) (ops_all profile i j (index_in profile i) so.0 so.1 e))

-- ---- the branches

pub record CheckSo (i : Input) (ops : List Op) (w : Walker) : Type 0 where
  pub so : WalkSo w
  pub measure : w.measure ≡ Operations
  pub block : block_of w ≡ i
  pub far : OpsSo Location i w.here (index_in Location i) ops

-- an operation that is found by its sum of ones is found by its number
numbered : (w : Walker) (at : ℕ) (step : Step) (o : Option Op) → w.measure ≡ Operations → op_of (sum_in w.measure Location (block_of w)) at step ≡ o → op_of (index_in Location (block_of w)) at step ≡ o
numbered w at step o measure e = subst (λ (m : Measure). op_of (sum_in m Location (block_of w)) at step ≡ o) measure e

pub check_more : (i : Input) (ops : List Op) (w v : Walker) (op : Op) → CheckSo i ops w → Walked w v op → CheckSo i (ops ++ op ∷ []) v
check_more i ops w v op h s =
    let is : op_of (index_in Location i) w.here.at s.step ≡ Some op = subst (λ (j : Input). op_of (index_in Location j) w.here.at s.step ≡ Some op) h.block (numbered w w.here.at s.step (Some op) h.measure s.is) in
    record {
      so = s.so;
      measure = s.measure ∙ h.measure;
      block = walked_block w v op h.so s ∙ h.block;
      far = ops_more Location i w.here (index_in Location i) ops (s.step, v.here) op h.far s.read is;
    }

pub check_bad : (profile : Profile) (i : Input) (ops : List Op) (w : Walker) (r : Refusal) → (walk profile i).fault ≡ None → CheckSo i ops w → WalkedBad w r → decode_at profile i ≡ Err r
check_bad profile i ops w r read h s =
    let none : op_of (index_in Location i) w.here.at s.step ≡ None = subst (λ (j : Input). op_of (index_in Location j) w.here.at s.step ≡ None) h.block (numbered w w.here.at s.step None h.measure s.bad) in
    located_is profile i (Err r) read (ops_bad Location i w.here (index_in Location i) ops (s.step, s.behind) h.far s.read none ∙ ap (λ (x : Refusal). Err x) (sym s.is))

pub check_end : (profile : Profile) (i : Input) (ops : List Op) (w : Walker) → (walk profile i).fault ≡ None → CheckSo i ops w → w.here.bytes ≡ [] → decode_at profile i ≡ Ok ops
check_end profile i ops w read h e = located_is profile i (Ok ops) read (ops_all Location i w.here (index_in Location i) ops h.far (ap length e))

pub check_shorter : (w v : Walker) (op : Op) → WalkSo w → Walked w v op → length v.here.bytes < length w.here.bytes
check_shorter w v op h s = step_shorter Location w.here s.step v.here h.here.within.bytes s.read

-- what a walk needs that judges a block
pub ruleset judging = (check_bad, located_none, decoded_fault)

-- ---- what an accepted block stands for

pub ops_are : (t : Target) (bytes : List ℕ) (ops : List Op) → decode_at Frame (block_input t bytes) ≡ Ok ops → ops_of t bytes ≡ ops
unfolding ops_of
ops_are t bytes ops e = ap ok_ops e

pub accepted_ops : (t : Target) (bytes : List ℕ) → IsAccepted t bytes → decode_at Frame (block_input t bytes) ≡ Ok (ops_of t bytes)
accepted_ops t bytes h = h.1 ∙ ap answered (sym (ops_are t bytes h.0 h.1))

pub accepted_block : (t : Target) (bytes : List ℕ) → AreBytes bytes → IsAccepted t bytes → FrameBlock t (ops_of t bytes) bytes
accepted_block t bytes are h = block_found Frame t bytes (ops_of t bytes) are (accepted_ops t bytes h)

pub block_ops : (t : Target) (bytes : List ℕ) (ops : List Op) → FrameBlock t ops bytes → ops_of t bytes ≡ ops
block_ops t bytes ops h = ops_are t bytes ops (block_only Frame t bytes ops h)

-- a refused block has no operations
pub refused_none : (t : Target) (bytes : List ℕ) (ops : List Op) (r : Refusal) → FrameBlock t ops bytes → decode_at Frame (block_input t bytes) ≡ Err r → ⊥
refused_none t bytes ops r h e = let k : answered ops ≡ Err r = sym (block_only Frame t bytes ops h) ∙ e in cc

-- ---- the operations one after another

read_whole : (profile : Profile) (i : Input) (ops : List Op) → decode_at profile i ≡ Ok ops → (walk profile i).fault ≡ None
read_whole profile i ops h = go (walk profile i).fault refl
  where
    go : (f : Option Refusal) → (walk profile i).fault ≡ f → f ≡ None
    go None e = refl
    go (Some r) e = let k : answered ops ≡ Err r = sym h ∙ decoded_fault profile i r e in absurd cc

pub accepted_read : (t : Target) (bytes : List ℕ) → IsAccepted t bytes → (walk Location (block_input t bytes)).fault ≡ None
accepted_read t bytes h = let i = block_input t bytes in located_none Frame i (read_whole Frame i h.0 h.1)

pub same_input : (t : Target) (bytes : List ℕ) (w : Walker) → w.here ≡ block_input t bytes → w.bytes.now ≡ bytes → block_of w ≡ block_input t bytes
same_input t bytes w here same = ap (λ (i : Input). block_input i.target w.bytes.now) here ∙ ap (λ (l : List ℕ). block_input t l) same

-- all of them, by their numbers
pub accepted_all : (t : Target) (bytes : List ℕ) → IsAccepted t bytes → let i = block_input t bytes in resolve (index_in Location i) (walk Location i).items ≡ answered (ops_of t bytes)
accepted_all t bytes h =
    let i = block_input t bytes in
    sym (located_is Frame i (resolve (index_in Location i) (walk Location i).items) (read_whole Frame i h.0 h.1) refl) ∙ accepted_ops t bytes h

-- what is left at the front is all of it
front_is : (t : Target) (bytes : List ℕ) (w : Walker) → IsAccepted t bytes → w.here ≡ block_input t bytes → w.bytes.now ≡ bytes → resolve (index_in Location (block_of w)) (walk Location w.here).items ≡ answered (ops_of t bytes)
front_is t bytes w h here same =
    ap (λ (j : Input). resolve (index_in Location j) (walk Location w.here).items) (same_input t bytes w here same)
    ∙ ap (λ (j : Input). resolve (index_in Location (block_input t bytes)) (walk Location j).items) here ∙ accepted_all t bytes h

pub steps_none : (t : Target) (bytes : List ℕ) (w : Walker) → IsAccepted t bytes → WalkSo w → w.measure ≡ Operations → w.here ≡ block_input t bytes → w.bytes.now ≡ bytes → StepsSo w
steps_none t bytes w h so measure here same = record { so = so; measure = measure; ops = ops_of t bytes; good = front_is t bytes w h here same }

pub steps_all : (t : Target) (bytes : List ℕ) (w : Walker) → IsAccepted t bytes → w.here ≡ block_input t bytes → w.bytes.now ≡ bytes → left_of w ≡ ops_of t bytes
unfolding left_of
steps_all t bytes w h here same = ap ok_ops (front_is t bytes w h here same)

pub left_end : (w : Walker) → w.here.bytes ≡ [] → left_of w ≡ []
unfolding left_of
left_end w e = ap (λ (y : Walk). ok_ops (resolve (index_in Location (block_of w)) y.items)) (walk_end Location w.here (ap length e))

-- what is left at a step
pub left_first : (find : ℕ → Option ℕ) (w : Walker) (step : Step) (behind : Input) (ops : List Op) → WalkSo w → step_at Location w.here ≡ done (step, behind) → resolve find (walk Location w.here).items ≡ answered ops
    → put_first (op_of find w.here.at step) w.here.at (resolve find (walk Location behind).items) ≡ answered ops
left_first find w step behind ops so e good = sym (ap (λ (y : Walk). resolve find y.items) (walk_step Location w.here (step, behind) so.here.within.bytes e)) ∙ good

-- what is left behind an operation
left_says : (w v : Walker) (op : Op) → StepsSo w → Walked w v op → (more : List Op) × (resolve (index_in Location (block_of v)) (walk Location v.here).items ≡ answered more) × (resolve (index_in Location (block_of w)) (walk Location w.here).items ≡ answered (op ∷ more))
left_says w v op h s =
    let find = index_in Location (block_of w) in
    let p = first_of_all w.here.at (op_of find w.here.at s.step) (resolve find (walk Location v.here).items) h.ops (left_first find w s.step v.here h.ops h.so s.read h.good) in
    let is_op = numbered w w.here.at s.step (Some op) h.measure s.is in
    let same : p.op ≡ op = some_is p.op op (sym p.first ∙ is_op) in
    (p.more, ap (λ (i : Input). resolve (index_in Location i) (walk Location v.here).items) (walked_block w v op h.so s) ∙ p.rest, h.good ∙ ap answered (p.is ∙ ap (λ (o : Op). o ∷ p.more) same))

pub left_more : (w v : Walker) (op : Op) → StepsSo w → Walked w v op → StepsSo v
left_more w v op h s = let l = left_says w v op h s in record { so = s.so; measure = s.measure ∙ h.measure; ops = l.0; good = l.1 }

pub left_is : (w v : Walker) (op : Op) → StepsSo w → Walked w v op → left_of w ≡ op ∷ left_of v
unfolding left_of
left_is w v op h s =
    let l = left_says w v op h s in
    ap ok_ops l.2 ∙ ap (λ (more : List Op). op ∷ more) (sym (ap ok_ops l.1))

pub left_bad : {P : Type 0} (w : Walker) (r : Refusal) → StepsSo w → WalkedBad w r → P
left_bad w r h s =
    let find = index_in Location (block_of w) in
    let p = first_of_all w.here.at (op_of find w.here.at s.step) (resolve find (walk Location s.behind).items) h.ops (left_first find w s.step s.behind h.ops h.so s.read h.good) in
    let k : Some p.op ≡ None = sym p.first ∙ numbered w w.here.at s.step None h.measure s.bad in
    absurd cc

pub steps_after : (w v : Walker) (r : Result (Option Op) Refusal) → StepsSo w → Walks w v r → StepsSo v
steps_after w v (Ok None) h s = subst StepsSo (sym s.1) h
steps_after w v (Ok (Some op)) h s = left_more w v (bare op) h s
steps_after w v (Err r) h s = left_bad w r h s

-- what a list of operations has for that
pub steps_answer : (w v : Walker) (next : Option Op) → StepsSo w → Walks w v (Ok next) → MatchOption next ((left_of w ≡ []) × (left_of v ≡ [])) (λ op. left_of w ≡ bare op ∷ left_of v)
steps_answer w v None h s = let none = left_end w s.0 in (none, ap left_of s.1 ∙ none)
steps_answer w v (Some op) h s = left_is w v (bare op) h s

-- a list that has the expression's block is its list
pub list_is : (t : Target) (bytes : List ℕ) (e : Expression) → e.target ≡ t → FrameBlock t e.ops bytes → e ≡ record { target = t; ops = ops_of t bytes }
list_is t bytes e target block = expression_is e (record { target = t; ops = ops_of t bytes }) target (sym (block_ops t bytes e.ops block))
