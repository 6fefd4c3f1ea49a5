-- Least spellings one after another, with where the branches go, and the least block of an accepted one.
use Rattle.dw_op.proofs.Words.{◌≡◌, ℕ, suc, ◌+◌, ◌<◌, ◌^◌, List, [], ◌∷◌, ◌++◌, length, take, Option, Some, None, refl, sym, ap, subst, ◌∙◌, arith, take-length, Target, Input, AreBytes, Op, Location, Measure, LeastBytes, Walker, walk, Walk}
use Rattle.dw_op.proofs.Words.{branch_target, start, bits_of, blank_parts, BranchFits, EachFits, least_len, least_bytes, least_block, LeastBlock, IsAppended, weight, sum_in, step_length, IsNear, bits_to, index_in, op_of, StepSpells}
use Rattle.dw_op.proofs.Words.{resolve, end_of, block_input, block_of, WalkSo, Walked, WalkedBad, IsAccepted, ops_of, Refusal}
use Rattle.dw_op.proofs.Lent.{Blocks.{answered, same_ops, first_of_all}, EncodeLaws.{IsGoing, going_none, going_more, going_all, front_more}, LeastBlocks.{block_fits, least_block_exists}, LeastOne.{least_block_length, least_len_within}}
use Rattle.dw_op.proofs.{Lent.ReadingLaws.step_found, Judgement.{accepted_block, accepted_all, accepted_read, check_shorter, same_input, left_first}, Splits.walk_end, Sums.{begins, Alike, alike, never_bad, same_len, sums_are}, Walkers.walked_block}

-- ---- the operations of an accepted block

abbrev pub HasLeast : Target → List Op → ℕ → Type 0
HasLeast t ops len = (least : List ℕ) × LeastBlock t ops least × (len ≡ length least)

pub accepted_least : (t : Target) (bytes : List ℕ) (len : ℕ) → AreBytes bytes → IsAccepted t bytes → len ≡ least_len t (ops_of t bytes) → HasLeast t (ops_of t bytes) len
accepted_least t bytes len are h e =
    let ops = ops_of t bytes in
    (least_block t ops, least_block_exists t ops bytes (accepted_block t bytes are h).0, e ∙ sym (least_block_length t ops))

pub accepted_small : (t : Target) (bytes : List ℕ) → AreBytes bytes → IsAccepted t bytes → length bytes < 2 ^ 63 → least_len t (ops_of t bytes) < 2 ^ 63
accepted_small t bytes are h small = omega (arith, least_len_within t (ops_of t bytes) bytes (accepted_block t bytes are h).0)

pub accepted_appended : (t : Target) (bytes old new : List ℕ) → AreBytes bytes → IsAccepted t bytes → new ≡ old ++ least_block t (ops_of t bytes) → IsAppended (LeastBlock t (ops_of t bytes)) old new
accepted_appended t bytes old new are h e = record { appended = least_block t (ops_of t bytes); is = least_block_exists t (ops_of t bytes) bytes (accepted_block t bytes are h).0; whole = e }

-- where they begin
accepted_sums : (t : Target) (bytes : List ℕ) → IsAccepted t bytes → (place : ℕ) → sum_in LeastBytes Location (block_input t bytes) place ≡ begins (blank_parts t (ops_of t bytes)) (index_in Location (block_input t bytes) place)
accepted_sums t bytes h place =
    let i = block_input t bytes in
    sums_are t (index_in Location i) (walk Location i).items (ops_of t bytes) (end_of i) place (accepted_all t bytes h)

-- ---- a walk that writes

-- behind number operations of all those of a block, which are written
pub record Putting (t : Target) (bytes old : List ℕ) (w : Walker) (out : List ℕ) : Type 0 where
  pub so : WalkSo w
  pub block : block_of w ≡ block_input t bytes
  pub measure : w.measure ≡ LeastBytes
  pub number : ℕ
  pub rest : List Op
  pub left : resolve (index_in Location (block_input t bytes)) (walk Location w.here).items ≡ answered rest
  pub starts : (j : ℕ) → start (blank_parts t (ops_of t bytes)) (number + j) ≡ w.count + start (blank_parts t rest) j
  pub going : IsGoing t (ops_of t bytes) old number rest out
  pub fits : EachFits (blank_parts t (ops_of t bytes)) number rest
  pub front : take (length old) out ≡ old

pub put_start : (t : Target) (bytes old : List ℕ) (w : Walker) → AreBytes bytes → IsAccepted t bytes → WalkSo w → w.here ≡ block_input t bytes → w.count ≡ 0 → w.bytes.now ≡ bytes → w.measure ≡ LeastBytes → Putting t bytes old w old
put_start t bytes old w are h so here count same measure =
    let i = block_input t bytes in
    let ops = ops_of t bytes in
    record {
      so = so;
      block = same_input t bytes w here same;
      measure = measure;
      number = 0;
      rest = ops;
      left = ap (λ (j : Input). resolve (index_in Location i) (walk Location j).items) here ∙ accepted_all t bytes h;
      starts = λ j. rw count (let z : 0 + j ≡ j = omega arith in let y : 0 + start (blank_parts t ops) j ≡ start (blank_parts t ops) j = omega arith in rw (z, y) refl);
      going = going_none t ops old;
      fits = block_fits t ops bytes (accepted_block t bytes are h).0;
      front = take-length old;
    }

bits_are : (parts : List (List ℕ)) (k end : ℕ) (o : Option ℕ) → end ≡ start parts (k + 1) → bits_to end (begins parts o) ≡ bits_of parts k o
bits_are parts k end None e = refl
bits_are parts k end (Some i) e = rw e refl

near_is : (parts : List (List ℕ)) (k end : ℕ) (o : Option ℕ) → end ≡ start parts (k + 1) → BranchFits parts k o → IsNear end (begins parts o)
near_is parts k end None e h = tt
near_is parts k end (Some i) e h = rw e h

-- an operation by its number, behind which a walk has the start of what it names
pub record Passed (t : Target) (bytes old : List ℕ) (w v : Walker) (other : Op) (out : List ℕ) (h : Putting t bytes old w out) : Type 0 where
  pub op : Op
  pub more : List Op
  pub is : h.rest ≡ op ∷ more
  pub later : resolve (index_in Location (block_input t bytes)) (walk Location v.here).items ≡ answered more
  pub target : branch_target other ≡ begins (blank_parts t (ops_of t bytes)) (branch_target op)
  pub same : (bits : ℕ) → least_bytes t bits other ≡ least_bytes t bits op
  pub block : block_of v ≡ block_input t bytes
  pub count : v.count ≡ w.count + length (least_bytes t 0 op)

module _ (t : Target) (bytes old : List ℕ) (w v : Walker) (other : Op) (out : List ℕ) (accepted : IsAccepted t bytes) (h : Putting t bytes old w out) (s : Walked w v other) where
  passed_on : Passed t bytes old w v other out h
  passed_on =
      let i = block_input t bytes in
      let parts = blank_parts t (ops_of t bytes) in
      let find = index_in Location i in
      let target : w.here.target ≡ t = ap (λ (j : Input). j.target) h.block in
      let found = step_found Location w.here v.here s.step h.so.here.within.bytes s.read in
      let advanced : v.count ≡ w.count + step_length t s.step =
      subst (λ (x : Target). v.count ≡ w.count + step_length x s.step) target (subst (λ (m : Measure). v.count ≡ w.count + weight m w.here.target s.step) h.measure s.count) in
      let first = first_of_all w.here.at (op_of find w.here.at s.step) (resolve find (walk Location v.here).items) h.rest (left_first find w s.step v.here h.rest h.so s.read h.left) in
      let named : op_of (sum_in LeastBytes Location i) w.here.at s.step ≡ Some other =
      subst (λ (j : Input). op_of (sum_in LeastBytes Location j) w.here.at s.step ≡ Some other) h.block (subst (λ (m : Measure). op_of (sum_in m Location (block_of w)) w.here.at s.step ≡ Some other) h.measure s.is) in
      let both : Alike t parts first.op other = alike t parts find (sum_in LeastBytes Location i) w.here.at s.step found.part first.op other (accepted_sums t bytes accepted) (subst (λ (x : Target). StepSpells x s.step found.part) target found.spells) first.first named in
      record {
        op = first.op;
        more = first.more;
        is = first.is;
        later = first.rest;
        target = both.target;
        same = both.bytes;
        block = walked_block w v other h.so s ∙ h.block;
        count = advanced ∙ ap (λ (n : ℕ). w.count + n) (same_len t find w.here.at s.step first.op first.first);
      }

  ends_at : v.count ≡ start (blank_parts t (ops_of t bytes)) (h.number + 1)
  ends_at =
      let p = passed_on in
      let next = h.starts 1 in
      let first = rw p.is at next in
      omega (arith, p.count, first)

  -- where the operation is a branch, it fits
  pub put_near : IsNear v.count (branch_target other)
  put_near =
      let p = passed_on in
      let fits = rw p.is at h.fits in
      rw p.target (near_is (blank_parts t (ops_of t bytes)) h.number v.count (branch_target p.op) ends_at fits.0)

  pub put_next : (bits : ℕ) → bits ≡ bits_to v.count (branch_target other) → Putting t bytes old v (out ++ least_bytes t bits other)
  put_next bits e =
      let p = passed_on in
      let parts = blank_parts t (ops_of t bytes) in
      let fits = rw p.is at h.fits in
      let going = rw p.is at h.going in
      let next : h.number + 1 ≡ suc h.number = omega arith in
      let is : bits ≡ bits_of parts h.number (branch_target p.op) = e ∙ ap (λ (o : Option ℕ). bits_to v.count o) p.target ∙ bits_are parts h.number v.count (branch_target p.op) ends_at in
      record {
        so = s.so;
        block = p.block;
        measure = s.measure ∙ h.measure;
        number = h.number + 1;
        rest = p.more;
        left = p.later;
        starts = λ j.
            let after : h.number + 1 + j ≡ h.number + suc j = omega arith in
            let there = rw p.is at (h.starts (suc j)) in
            rw after (omega (arith, p.count, there));
        going = rw (p.same bits) (going_more t (ops_of t bytes) old h.number bits p.op p.more out going is);
        fits = rw next fits.1;
        front = front_more old out (least_bytes t bits other) h.front;
      }

pub put_end : (t : Target) (bytes old : List ℕ) (w : Walker) (out : List ℕ) → Putting t bytes old w out → w.here.bytes ≡ [] → out ≡ old ++ least_block t (ops_of t bytes)
put_end t bytes old w out h e =
    let find = index_in Location (block_input t bytes) in
    let none : answered [] ≡ answered h.rest = sym (ap (λ (y : Walk). resolve find y.items) (walk_end Location w.here (ap length e))) ∙ h.left in
    going_all t (ops_of t bytes) old h.number out (subst (λ (l : List Op). IsGoing t (ops_of t bytes) old h.number l out) (sym (same_ops [] h.rest none)) h.going)

-- no branch of an accepted block leads nowhere
pub put_bad : (t : Target) (bytes old : List ℕ) (w : Walker) (out : List ℕ) (r : Refusal) → IsAccepted t bytes → Putting t bytes old w out → WalkedBad w r → ⊥
put_bad t bytes old w out r accepted h s =
    let i = block_input t bytes in
    let find = index_in Location i in
    let first = first_of_all w.here.at (op_of find w.here.at s.step) (resolve find (walk Location s.behind).items) h.rest (left_first find w s.step s.behind h.rest h.so s.read h.left) in
    let none : op_of (sum_in LeastBytes Location i) w.here.at s.step ≡ None =
    subst (λ (j : Input). op_of (sum_in LeastBytes Location j) w.here.at s.step ≡ None) h.block (subst (λ (m : Measure). op_of (sum_in m Location (block_of w)) w.here.at s.step ≡ None) h.measure s.bad) in
    never_bad (blank_parts t (ops_of t bytes)) find (sum_in LeastBytes Location i) w.here.at s.step first.op (accepted_sums t bytes accepted) first.first none

-- what a walk needs that writes
pub ruleset putting = (accepted_read, check_shorter, put_start, put_next)
