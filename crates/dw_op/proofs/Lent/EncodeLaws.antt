-- Where least spellings begin, and how the encoder goes over them.
use Rattle.dw_op.proofs.Words.{◌≡◌, ℕ, zero, suc, ◌+◌, ◌<◌, ◌≤◌, List, [], ◌∷◌, ◌++◌, length, map, take, drop, get_or, Option, Some, None, refl, sym, ap, subst, ◌∙◌, inl, inr, append_assoc, arith, slice_get, Result, Ok, Err, OnOk, cases_lt}
use Rattle.dw_op.proofs.Words.{length-map, length_push, append-nil, get_or_append_left, get_or_push, length-take, take-append-le, slice_get-map, slice_get-get_or, drop-cons, Target, Op, bare, start, branch_target, joined, Block}
use Rattle.dw_op.proofs.Words.{least_bytes, InRange, AllInRange, IsFar, IsEncodeError, TooFar, blank_parts, bits_of, least_from, least_block, BranchFits, EachFits, AreStarts}
use Rattle.std.proofs.Math.ListN.{get_or-map}
use Rattle.dw_op.specs.declared.least_block.{EncodeError.EncodeError, EncodeError.TheVariants.{BranchTooFar, OutOfMemory}}
use Rattle.dw_op.proofs.Lent.{Ranges.listed_at, LeastBlocks.{each_blank, each_fits, block_parts, joined-cons}}

-- ---- starts

pub start_next : (t : Target) (ops : List Op) (k : ℕ) (d : Op) → k < length ops → start (blank_parts t (map bare ops)) (k + 1) ≡ start (blank_parts t (map bare ops)) k + length (least_bytes t 0 (bare (get_or ops k d)))
start_next t [] k d lt = absurd (omega arith)
start_next t (op ∷ ops) zero d lt = omega arith
start_next t (op ∷ ops) (suc k) d lt = let e : suc k + 1 ≡ suc (k + 1) = omega arith in rw e (omega (arith, start_next t ops k d (omega arith)))

pub starts_more : (parts : List (List ℕ)) (n end : ℕ) (starts : List ℕ) → AreStarts parts n starts → end ≡ start parts (n + 1) → AreStarts parts (n + 1) (starts ++ end ∷ [])
starts_more parts n end starts h e = record {
  count = omega (arith, length_push starts end, h.count);
  each = λ i le. elim (cases_lt i (n + 1)) [
    | inl before ↦ rw (get_or_append_left starts (end ∷ []) 0 i (omega (arith, h.count))) (h.each i (omega arith))
    | inr last ↦ let is : i ≡ n + 1 = omega arith in rw is (get_or_push starts end 0 (n + 1) h.count ∙ e)
  ];
}

-- ---- branches

-- the operation at a place, in a list without places in memory
pub bare_at : (ops : List Op) (k : ℕ) (d : Op) → k < length ops → slice_get (map bare ops) k ≡ Some (bare (get_or ops k d))
bare_at ops k d lt = rw (slice_get-map bare ops k, slice_get-get_or ops k d lt) refl

pub in_range_at : (t : Target) (ops : List Op) (k : ℕ) (d : Op) → AllInRange t (map bare ops) → k < length ops → InRange t (length ops) (bare (get_or ops k d))
in_range_at t ops k d r lt =
    let same : length (map bare ops) ≡ length ops = length-map ops bare in
    rw (← same) (listed_at (InRange t (length (map bare ops))) (map bare ops) k (bare (get_or ops k d)) r (bare_at ops k d lt))

-- each branch fits
pub each_fits_of : (all : List (List ℕ)) (k : ℕ) (ops : List Op) (d : Op) → ((j : ℕ) → j < length ops → BranchFits all (k + j) (branch_target (bare (get_or ops j d)))) → EachFits all k (map bare ops)
each_fits_of all k [] d h = tt
each_fits_of all k (op ∷ ops) d h =
    let zero_is : k + 0 ≡ k = omega arith in
    (rw zero_is at (h 0 (omega arith)), each_fits_of all (suc k) ops d (λ j lt. let e : k + suc j ≡ suc k + j = omega arith in rw e at (h (suc j) (omega arith))))

fits_at : (all : List (List ℕ)) (k j : ℕ) (ops : List Op) (op : Op) → EachFits all k ops → slice_get ops j ≡ Some op → BranchFits all (k + j) (branch_target op)
fits_at all k zero (o ∷ ops) op h e = let is : o ≡ op = cc in let z : k + 0 ≡ k = omega arith in rw z (subst (λ (x : Op). BranchFits all k (branch_target x)) is h.0)
fits_at all k (suc j) (o ∷ ops) op h e = let z : k + suc j ≡ suc k + j = omega arith in rw z (fits_at all (suc k) j ops op h.1 e)
fits_at all k j ops op h e = absurd cc

-- where one branch is too far no block is there
pub far_has_no_block : (t : Target) (ops : List Op) (k : ℕ) (bytes : List ℕ) → TooFar t ops k → Block t ops bytes → ⊥
far_has_no_block t ops k bytes f b =
    let short = block_parts t b.parts ops f.parts b.parts f.least b.each in
    let fits = each_fits t f.parts b.parts 0 ops b.parts short b.each in
    let z : 0 + k ≡ k = omega arith in
    let here = rw z at (fits_at f.parts 0 k ops f.far.0 fits f.far.2) in
    f.far.4 (rw f.far.3 at here)

far_of : (ops : List Op) (all : List (List ℕ)) (k : ℕ) (op : Op) (target : Option ℕ) → slice_get ops k ≡ Some op → branch_target op ≡ target → (BranchFits all k target → ⊥) → IsFar ops all k
far_of ops all k op None e is f = absurd (f tt)
far_of ops all k op (Some i) e is f = (op, i, e, is, f)

pub too_far : (t : Target) (ops : List Op) (k : ℕ) (d : Op) → AllInRange t (map bare ops) → k < length ops
    → ((j : ℕ) → j < k → BranchFits (blank_parts t (map bare ops)) j (branch_target (bare (get_or ops j d))))
    → (BranchFits (blank_parts t (map bare ops)) k (branch_target (bare (get_or ops k d))) → ⊥) → TooFar t (map bare ops) k
too_far t ops k d r lt before here = record {
  parts = blank_parts t (map bare ops);
  least = each_blank t (length (map bare ops)) 0 (map bare ops) r;
  far = far_of (map bare ops) (blank_parts t (map bare ops)) k (bare (get_or ops k d)) (branch_target (bare (get_or ops k d))) (bare_at ops k d lt) refl here;
  earlier = λ j less far.
      let there : Some (bare (get_or ops j d)) ≡ Some far.0 = sym (bare_at ops j d (omega arith)) ∙ far.2 in
      let is : bare (get_or ops j d) ≡ far.0 = cc in
      far.4 (rw far.3 at (subst (λ (o : Op). BranchFits (blank_parts t (map bare ops)) j (branch_target o)) is (before j less)));
}

-- ---- the bytes

-- what was there, and behind it what is written and what is still to come: the operations from number k on
pub record IsGoing (t : Target) (ops : List Op) (old : List ℕ) (k : ℕ) (rest : List Op) (new : List ℕ) : Type 0 where
  pub whole : new ++ joined (least_from t (blank_parts t ops) k rest) ≡ old ++ least_block t ops

pub going_none : (t : Target) (ops : List Op) (old : List ℕ) → IsGoing t ops old 0 ops old
unfolding least_block
going_none t ops old = record { whole = refl }

pub going_more : (t : Target) (ops : List Op) (old : List ℕ) (k bits : ℕ) (op : Op) (rest : List Op) (new : List ℕ) → IsGoing t ops old k (op ∷ rest) new
    → bits ≡ bits_of (blank_parts t ops) k (branch_target op) → IsGoing t ops old (k + 1) rest (new ++ least_bytes t bits op)
going_more t ops old k bits op rest new h is =
    let next : k + 1 ≡ suc k = omega arith in
    let before = rw (joined-cons (least_bytes t (bits_of (blank_parts t ops) k (branch_target op)) op) (least_from t (blank_parts t ops) (suc k) rest), ← is) at h.whole in
    record { whole = rw next (append_assoc new (least_bytes t bits op) (joined (least_from t (blank_parts t ops) (suc k) rest)) ∙ before) }

pub going_all : (t : Target) (ops : List Op) (old : List ℕ) (k : ℕ) (new : List ℕ) → IsGoing t ops old k [] new → new ≡ old ++ least_block t ops
going_all t ops old k new h = sym (append-nil new) ∙ h.whole

pub drop-bare : (ops : List Op) (k : ℕ) (d : Op) → k < length ops → drop k (map bare ops) ≡ bare (get_or ops k d) ∷ drop (k + 1) (map bare ops)
drop-bare ops k d lt =
    let e : k + 1 ≡ suc k = omega arith in
    rw (e, ← get_or-map bare ops k d) (drop-cons (map bare ops) k (bare d) (omega (arith, length-map ops bare)))

-- ---- what the encoder answers

pub encode_error : (t : Target) (ops : List Op) (bytes : List ℕ) (error : EncodeError) → Block t ops bytes → IsEncodeError t ops error → error ≡ OutOfMemory
encode_error t ops bytes (BranchTooFar k) b e = absurd (far_has_no_block t ops k bytes e b)
encode_error t ops bytes OutOfMemory b e = refl

pub on_ok : {A E : Type 0} (P Q : Type 0) (r : Result A E) → (P → Q) → OnOk r P → OnOk r Q
on_ok P Q (Ok x) f h = f h
on_ok P Q (Err e) f h = tt

-- what is behind the front leaves the front
pub front_more : (old new more : List ℕ) → take (length old) new ≡ old → take (length old) (new ++ more) ≡ old
front_more old new more e =
    let long : length old ≤ length new = omega (arith, ap length e, length-take (length old) new) in
    take-append-le (length old) new more long ∙ e
