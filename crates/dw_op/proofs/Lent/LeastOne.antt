-- Operations have one least block, and its length is a sum.
use Rattle.dw_op.proofs.Words.{◌≡◌, ℕ, suc, ◌≤◌, List, [], ◌∷◌, length, Option, Some, None, refl, sym, ap, ◌∙◌, arith, w16, cast_unsigned, length-append, Target, Op, EachPart, Stands, branch_target, joined, Block, Least, LeastBlock}
use Rattle.dw_op.proofs.Words.{least_bytes, blank_parts, bits_of, least_from, least_block, least_len}
use Rattle.dw_op.proofs.{LeastOf.{length_bits, only}, Lent.LeastBlocks.{EachInRange, each_blank, each_parts, SameLengths, same_displacement, joined-cons, in_range_of_block, block_of_least, least_block_is, block_fits, least_no_longer}}

same_lengths : (t : Target) (len : ℕ) (ops : List Op) (parts : List (List ℕ)) → EachInRange t len ops → EachPart (λ j. Least t) 0 ops parts → SameLengths parts (blank_parts t ops)
same_lengths t len ops parts r l =
    let blank = each_blank t len 0 ops r in
    let parts_of = each_parts t (λ j. Least t) (λ j op p s. s.spells) 0 ops in
    (parts_of parts (blank_parts t ops) l blank, parts_of (blank_parts t ops) parts blank l)

same_bits : (a b : List (List ℕ)) (k : ℕ) (target : Option ℕ) → SameLengths a b → bits_of a k target ≡ bits_of b k target
same_bits a b k None same = refl
same_bits a b k (Some i) same = ap (cast_unsigned w16) (same_displacement a b k i same)

each_only : (t : Target) (all blank : List (List ℕ)) (len k : ℕ) (ops : List Op) (parts : List (List ℕ)) → SameLengths all blank → EachInRange t len ops
    → EachPart (λ j. Least t) k ops parts → EachPart (Stands t all) k ops parts → parts ≡ least_from t blank k ops
each_only t all blank len k [] [] same r l s = refl
each_only t all blank len k (op ∷ ops) (p ∷ parts) same r l s =
    let here : p ≡ least_bytes t (bits_of blank k (branch_target op)) op =
    only t all len k op p r.0 l.0 s.0.displaced ∙ ap (λ (d : ℕ). least_bytes t d op) (same_bits all blank k (branch_target op) same) in
    let rest = each_only t all blank len (suc k) ops parts same r.1 l.1 s.1 in
    rw (here, rest) refl
each_only t all blank len k ops parts same r l s = absurd l

-- a least block is what the table gives
pub least_block_only : (t : Target) (ops : List Op) (bytes : List ℕ) → LeastBlock t ops bytes → bytes ≡ least_block t ops
unfolding least_block
least_block_only t ops bytes b =
    let r = in_range_of_block t ops bytes (block_of_least t ops bytes b) in
    let same = same_lengths t (length ops) ops b.parts r b.least in
    b.whole ∙ ap joined (each_only t b.parts (blank_parts t ops) (length ops) 0 ops b.parts same r b.least b.each)

pub least_is_one : (t : Target) (ops : List Op) (a b : List ℕ) → LeastBlock t ops a → LeastBlock t ops b → a ≡ b
least_is_one t ops a b l m = least_block_only t ops a l ∙ sym (least_block_only t ops b m)

-- ---- its length

from_length : (t : Target) (all : List (List ℕ)) (k : ℕ) (ops : List Op) → length (joined (least_from t all k ops)) ≡ least_len t ops
from_length t all k [] = refl
from_length t all k (op ∷ ops) =
    let bits = bits_of all k (branch_target op) in
    rw (joined-cons (least_bytes t bits op) (least_from t all (suc k) ops))
    (omega (arith, length-append (least_bytes t bits op) (joined (least_from t all (suc k) ops)), length_bits t bits 0 op, from_length t all (suc k) ops))

pub least_block_length : (t : Target) (ops : List Op) → length (least_block t ops) ≡ least_len t ops
unfolding least_block
least_block_length t ops = from_length t (blank_parts t ops) 0 ops

-- and no block of the operations is shorter than that
pub least_len_within : (t : Target) (ops : List Op) (bytes : List ℕ) → Block t ops bytes → least_len t ops ≤ length bytes
least_len_within t ops bytes b =
    let l = least_block_is t ops (in_range_of_block t ops bytes b) (block_fits t ops bytes b) in
    omega (arith, least_block_length t ops, least_no_longer t ops (least_block t ops) bytes l b)
