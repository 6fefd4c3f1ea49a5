-- Operations that have a block have a least one.
use Rattle.dw_op.proofs.Words.{◌≡◌, ℕ, suc, ◌+◌, ◌≤◌, List, [], ◌∷◌, ◌++◌, length, Option, Some, None, refl, ◌∙◌, arith, AllByRecursion, length-append, Target, fixed_bytes, Op, Bra, Skip, OpSpells, EachPart, Stands, Displaced, start}
use Rattle.dw_op.proofs.Words.{displacement, branch_target, joined, Block, AtMost, Least, LeastBlock, least_bytes, least_spelling, InRange, AllInRange, TargetWithin, blank_parts, bits_of, least_from, least_block, BranchFits, EachFits}
use Rattle.std.proofs.lemmas.List.Concat.{flat_map-cons}
use Rattle.dw_op.proofs.{LeastOf.{least, length_bits}, Shorter.{EachShorter, as_many, start_le, displacement_fits}}

pub length_of : (a b : List ℕ) → AtMost a b → length a ≤ length b
length_of a b most = omega arith

abbrev pub EachInRange : Target → ℕ → List Op → Type 0
EachInRange t len ops = AllByRecursion (InRange t len) ops

pub parts_length : (P : ℕ → Op → List ℕ → Type 0) (k : ℕ) (ops : List Op) (parts : List (List ℕ)) → EachPart P k ops parts → length parts ≡ length ops
parts_length P k [] [] h = refl
parts_length P k (op ∷ ops) (p ∷ parts) h = let e = parts_length P (suc k) ops parts h.1 in omega arith
parts_length P k ops parts h = absurd h

-- ---- the operations of a block are in range

each_in_range : (t : Target) (all : List (List ℕ)) (len k : ℕ) (ops : List Op) (parts : List (List ℕ)) → length all ≡ len → EachPart (Stands t all) k ops parts → EachInRange t len ops
each_in_range t all len k [] [] e h = tt
each_in_range t all len k (op ∷ ops) (p ∷ parts) e h =
    (record { bytes = p; spelled = h.0.spells; within_list = within (branch_target op) h.0.displaced }, each_in_range t all len (suc k) ops parts e h.1)
  where
    within : (target : Option ℕ) → Displaced t.order all k target p → TargetWithin len target
    within None d = tt
    within (Some i) d = let le = d.0 in omega arith
each_in_range t all len k ops parts e h = absurd h

pub in_range_of_block : (t : Target) (ops : List Op) (bytes : List ℕ) → Block t ops bytes → AllInRange t ops
in_range_of_block t ops bytes b = each_in_range t b.parts (length ops) 0 ops b.parts (parts_length (Stands t b.parts) 0 ops b.parts b.each) b.each

-- ---- no parts are shorter than the least ones

pub each_blank : (t : Target) (len k : ℕ) (ops : List Op) → EachInRange t len ops → EachPart (λ j. Least t) k ops (blank_parts t ops)
each_blank t len k [] r = tt
each_blank t len k (op ∷ ops) r = (least t len 0 op r.0, each_blank t len (suc k) ops r.1)

-- least spellings are no longer than others
pub each_parts : (t : Target) (P : ℕ → Op → List ℕ → Type 0) → ((k : ℕ) (op : Op) (p : List ℕ) → P k op p → OpSpells t op p) → (k : ℕ) (ops : List Op) (short long : List (List ℕ))
    → EachPart (λ k. Least t) k ops short → EachPart P k ops long → EachShorter short long
each_parts t P spells k [] [] [] l s = tt
each_parts t P spells k (op ∷ ops) (q ∷ short) (p ∷ long) l s = (length_of q p (l.0.least p (spells k op p s.0)), each_parts t P spells (suc k) ops short long l.1 s.1)
each_parts t P spells k ops short long l s = absurd assumption

-- no longer than the parts of a block
pub block_parts : (t : Target) (all : List (List ℕ)) (ops : List Op) (short long : List (List ℕ)) → EachPart (λ k. Least t) 0 ops short → EachPart (Stands t all) 0 ops long → EachShorter short long
block_parts t all ops short long l s = each_parts t (Stands t all) (λ k op p s. s.spells) 0 ops short long l s

pub each_fits : (t : Target) (least all : List (List ℕ)) (k : ℕ) (ops : List Op) (parts : List (List ℕ)) → EachShorter least all → EachPart (Stands t all) k ops parts → EachFits least k ops
each_fits t least all k [] [] short h = tt
each_fits t least all k (op ∷ ops) (p ∷ parts) short h = (fits (branch_target op) h.0.displaced, each_fits t least all (suc k) ops parts short h.1)
  where
    fits : (target : Option ℕ) → Displaced t.order all k target p → BranchFits least k target
    fits None d = tt
    fits (Some i) d = displacement_fits least all k i short d.2.operands.fits
each_fits t least all k ops parts short h = absurd h

-- every branch of a block fits the least spellings too
pub block_fits : (t : Target) (ops : List Op) (bytes : List ℕ) → Block t ops bytes → EachFits (blank_parts t ops) 0 ops
block_fits t ops bytes b = each_fits t (blank_parts t ops) b.parts 0 ops b.parts (block_parts t b.parts ops (blank_parts t ops) b.parts (each_blank t (length ops) 0 ops (in_range_of_block t ops bytes b)) b.each) b.each

-- ---- parts of the same lengths have the same displacements

abbrev pub SameLengths : List (List ℕ) → List (List ℕ) → Type 0
SameLengths as' bs = EachShorter as' bs × EachShorter bs as'

same_start : (as' bs : List (List ℕ)) (i : ℕ) → SameLengths as' bs → start as' i ≡ start bs i
same_start as' bs i h = omega (arith, start_le as' bs i h.0, start_le bs as' i h.1)

pub same_displacement : (as' bs : List (List ℕ)) (k i : ℕ) → SameLengths as' bs → displacement as' k i ≡ displacement bs k i
same_displacement as' bs k i h = rw (same_start as' bs i h, same_start as' bs (k + 1) h) refl

-- ---- the least spellings with their displacements, over parts of the lengths of blank ones

displaced : (t : Target) (all blank : List (List ℕ)) (k : ℕ) (op : Op) → SameLengths all blank → TargetWithin (length all) (branch_target op) → BranchFits blank k (branch_target op)
    → Displaced t.order all k (branch_target op) (least_bytes t (bits_of blank k (branch_target op)) op)
unfolding least_bytes least_spelling
displaced t all blank k (Bra i) same within fits = (within, 0x28, record { rest = fixed_bytes t.order 2 (bits_of blank k (Some i)); operands = rw (same_displacement all blank k i same) (record { bytes = refl; fits = fits }); whole = refl })
displaced t all blank k (Skip i) same within fits = (within, 0x2f, record { rest = fixed_bytes t.order 2 (bits_of blank k (Some i)); operands = rw (same_displacement all blank k i same) (record { bytes = refl; fits = fits }); whole = refl })
displaced t all blank k op same within fits = tt

each_least : (t : Target) (all blank : List (List ℕ)) (len k : ℕ) (ops : List Op) → SameLengths all blank → length all ≡ len → EachInRange t len ops → EachFits blank k ops
    → EachPart (λ k. Least t) k ops (least_from t blank k ops) × EachPart (Stands t all) k ops (least_from t blank k ops)
each_least t all blank len k [] same e r fits = (tt, tt)
each_least t all blank len k (op ∷ ops) same e r fits =
    let here = least t len (bits_of blank k (branch_target op)) op r.0 in
    let rest = each_least t all blank len (suc k) ops same e r.1 fits.1 in
    let within : TargetWithin (length all) (branch_target op) = rw e r.0.within_list in
    ((here, rest.0), (record { spells = here.spells; displaced = displaced t all blank k op same within fits.0 }, rest.1))

from_lengths : (t : Target) (all : List (List ℕ)) (k : ℕ) (ops : List Op) → SameLengths (least_from t all k ops) (blank_parts t ops)
from_lengths t all k [] = (tt, tt)
from_lengths t all k (op ∷ ops) =
    let e = length_bits t (bits_of all k (branch_target op)) 0 op in
    let more = from_lengths t all (suc k) ops in
    ((omega arith, more.0), (omega arith, more.1))

pub blank_length : (t : Target) (ops : List Op) → length (blank_parts t ops) ≡ length ops
blank_length t [] = refl
blank_length t (op ∷ ops) = let e = blank_length t ops in omega arith

-- where the branches fit, the table gives a least block
pub least_block_is : (t : Target) (ops : List Op) → AllInRange t ops → EachFits (blank_parts t ops) 0 ops → LeastBlock t ops (least_block t ops)
unfolding least_block
least_block_is t ops r fits =
    let blank = blank_parts t ops in
    let parts = least_from t blank 0 ops in
    let same = from_lengths t blank 0 ops in
    let both = each_least t parts blank (length ops) 0 ops same (as_many parts blank same.0 ∙ blank_length t ops) r fits in
    record { parts = parts; each = both.1; least = both.0; whole = refl }

-- operations that have a block have a least block
pub least_block_exists : (t : Target) (ops : List Op) (bytes : List ℕ) → Block t ops bytes → LeastBlock t ops (least_block t ops)
least_block_exists t ops bytes b = least_block_is t ops (in_range_of_block t ops bytes b) (block_fits t ops bytes b)

-- ---- lengths

pub joined-cons : (part : List ℕ) (parts : List (List ℕ)) → joined (part ∷ parts) ≡ part ++ joined parts
joined-cons part parts = flat_map-cons (λ p. p) part parts

pub joined_length : (parts : List (List ℕ)) → length (joined parts) ≡ start parts (length parts)
joined_length [] = refl
joined_length (p ∷ parts) = rw (joined-cons p parts) (omega (arith, length-append p (joined parts), joined_length parts))

-- a least block is no longer than any block of the same operations
pub least_no_longer : (t : Target) (ops : List Op) (a b : List ℕ) → LeastBlock t ops a → Block t ops b → length a ≤ length b
least_no_longer t ops a b small big =
    let shorter = block_parts t big.parts ops small.parts big.parts small.least big.each in
    let starts : start small.parts (length small.parts) ≤ start big.parts (length big.parts) = rw (← as_many small.parts big.parts shorter) (start_le small.parts big.parts (length small.parts) shorter) in
    rw (small.whole, big.whole) (omega (arith, joined_length small.parts, joined_length big.parts))

-- a least block is a block
pub block_of_least : (t : Target) (ops : List Op) (bytes : List ℕ) → LeastBlock t ops bytes → Block t ops bytes
block_of_least t ops bytes b = record { parts = b.parts; each = b.each; whole = b.whole }
