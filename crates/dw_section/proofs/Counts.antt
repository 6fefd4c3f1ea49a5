-- The rows that programs start.
use Rattle.dw_section.proofs.Words.{◌≡◌, ℕ, suc, ◌+◌, ◌≤◌, cond, List, [], ◌∷◌, ◌++◌, length, refl, sym, ap, ◌∙◌, arith, count_by, length-append, sum_by-cons, Order, Target, Factors, Instr, ProgramSpells, answers, moves_location}
use Rattle.dw_section.proofs.{Words.{row_starts, moves_in, Item, gap, entry, Piece, pieces, item_bytes, all_bytes, Head, cie, fde, total, nonempty, Range, range_of, Pieces, Listing, complete}, Items.item_some, Lent.Index.with_range_so}
use Rattle.dw_cfa.proofs.Lent.Listings.{some_spelled}

-- ---- one program

moves_complete : (instrs : List Instr) → moves_in (answers (complete instrs)) ≡ count_by moves_location instrs
moves_complete [] = refl
moves_complete (i ∷ instrs) = ap (λ (n : ℕ). cond (moves_location i) 1 0 + n) (moves_complete instrs) ∙ sym (sum_by-cons (λ (x : Instr). cond (moves_location x) 1 0) i instrs)

length_complete : (instrs : List Instr) → length (answers (complete instrs)) ≡ length instrs
length_complete [] = refl
length_complete (i ∷ instrs) = ap suc (length_complete instrs)

program_few : (t : Target) (f : Factors) (instrs : List Instr) (bytes : List ℕ) → ProgramSpells t f instrs bytes → length instrs ≤ length bytes
program_few t f [] bytes p = omega arith
program_few t f (i ∷ instrs) bytes p = omega (arith, some_spelled t f i p.front p.first, program_few t f instrs p.back p.second, ap length p.whole, length-append p.front p.back)

pub answers_few : (t : Target) (f : Factors) (instrs : List Instr) (bytes : List ℕ) (l : Listing) → ProgramSpells t f instrs bytes → l ≡ complete instrs → length bytes ≤ 2147483647 → length (answers l) ≤ 2147483647
answers_few t f instrs bytes l p e le = let few = program_few t f instrs bytes p in let same : length (answers l) ≡ length instrs = ap (λ (x : Listing). length (answers x)) e ∙ length_complete instrs in omega arith

pub starts_so : (instrs : List Instr) (l : Listing) (n : ℕ) → l ≡ complete instrs → n ≡ 1 + moves_in (answers l) → n ≡ row_starts instrs
starts_so instrs l n e is = is ∙ ap (λ (x : Listing). 1 + moves_in (answers x)) e ∙ ap (λ (m : ℕ). 1 + m) (moves_complete instrs)

-- ---- sums

pub total_push : (ns : List ℕ) (n : ℕ) → total (ns ++ n ∷ []) ≡ total ns + n
total_push [] n = omega arith
total_push (m ∷ ns) n = let rest = total_push ns n in omega arith

-- ---- a section has few entries

pub pieces_few : (order : Order) (at : ℕ) (items : List Item) → length (pieces order at items) ≤ length (all_bytes order items)
pieces_few order at [] = omega arith
pieces_few order at (gap ∷ items) = let rest = pieces_few order (at + 4) items in let all = length-append (item_bytes order gap) (all_bytes order items) in omega arith
pieces_few order at (entry form body ∷ items) =
    let item = entry form body in
    omega (arith, pieces_few order (at + length (item_bytes order item)) items, length-append (item_bytes order item) (all_bytes order items), item_some order item)

pub nonempty_few : (hs : List Head) → length (nonempty hs) ≤ length hs
nonempty_few [] = omega arith
nonempty_few (cie c ∷ hs) = let p = nonempty_few hs in omega arith
nonempty_few (fde f ∷ hs) = let p = nonempty_few hs in with_range_so (λ (rs : List Range). length rs ≤ suc (length hs)) (range_of f) (nonempty hs) (λ none. omega (arith, p)) (λ some. omega (arith, p))

pub few_pieces : (target : Target) (s : List ℕ) (ps : List Piece) → Pieces target s ps → length ps ≤ 2147483647
few_pieces target s ps p = omega (arith, pieces_few target.order 0 p.items, ap length p.are, ap length p.cut.whole, p.small)
