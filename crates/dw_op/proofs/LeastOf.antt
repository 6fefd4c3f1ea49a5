-- The table of least spellings gives the least of all spellings.
use Rattle.std.proofs.{Common.{OnErr, is_ok, if◌then◌else◌}, lemmas.List.take-take}
use Rattle.dw_op.specs.Inner.LeastOf.{Puts, address}
use Rattle.dw_op.proofs.Words.{◌≡◌, ℕ, ◌+◌, ◌%◌, ◌^◌, ◌<◌, ◌≤◌, suc, List, [], ◌∷◌, ◌++◌, length, refl, sym, ap, subst, ◌∙◌, inl, inr, arith, ℤ, FitsSigned, ◌⊎◌, None, Some, Result, Ok, Err, OnOk, take, take-append-le, take-length, append_assoc, w64, cases_lt, length-append, mod-eq_of_lt, Target}
use Rattle.dw_op.proofs.Words.{Order, Size, Four, Eight, byte_count, fixed_bytes, Fixed, Uleb, Sleb, Register, length-fixed, shortest_uleb, shortest_sleb, shortest_uleb-spells, shortest_uleb-least, shortest_uleb-only}
use Rattle.dw_op.proofs.Words.{shortest_sleb-least, leb_some, Op, Addr, Const, Pick, PlusUconst, Bra, Skip, Reg, Breg, Fbreg, Piece, DerefSize, BitPiece, Implicit, Spelling, Code, Both, AnyTwo, IsSpelled, Counted}
use Rattle.dw_op.proofs.{Words.{AtMost, Least, operand_bytes, spelling_bytes, register_form, register_offset, least_spelling, least_bytes, bare, branch_target, Displaced, InRange, bits_of}, Branches.bytes_of_two}
use Rattle.dw_op.proofs.{LeastConst.{Best, Shortest, shortest_fixed, the_uleb, the_sleb, same_head, by_test, constant_best}, Lent.Ranges.modulo_below, Lent.Spellings.{by_table, in_table}}

-- ---- the shortest operands

the_register : (n : ℕ) → n < 2 ^ 16 → Shortest (Register n) (shortest_uleb n)
the_register n small = record { spells = (shortest_uleb-spells n (omega arith), small); least = λ c h. shortest_uleb-least n c h.0; only = λ c h. shortest_uleb-only n c h.0 }

these_bytes : (b : List ℕ) → Shortest (λ c. c ≡ b) b
these_bytes b = record { spells = refl; least = λ c e. rw e (omega arith); only = λ c e le. e }

the_both : (First Second : List ℕ → Type 0) (a b : List ℕ) → Shortest First a → Shortest Second b → Shortest (Both First Second) (a ++ b)
the_both First Second a b p q = record {
  spells = record { front = a; back = b; first = p.spells; second = q.spells; whole = refl };
  least = λ c h. rw h.whole (omega (arith, p.least h.front h.first, q.least h.back h.second, length-append a b, length-append h.front h.back));
  only = λ c h le.
      let first = p.least h.front h.first in
      let second = q.least h.back h.second in
      let total : length h.front + length h.back ≤ length a + length b = omega (arith, ap length h.whole, length-append a b, length-append h.front h.back) in
      rw (h.whole, p.only h.front h.first (omega arith), q.only h.back h.second (omega arith)) refl;
}

-- ---- a code and operands

module _ (t : Target) (op : Op) (code : ℕ) (Operands : List ℕ → Type 0) (operand : List ℕ) where
  -- the code with some operands, or what is longer
  abbrev OrLonger : List ℕ → Type 0
  OrLonger b = Code code Operands b ⊎ (suc (length operand) < length b)

  most : ((c : List ℕ) → Operands c → length operand ≤ length c) → (b : List ℕ) → OrLonger b → AtMost (code ∷ operand) b
  most short b (inr longer) = inl longer
  most short b (inl s) = rw s.whole (elim (cases_lt (length operand) (length s.rest)) [
    | inl lt ↦ inl (omega arith)
    | inr ge ↦ let le = short s.rest s.operands in inr (omega arith, omega arith)
  ])

  only_code : Shortest Operands operand → (b : List ℕ) → OrLonger b → length b ≤ suc (length operand) → b ≡ code ∷ operand
  only_code s b (inr longer) le = absurd (omega arith)
  only_code s b (inl c) le = c.whole ∙ ap (λ (r : List ℕ). code ∷ r) (s.only c.rest c.operands (omega (arith, ap length c.whole)))

  by_code : Shortest Operands operand → (Code code Operands (code ∷ operand) → IsSpelled t op (code ∷ operand)) → ((b : List ℕ) → IsSpelled t op b → OrLonger b) → Best t op (code ∷ operand)
  by_code s to from = record { found = found; only = λ b l. only_code s b (from b (by_table t op b l.spells)) (let e = (same_head t op b (code ∷ operand) l found).length_is in omega arith) }
    where
      found : Least t op (code ∷ operand)
      found = record { spells = in_table t op _ (to (record { rest = operand; operands = s.spells; whole = refl })); least = λ b c. most s.least b (from b (by_table t op b c)) }

-- ---- operation by operation

pub address_bytes : (o : Order) (s : Size) (a : ℕ) → a < 256 ^ byte_count s → spelling_bytes o (address s a) ≡ 0x03 ∷ fixed_bytes o (byte_count s) a
address_bytes o Four a fits = let e : a % 2 ^ 32 ≡ a = mod-eq_of_lt (omega arith) in rw e refl
address_bytes o Eight a fits = refl

address_best : (t : Target) (a : ℕ) → a < 256 ^ byte_count t.size → Best t (Addr a) (spelling_bytes t.order (address t.size a))
address_best t a fits = subst (Best t (Addr a)) (sym (address_bytes t.order t.size a fits)) (by_code t (Addr a) 0x03 (Fixed t.order (byte_count t.size) a) (fixed_bytes t.order (byte_count t.size) a) (shortest_fixed t.order (byte_count t.size) a fits) (λ c. c) (λ b c. inl c))

register_best : (t : Target) (n : ℕ) (b : List ℕ) → IsSpelled t (Reg n) b → Best t (Reg n) (spelling_bytes t.order (register_form n))
register_best t n b s = by_test (λ s. Best t (Reg n) (spelling_bytes t.order s)) n 32 _ _
    (λ lt. by_code t (Reg n) (0x50 + n) (λ c. c ≡ []) [] (these_bytes []) (λ c. inl (lt, refl)) low)
    (λ ge. by_code t (Reg n) 0x90 (Register n) (shortest_uleb n) (the_register n (omega arith)) (λ c. inr c) (high ge))
  where
    low : (b : List ℕ) → IsSpelled t (Reg n) b → Code (0x50 + n) (λ c. c ≡ []) b ⊎ (1 < length b)
    low b (inl p) = inl (record { rest = []; operands = refl; whole = p.1 })
    low b (inr p) = let some = leb_some p.rest p.operands.0.shape in inr (rw p.whole (omega arith))

    high : 32 ≤ n → (b : List ℕ) → IsSpelled t (Reg n) b → Code 0x90 (Register n) b ⊎ (suc (length (shortest_uleb n)) < length b)
    high ge b (inl p) = let lt = p.0 in absurd (omega arith)
    high ge b (inr p) = inl p

offset_best : (t : Target) (n : ℕ) (z : ℤ) (b : List ℕ) → IsSpelled t (Breg n z) b → Best t (Breg n z) (spelling_bytes t.order (register_offset n z))
offset_best t n z b s = by_test (λ s. Best t (Breg n z) (spelling_bytes t.order s)) n 32 _ _
    (λ lt. by_code t (Breg n z) (0x70 + n) (Sleb z) (shortest_sleb z) (the_sleb z (typed s).1) (λ c. inl (lt, c)) low)
    (λ ge. by_code t (Breg n z) 0x92 (Both (Register n) (Sleb z)) (shortest_uleb n ++ shortest_sleb z)
    (the_both (Register n) (Sleb z) (shortest_uleb n) (shortest_sleb z) (the_register n (typed s).0) (the_sleb z (typed s).1)) (λ c. inr c) (high ge))
  where
    typed : {b : List ℕ} → IsSpelled t (Breg n z) b → (n < 2 ^ 16) × FitsSigned w64 z
    typed (inl p) = (let lt = p.0 in omega arith, p.1.operands.fits)
    typed (inr p) = (p.operands.first.1, p.operands.second.fits)

    low : (b : List ℕ) → IsSpelled t (Breg n z) b → Code (0x70 + n) (Sleb z) b ⊎ (suc (length (shortest_sleb z)) < length b)
    low b (inl p) = inl p.1
    low b (inr p) =
        let o = p.operands in
        let some = leb_some o.front o.first.0.shape in
        let le = shortest_sleb-least z o.back o.second in
        inr (rw (p.whole, o.whole) (omega (arith, length-append o.front o.back)))

    high : 32 ≤ n → (b : List ℕ) → IsSpelled t (Breg n z) b → Code 0x92 (Both (Register n) (Sleb z)) b ⊎ (suc (length (shortest_uleb n ++ shortest_sleb z)) < length b)
    high ge b (inl p) = let lt = p.0 in absurd (omega arith)
    high ge b (inr p) = inl p

-- the table gives the only least spelling, but of a branch
pub table_best : (t : Target) (d : ℕ) (op : Op) (b : List ℕ) → IsSpelled t op b → branch_target op ≡ None → Best t op (least_bytes t d op)
unfolding least_bytes least_spelling
table_best t d (Addr a) b s e = address_best t a s.operands.fits
table_best t d (Const v) b s e = constant_best t v (rw s.value (modulo_below t.size s.number))
table_best t d (Pick i) b s e = by_code t (Pick i) 0x15 (Fixed t.order 1 i) (fixed_bytes t.order 1 i) (shortest_fixed t.order 1 i s.operands.fits) (λ c. c) (λ x c. inl c)
table_best t d (PlusUconst n) b s e = by_code t (PlusUconst n) 0x23 (Uleb n) (shortest_uleb n) (the_uleb n s.operands.fits) (λ c. c) (λ x c. inl c)
table_best t d (Bra i) b s e = absurd cc
table_best t d (Skip i) b s e = absurd cc
table_best t d (Reg n) b s e = register_best t n b s
table_best t d (Breg n z) b s e = offset_best t n z b s
table_best t d (Fbreg z) b s e = by_code t (Fbreg z) 0x91 (Sleb z) (shortest_sleb z) (the_sleb z s.operands.fits) (λ c. c) (λ x c. inl c)
table_best t d (Piece n) b s e = by_code t (Piece n) 0x93 (Uleb n) (shortest_uleb n) (the_uleb n s.operands.fits) (λ c. c) (λ x c. inl c)
table_best t d (DerefSize k) b s e = by_code t (DerefSize k) 0x94 (Fixed t.order 1 k) (fixed_bytes t.order 1 k) (shortest_fixed t.order 1 k s.0.operands.fits) (λ c. (c, s.1, s.2)) (λ x c. inl c.0)
table_best t d (BitPiece size offset) b s e =
    let o = s.operands in
    by_code t (BitPiece size offset) 0x9d (Both (Uleb size) (Uleb offset)) (shortest_uleb size ++ shortest_uleb offset)
    (the_both (Uleb size) (Uleb offset) (shortest_uleb size) (shortest_uleb offset) (the_uleb size o.first.fits) (the_uleb offset o.second.fits)) (λ c. c) (λ x c. inl c)
table_best t d (Implicit block) b s e =
    let n = length block.now in
    by_code t (Implicit block) 0x9e (Counted block.now) (shortest_uleb n ++ block.now)
    (the_both (Uleb n) (λ c. c ≡ block.now) (shortest_uleb n) block.now (the_uleb n s.1.operands.first.fits) (these_bytes block.now)) (λ c. (s.0, c)) (λ x c. inl c.1)
table_best t d other b s e = record { found = record { spells = in_table t other _ refl; least = λ x k. rw (by_table t other x k) (inr (refl, omega arith)) }; only = λ x l. by_table t other x l.spells }

branch_most : (t : Target) (op : Op) (code d : ℕ) (b : List ℕ) → Code code AnyTwo b → AtMost (code ∷ fixed_bytes t.order 2 d) b
branch_most t op code d b s = most t op code AnyTwo (fixed_bytes t.order 2 d) (λ rest h. rw h.4 (omega (arith, length-fixed t.order 2 d))) b (inl s)

-- the table gives least spellings
least_spelt : (t : Target) (d : ℕ) (op : Op) (b : List ℕ) → IsSpelled t op b → Least t op (least_bytes t d op)
unfolding least_bytes least_spelling
least_spelt t d (Bra i) b s = record { spells = in_table t (Bra i) _ (record { rest = fixed_bytes t.order 2 d; operands = bytes_of_two t.order d; whole = refl }); least = λ x k. branch_most t (Bra i) 0x28 d x (by_table t (Bra i) x k) }
least_spelt t d (Skip i) b s = record { spells = in_table t (Skip i) _ (record { rest = fixed_bytes t.order 2 d; operands = bytes_of_two t.order d; whole = refl }); least = λ x k. branch_most t (Skip i) 0x2f d x (by_table t (Skip i) x k) }
least_spelt t d other b s = (table_best t d other b s refl).found

pub least : (t : Target) (len d : ℕ) (op : Op) → InRange t len op → Least t op (least_bytes t d op)
least t len d op r = least_spelt t d op r.bytes (by_table t op r.bytes r.spelled)

-- ---- no other spelling is as short

branch_only : (o : Order) (code : ℕ) (all : List (List ℕ)) (k i : ℕ) (b : List ℕ) → Code code AnyTwo b → Displaced o all k (Some i) b → b ≡ code ∷ fixed_bytes o 2 (bits_of all k (Some i))
branch_only o code all k i b w d =
    let there : d.1 ∷ d.2.rest ≡ code ∷ w.rest = sym d.2.whole ∙ w.whole in
    let rest : d.2.rest ≡ w.rest = cc in
    w.whole ∙ ap (λ (r : List ℕ). code ∷ r) (sym rest ∙ d.2.operands.bytes)

-- a least spelling is the table's
pub only : (t : Target) (all : List (List ℕ)) (len k : ℕ) (op : Op) (b : List ℕ) → InRange t len op → Least t op b → Displaced t.order all k (branch_target op) b
    → b ≡ least_bytes t (bits_of all k (branch_target op)) op
unfolding least_bytes least_spelling
only t all len k (Bra i) b r l d = branch_only t.order 0x28 all k i b (by_table t (Bra i) b l.spells) d
only t all len k (Skip i) b r l d = branch_only t.order 0x2f all k i b (by_table t (Skip i) b l.spells) d
only t all len k other b r l d = (table_best t 0 other r.bytes (by_table t other r.bytes r.spelled) refl).only b l

-- ---- the table and what the code does with it

-- what is appended by a call, and what behind that
pub puts_by : {A E : Type 0} (r : Result A E) (P : Type 0) (old new bytes : List ℕ) → OnOk r P → (P → new ≡ old ++ bytes) → OnErr r (new ≡ old) → Puts r old new bytes
puts_by (Ok x) P old new bytes h f e = f h
puts_by (Err x) P old new bytes h f e = rw e (take-length old)

pub puts_slice : {A E : Type 0} (r : Result A E) (old new bytes : List ℕ) → new ≡ (if is_ok r then old ++ bytes else old) → Puts r old new bytes
puts_slice (Ok x) old new bytes h = h
puts_slice (Err x) old new bytes h = rw h (take-length old)

front_kept : (old mid new front : List ℕ) → mid ≡ old ++ front → take (length mid) new ≡ mid → take (length old) new ≡ old
front_kept old mid new front e h = sym (take-take (length old) (length mid) new (omega (arith, ap length e, length-append old front))) ∙ ap (take (length old)) (h ∙ e) ∙ take-append-le (length old) old front (omega arith) ∙ take-length old

pub puts_behind : {A E : Type 0} (r : Result A E) (old mid new front back : List ℕ) → mid ≡ old ++ front → Puts r mid new back → Puts r old new (front ++ back)
puts_behind (Ok x) old mid new front back e h = h ∙ ap (λ (l : List ℕ). l ++ back) e ∙ append_assoc old front back
puts_behind (Err x) old mid new front back e h = front_kept old mid new front e h

pub puts_all : {A E : Type 0} (r : Result A E) (old new bytes : List ℕ) → Puts r old new bytes → OnOk r (new ≡ old ++ bytes)
puts_all (Ok x) old new bytes h = h
puts_all (Err x) old new bytes h = tt

-- where the bytes of a block lie is no matter
pub bare_bytes : (t : Target) (d : ℕ) (op : Op) → least_bytes t d (bare op) ≡ least_bytes t d op
unfolding least_bytes least_spelling
bare_bytes t d (Implicit block) = refl
bare_bytes t d op = refl

-- a displacement does not change the length
pub length_bits : (t : Target) (d e : ℕ) (op : Op) → length (least_bytes t d op) ≡ length (least_bytes t e op)
unfolding least_bytes least_spelling
length_bits t d e (Bra i) = omega (arith, length-fixed t.order 2 d, length-fixed t.order 2 e)
length_bits t d e (Skip i) = omega (arith, length-fixed t.order 2 d, length-fixed t.order 2 e)
length_bits t d e op = refl

pub least_spelled : (t : Target) (d : ℕ) (op : Op) (s : Spelling) → s ≡ least_spelling t d op → spelling_bytes t.order s ≡ least_bytes t d (bare op)
unfolding least_bytes
least_spelled t d op s e = ap (spelling_bytes t.order) e ∙ sym (bare_bytes t d op)

pub least_length : (t : Target) (d e n : ℕ) (op : Op) (s : Spelling) → s ≡ least_spelling t d op → n ≡ length (operand_bytes t.order s.1) → 1 + n ≡ length (least_bytes t e (bare op))
least_length t d e n op s is len = omega (arith, len, ap length (least_spelled t d op s is), length_bits t d e (bare op))
