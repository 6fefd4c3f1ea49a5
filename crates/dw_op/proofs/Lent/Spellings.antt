-- What is spelled by the table is what is spelled operation by operation.
use Rattle.dw_op.specs.Operands.{address, one}
use Rattle.dw_op.proofs.Words.{◌≡◌, ℕ, ◌+◌, ◌-◌, ◌<◌, List, [], ◌∷◌, Some, refl, sym, ap, subst, ◌∙◌, arith, inl, inr, ℤ, pos, w8, w16, w32, w64, cases_Bool, Target, Uleb, Sleb, Register, Fixed, FixedSigned, Address, Op, Addr, Const}
use Rattle.dw_op.proofs.Words.{Pick, PlusUconst, Bra, Skip, Reg, Breg, Fbreg, Piece, DerefSize, BitPiece, Implicit, alone_code, Field, fixed, twos, unsigned, signed, register, size, block, FieldValue, OpForm, none, two, branch, constant}
use Rattle.dw_op.proofs.Words.{natural, implicit, op_form_table, in_range, form_of, Code, Both, AnyTwo, FieldSpells, OpFormSpells, OpSpells, Alone, Counted, ConstForm, Const1u, Const1s}
use Rattle.dw_op.proofs.{Words.{Const2u, Const2s, Const4u, Const4s, Const8u, Const8s, Constu, Consts, Lit, Unsigned, Written, IsSpelled}, Lent.ReadingLaws.{EachEntry, looked_up, ◌&◌, range_is, some_is, small_const, within, above, breg_form}}

-- ---- from the table

module _ (t : Target) where
  made_so : (made op : Op) (b : List ℕ) → op ≡ made → IsSpelled t made b → IsSpelled t op b
  made_so made op b e h = subst (λ (o : Op). IsSpelled t o b) (sym e) h

  -- what a form's operands spell behind a code
  abbrev FormSo : OpForm → ℕ → Type 0
  FormSo (none made) code = IsSpelled t made (code ∷ [])
  FormSo (one o make) code = (x : FieldValue o) (b : List ℕ) → FieldSpells t o x b → IsSpelled t (make x) (code ∷ b)
  FormSo (two o p make) code = (x : FieldValue o) (y : FieldValue p) (b : List ℕ) → Both (FieldSpells t o x) (FieldSpells t p y) b → IsSpelled t (make x y) (code ∷ b)
  FormSo (branch to) code = (i : ℕ) (b : List ℕ) → AnyTwo b → IsSpelled t (to i) (code ∷ b)

  form_so : (form : OpForm) (code : ℕ) (op : Op) (b : List ℕ) → FormSo form code → OpFormSpells t form op b → IsSpelled t op (code ∷ b)
  form_so (none made) code op b h s = made_so made op (code ∷ b) s.0 (subst (λ (c : List ℕ). IsSpelled t made (code ∷ c)) (sym s.1) h)
  form_so (one o make) code op b h s = made_so (make s.0) op (code ∷ b) s.1 (h s.0 b s.2)
  form_so (two o p make) code op b h s = made_so (make s.0 s.1) op (code ∷ b) s.2 (h s.0 s.1 b s.3)
  form_so (branch to) code op b h s = made_so (to s.0) op (code ∷ b) s.1 (h s.0 b s.2)

  constant_so : (form : ConstForm) (x : ℤ) (b : List ℕ) → Written t.order form x b → IsSpelled t (constant t x) b
  constant_so form x b h = record { form = form; number = x; written = h; value = refl }

  behind : {Operands : List ℕ → Type 0} (code : ℕ) (b : List ℕ) → Operands b → Code code Operands (code ∷ b)
  behind code b s = record { rest = b; operands = s; whole = refl }

  number : (Spells : ℕ → List ℕ → Type 0) (x : ℕ) (b : List ℕ) → Spells x b → Unsigned Spells (pos x) b
  number Spells x b s = record { number = x; is = refl; spelled = s }

  table_so : EachEntry FormSo (op_form_table t)
  table_so =
      (λ x. behind 0x03) & refl
      & (λ x b s. constant_so Const1u (pos x) (0x08 ∷ b) (behind 0x08 b (number (Fixed t.order 1) x b s)))
      & (λ x b s. constant_so Const1s x (0x09 ∷ b) (behind 0x09 b s))
      & (λ x b s. constant_so Const2u (pos x) (0x0a ∷ b) (behind 0x0a b (number (Fixed t.order 2) x b s)))
      & (λ x b s. constant_so Const2s x (0x0b ∷ b) (behind 0x0b b s))
      & (λ x b s. constant_so Const4u (pos x) (0x0c ∷ b) (behind 0x0c b (number (Fixed t.order 4) x b s)))
      & (λ x b s. constant_so Const4s x (0x0d ∷ b) (behind 0x0d b s))
      & (λ x b s. constant_so Const8u (pos x) (0x0e ∷ b) (behind 0x0e b (number (Fixed t.order 8) x b s)))
      & (λ x b s. constant_so Const8s x (0x0f ∷ b) (behind 0x0f b s))
      & (λ x b s. constant_so Constu (pos x) (0x10 ∷ b) (behind 0x10 b (number Uleb x b s)))
      & (λ x b s. constant_so Consts x (0x11 ∷ b) (behind 0x11 b s))
      & refl & refl & refl & (λ x. behind 0x15)
      & refl & refl & refl & refl & refl & refl & refl & refl & refl & refl & refl & refl & (λ x. behind 0x23)
      & refl & refl & refl & refl & (λ i. behind 0x28) & refl & refl & refl & refl & refl & refl & (λ i. behind 0x2f)
      & (λ x b s. inr (behind 0x90 b s)) & (λ x. behind 0x91) & (λ x y b s. inr (behind 0x92 b s)) & (λ x. behind 0x93)
      & (λ x b s. (behind 0x94 b s.0, s.1, s.2)) & refl & refl & refl & (λ x y. behind 0x9d)
      & (λ x b s. (refl, behind 0x9e b s)) & refl & tt

  lit_so : (code n : ℕ) → code ≡ 0x30 + n → n < 32 → FormSo (none (Const n)) code
  lit_so code n is lt = record { form = Lit; number = pos n; written = record { number = n; is = refl; spelled = (lt, ap (λ (c : ℕ). c ∷ []) is) }; value = small_const t.size n (omega arith) }

  known_so : (code : ℕ) (form : OpForm) → form_of t code ≡ Some form → FormSo form code
  unfolding form_of
  known_so code form e = elim (cases_Bool (in_range 0x30 0x50 code)) [
    | inl y ↦
        let r = range_is 0x30 0x50 code y in
        subst (λ (x : OpForm). FormSo x code) (some_is (none (Const (code - 0x30))) form (rw y at e)) (lit_so code (code - 0x30) (omega (arith, r.0)) (omega (arith, r.1)))
    | inr n ↦ let e1 = rw n at e in elim (cases_Bool (in_range 0x50 0x70 code)) [
      | inl y ↦
          let r = range_is 0x50 0x70 code y in
          subst (λ (x : OpForm). FormSo x code) (some_is (none (Reg (code - 0x50))) form (rw y at e1)) (inl (omega (arith, r.0, r.1), ap (λ (c : ℕ). c ∷ []) (omega (arith, r.0))))
      | inr n ↦ let e2 = rw n at e1 in elim (cases_Bool (in_range 0x70 0x90 code)) [
        | inl y ↦
            let r = range_is 0x70 0x90 code y in
            subst (λ (x : OpForm). FormSo x code) (some_is (one signed (Breg (code - 0x70))) form (rw y at e2)) (λ z b s. inl (omega (arith, r.0, r.1), record { rest = b; operands = s; whole = ap (λ (c : ℕ). c ∷ b) (omega (arith, r.0)) }))
        | inr n ↦ looked_up FormSo (op_form_table t) code form table_so (rw n at e2)
      ]
    ]
  ]

  -- what is spelled by the table is spelled so
  pub by_table : (op : Op) (b : List ℕ) → OpSpells t op b → IsSpelled t op b
  by_table op b h = subst (IsSpelled t op) (sym h.whole) (form_so h.form h.code op h.rest (known_so h.code h.form h.known) h.operands)

-- ---- into it

module _ (t : Target) where
  coded : (code : ℕ) (form : OpForm) (op : Op) (b : List ℕ) (Operands : List ℕ → Type 0) → Code code Operands b → form_of t code ≡ Some form → ((c : List ℕ) → Operands c → OpFormSpells t form op c) → OpSpells t op b
  coded code form op b Operands h known to = record { code = code; form = form; rest = h.rest; known = known; whole = h.whole; operands = to h.rest h.operands }

  alone : (code : ℕ) (op : Op) (b : List ℕ) → Alone code b → form_of t code ≡ Some (none op) → OpSpells t op b
  alone code op b h known = record { code = code; form = none op; rest = []; known = known; whole = h; operands = (refl, refl) }

  lit_known : (n : ℕ) → n < 32 → form_of t (0x30 + n) ≡ Some (none (Const n))
  unfolding form_of
  lit_known n lt = rw (within 0x30 0x50 (0x30 + n) (omega arith) (omega arith)) (ap (λ (m : ℕ). Some (none (Const m))) (omega arith))

  reg_known : (n : ℕ) → n < 32 → form_of t (0x50 + n) ≡ Some (none (Reg n))
  unfolding form_of
  reg_known n lt = rw (above 0x30 0x50 (0x50 + n) (omega arith) (omega arith), within 0x50 0x70 (0x50 + n) (omega arith) (omega arith)) (ap (λ (m : ℕ). Some (none (Reg m))) (omega arith))

  breg_known : (n : ℕ) → n < 32 → form_of t (0x70 + n) ≡ Some (one signed (Breg n))
  breg_known n lt = breg_form t (0x70 + n) (omega arith) (omega arith) ∙ ap (λ (m : ℕ). Some (one signed (Breg m))) (omega arith)

  natural_in : (code : ℕ) (o : Field) (make : FieldValue o → Op) (Number : ℕ → List ℕ → Type 0) (z : ℤ) (b : List ℕ) → Code code (Unsigned Number z) b → form_of t code ≡ Some (one o make)
      → ((n : ℕ) (c : List ℕ) → Number n c → OpFormSpells t (one o make) (constant t (pos n)) c) → OpSpells t (constant t z) b
  natural_in code o make Number z b h known to =
      subst (λ (w : ℤ). OpSpells t (constant t w) b) (sym h.operands.is)
      (record { code = code; form = one o make; rest = h.rest; known = known; whole = h.whole; operands = to h.operands.number h.rest h.operands.spelled })

  constant_in : (form : ConstForm) (z : ℤ) (b : List ℕ) → Written t.order form z b → OpSpells t (constant t z) b
  unfolding form_of
  constant_in Const1u z b h = natural_in 0x08 (fixed 1) (natural t) (Fixed t.order 1) z b h refl (λ n c s. (n, refl, s))
  constant_in Const1s z b h = coded 0x09 (one (twos w8) (constant t)) (constant t z) b (FixedSigned t.order w8 z) h refl (λ c s. (z, refl, s))
  constant_in Const2u z b h = natural_in 0x0a (fixed 2) (natural t) (Fixed t.order 2) z b h refl (λ n c s. (n, refl, s))
  constant_in Const2s z b h = coded 0x0b (one (twos w16) (constant t)) (constant t z) b (FixedSigned t.order w16 z) h refl (λ c s. (z, refl, s))
  constant_in Const4u z b h = natural_in 0x0c (fixed 4) (natural t) (Fixed t.order 4) z b h refl (λ n c s. (n, refl, s))
  constant_in Const4s z b h = coded 0x0d (one (twos w32) (constant t)) (constant t z) b (FixedSigned t.order w32 z) h refl (λ c s. (z, refl, s))
  constant_in Const8u z b h = natural_in 0x0e (fixed 8) (natural t) (Fixed t.order 8) z b h refl (λ n c s. (n, refl, s))
  constant_in Const8s z b h = coded 0x0f (one (twos w64) (constant t)) (constant t z) b (FixedSigned t.order w64 z) h refl (λ c s. (z, refl, s))
  constant_in Constu z b h = natural_in 0x10 unsigned (natural t) Uleb z b h refl (λ n c s. (n, refl, s))
  constant_in Consts z b h = coded 0x11 (one signed (constant t)) (constant t z) b (Sleb z) h refl (λ c s. (z, refl, s))
  constant_in Lit z b h =
      let same : constant t z ≡ Const h.number = ap (constant t) h.is ∙ ap Const (sym (small_const t.size h.number (let lt = h.spelled.0 in omega arith))) in
      subst (λ (op : Op). OpSpells t op b) (sym same) (alone (0x30 + h.number) (Const h.number) b h.spelled.1 (lit_known h.number h.spelled.0))

  -- what is spelled so is spelled by the table
  pub in_table : (op : Op) (b : List ℕ) → IsSpelled t op b → OpSpells t op b
  unfolding form_of
  in_table (Addr a) b h = coded 0x03 (one address Addr) (Addr a) b (Address t a) h refl (λ c s. (a, refl, s))
  in_table (Const v) b h = subst (λ (n : ℕ). OpSpells t (Const n) b) (sym h.value) (constant_in h.form h.number b h.written)
  in_table (Pick i) b h = coded 0x15 (one (fixed 1) Pick) (Pick i) b (Fixed t.order 1 i) h refl (λ c s. (i, refl, s))
  in_table (PlusUconst n) b h = coded 0x23 (one unsigned PlusUconst) (PlusUconst n) b (Uleb n) h refl (λ c s. (n, refl, s))
  in_table (Bra i) b h = coded 0x28 (branch Bra) (Bra i) b AnyTwo h refl (λ c s. (i, refl, s))
  in_table (Skip i) b h = coded 0x2f (branch Skip) (Skip i) b AnyTwo h refl (λ c s. (i, refl, s))
  in_table (Reg r) b (inl h) = alone (0x50 + r) (Reg r) b h.1 (reg_known r h.0)
  in_table (Reg r) b (inr h) = coded 0x90 (one register Reg) (Reg r) b (Register r) h refl (λ c s. (r, refl, s))
  in_table (Breg r z) b (inl h) = coded (0x70 + r) (one signed (Breg r)) (Breg r z) b (Sleb z) h.1 (breg_known r h.0) (λ c s. (z, refl, s))
  in_table (Breg r z) b (inr h) = coded 0x92 (two register signed Breg) (Breg r z) b (Both (Register r) (Sleb z)) h refl (λ c s. (r, z, refl, s))
  in_table (Fbreg z) b h = coded 0x91 (one signed Fbreg) (Fbreg z) b (Sleb z) h refl (λ c s. (z, refl, s))
  in_table (Piece n) b h = coded 0x93 (one unsigned Piece) (Piece n) b (Uleb n) h refl (λ c s. (n, refl, s))
  in_table (DerefSize k) b h = coded 0x94 (one size DerefSize) (DerefSize k) b (Fixed t.order 1 k) h.0 refl (λ c s. (k, refl, (s, h.1, h.2)))
  in_table (BitPiece m n) b h = coded 0x9d (two unsigned unsigned BitPiece) (BitPiece m n) b (Both (Uleb m) (Uleb n)) h refl (λ c s. (m, n, refl, s))
  in_table (Implicit bytes) b h =
      let same : Implicit bytes ≡ implicit bytes.now = ap (λ (p : ℕ × ℕ). Implicit (record { ref_ptr = p; now = bytes.now })) h.0 in
      coded 0x9e (one block implicit) (Implicit bytes) b (Counted bytes.now) h.1 refl (λ c s. (bytes.now, same, s))
  in_table other b h = alone (alone_code other) other b h refl
