-- The spellings of each instruction, instruction by instruction.
use Rattle.dw_num.specs.Leb.{Register}
use Rattle.dw_op.specs.OpSpells.{Code, Both}
use Rattle.dw_cfa.proofs.Words.{◌≡◌, ℕ, ◌+◌, ◌*◌, ◌<◌, ◌⊎◌, List, [], ◌∷◌, Some, refl, ap, arith, inl, inr, ℤ, pos, ◌*ℤ◌, Factors, Instr, Opcode, RegRule, Target, Uleb, Sleb, Fixed, Address, Nop, SetLoc, Advance, DefCfa, DefCfaRegister}
use Rattle.dw_cfa.proofs.Words.{DefCfaOffset, DefCfaExpression, Set, Restore, RememberState, RestoreState, IsOffset, BlockSpells, InstrFormSpells, InstrSpells, opcode_of, opcode_table, form_of, InstrForm, none, one, two, OperandValue}
use Rattle.dw_cfa.proofs.{Words.{OperandSpells, EachEntry, offset_of, advanced}, CodeForms.{form_is, opcode_behind}, Codes.{low_known, opcode_known, ◌&◌}}
use Rattle.dw_row.specs.declared.rule.RegRule.TheVariants as rules
use Rattle.dw_cfa.specs.declared.opcode.Opcode.TheVariants as opcodes

-- ---- offsets

-- z is an operand that is spelled so, made by a function of it
pub record Scaled {N : Type 0} (Spelled : N → List ℕ → Type 0) (times : N → ℤ) (z : ℤ) (bytes : List ℕ) : Type 0 where
  pub operand : N
  pub spelled : Spelled operand bytes
  pub value : z ≡ times operand
  pub range : IsOffset z

-- an unsigned operand, also times the data factor, or a signed one times that
abbrev pub plain : ℕ → ℤ
plain n = pos n

abbrev pub by_factor : Factors → ℕ → ℤ
by_factor f n = pos n *ℤ f.data_factor

abbrev pub by_signed : Factors → ℤ → ℤ
by_signed f z = z *ℤ f.data_factor

abbrev pub Plain : ℤ → List ℕ → Type 0
Plain z bytes = Scaled Uleb plain z bytes

abbrev pub Factored : Factors → ℤ → List ℕ → Type 0
Factored f z bytes = Scaled Uleb (by_factor f) z bytes

abbrev pub SignedFactored : Factors → ℤ → List ℕ → Type 0
SignedFactored f z bytes = Scaled Sleb (by_signed f) z bytes

-- ---- the table

-- a code without operands
abbrev Alone : ℕ → List ℕ → Type 0
Alone code bytes = bytes ≡ code ∷ []

-- the forms of an advance, each with its delta
abbrev pub AdvanceSpells : Target → ℕ → List ℕ → Type 0
AdvanceSpells t delta bytes =
    ((delta < 64) × Alone (0x40 + delta) bytes)
    ⊎ (Code 0x02 (Fixed t.order 1 delta) bytes
    ⊎ (Code 0x03 (Fixed t.order 2 delta) bytes
    ⊎ Code 0x04 (Fixed t.order 4 delta) bytes))

-- the instructions that give register r this rule
abbrev pub RuleSpells : Target → Factors → ℕ → RegRule → List ℕ → Type 0
RuleSpells t f r rules.Unspecified bytes = ⊥
RuleSpells t f r rules.Undefined bytes = Code 0x07 (Register r) bytes
RuleSpells t f r rules.SameValue bytes = Code 0x08 (Register r) bytes
RuleSpells t f r (rules.Offset n) bytes =
    ((r < 64) × Code (0x80 + r) (Factored f n) bytes)
    ⊎ (Code 0x05 (Both (Register r) (Factored f n)) bytes
    ⊎ Code 0x11 (Both (Register r) (SignedFactored f n)) bytes)
RuleSpells t f r (rules.ValOffset n) bytes = Code 0x14 (Both (Register r) (Factored f n)) bytes ⊎ Code 0x15 (Both (Register r) (SignedFactored f n)) bytes
RuleSpells t f r (rules.Register q) bytes = Code 0x09 (Both (Register r) (Register q)) bytes
RuleSpells t f r (rules.Expression e) bytes = Code 0x10 (Both (Register r) (BlockSpells t e)) bytes
RuleSpells t f r (rules.ValExpression e) bytes = Code 0x16 (Both (Register r) (BlockSpells t e)) bytes

-- the bytes spell the instruction
abbrev pub IsSpelled : Target → Factors → Instr → List ℕ → Type 0
IsSpelled t f Nop bytes = Alone 0x00 bytes
IsSpelled t f (SetLoc a) bytes = Code 0x01 (Address t a) bytes
IsSpelled t f (Advance distance) bytes = (delta : ℕ) × AdvanceSpells t delta bytes × (distance ≡ delta * f.code_factor)
IsSpelled t f (DefCfa r n) bytes = Code 0x0c (Both (Register r) (Plain n)) bytes ⊎ Code 0x12 (Both (Register r) (SignedFactored f n)) bytes
IsSpelled t f (DefCfaRegister r) bytes = Code 0x0d (Register r) bytes
IsSpelled t f (DefCfaOffset n) bytes = Code 0x0e (Plain n) bytes ⊎ Code 0x13 (SignedFactored f n) bytes
IsSpelled t f (DefCfaExpression e) bytes = Code 0x0f (BlockSpells t e) bytes
IsSpelled t f (Set r rule) bytes = RuleSpells t f r rule bytes
IsSpelled t f (Restore r) bytes = ((r < 64) × Alone (0xc0 + r) bytes) ⊎ Code 0x06 (Register r) bytes
IsSpelled t f RememberState bytes = Alone 0x0a bytes
IsSpelled t f RestoreState bytes = Alone 0x0b bytes

-- ---- from the table

module _ (t : Target) (f : Factors) where
  -- what a form's operands spell behind a code
  abbrev FormSo : InstrForm → ℕ → Type 0
  FormSo (none made) code = IsSpelled t f made (code ∷ [])
  FormSo (one o make) code = (x : OperandValue o) (b : List ℕ) → IsOffset (offset_of (make x)) → OperandSpells t o x b → IsSpelled t f (make x) (code ∷ b)
  FormSo (two o p make) code = (x : OperandValue o) (y : OperandValue p) (b : List ℕ) → IsOffset (offset_of (make x y)) → Both (OperandSpells t o x) (OperandSpells t p y) b → IsSpelled t f (make x y) (code ∷ b)

  abbrev OpcodeSo : Opcode → ℕ → Type 0
  OpcodeSo opcode code = FormSo (form_of f opcode) code

  form_so : (form : InstrForm) (code : ℕ) (instr : Instr) (b : List ℕ) → FormSo form code → InstrFormSpells t form instr b → IsOffset (offset_of instr) → IsSpelled t f instr (code ∷ b)
  form_so (none made) code instr b h s range = rw (s.0, s.1) h
  form_so (one o make) code instr b h s range = rw s.1 (h s.0 b (rw s.1 at range) s.2)
  form_so (two o p make) code instr b h s range = rw s.2 (h s.0 s.1 b (rw s.2 at range) s.3)

  behind : {Operands : List ℕ → Type 0} (code : ℕ) (b : List ℕ) → Operands b → Code code Operands (code ∷ b)
  behind code b s = record { rest = b; operands = s; whole = refl }

  scaled : {N : Type 0} (Spelled : N → List ℕ → Type 0) (times : N → ℤ) (n : N) (b : List ℕ) → IsOffset (times n) → Spelled n b → Scaled Spelled times (times n) b
  scaled Spelled times n b k s = record { operand = n; spelled = s; value = refl; range = k }

  paired : {N : Type 0} (Spelled : N → List ℕ → Type 0) (times : N → ℤ) (r : ℕ) (n : N) (b : List ℕ) → IsOffset (times n) → Both (Register r) (Spelled n) b → Both (Register r) (Scaled Spelled times (times n)) b
  paired Spelled times r n b k s = record { front = s.front; back = s.back; first = s.first; second = scaled Spelled times n s.back k s.second; whole = s.whole }

  table_so : EachEntry OpcodeSo opcode_table
  table_so =
      refl & (λ x b k. behind 0x01 b)
      & (λ x b k s. (x, inr (inl (behind 0x02 b s)), refl))
      & (λ x b k s. (x, inr (inr (inl (behind 0x03 b s))), refl))
      & (λ x b k s. (x, inr (inr (inr (behind 0x04 b s))), refl))
      & (λ r n b k s. inr (inl (behind 0x05 b (paired Uleb (by_factor f) r n b k s))))
      & (λ r b k s. inr (behind 0x06 b s))
      & (λ r b k. behind 0x07 b) & (λ r b k. behind 0x08 b) & (λ r q b k. behind 0x09 b) & refl & refl
      & (λ r n b k s. inl (behind 0x0c b (paired Uleb plain r n b k s)))
      & (λ r b k. behind 0x0d b)
      & (λ n b k s. inl (behind 0x0e b (scaled Uleb plain n b k s)))
      & (λ e b k. behind 0x0f b) & (λ r e b k. behind 0x10 b)
      & (λ r z b k s. inr (inr (behind 0x11 b (paired Sleb (by_signed f) r z b k s))))
      & (λ r z b k s. inr (behind 0x12 b (paired Sleb (by_signed f) r z b k s)))
      & (λ z b k s. inr (behind 0x13 b (scaled Sleb (by_signed f) z b k s)))
      & (λ r n b k s. inl (behind 0x14 b (paired Uleb (by_factor f) r n b k s)))
      & (λ r z b k s. inr (behind 0x15 b (paired Sleb (by_signed f) r z b k s)))
      & (λ r e b k. behind 0x16 b) & tt

  low_so : (n : ℕ) → n < 64 → OpcodeSo (opcodes.AdvanceLoc n) (0x40 + n) × OpcodeSo (opcodes.Offset n) (0x80 + n) × OpcodeSo (opcodes.Restore n) (0xc0 + n)
  low_so n lt = ((n, inl (lt, refl), refl), (λ x b k s. inl (lt, behind (0x80 + n) b (scaled Uleb (by_factor f) x b k s))), inl (lt, refl))

  -- what is spelled by the table is spelled so
  pub by_table : (instr : Instr) (b : List ℕ) → InstrSpells t f instr b → IsSpelled t f instr b
  by_table instr b h =
      let o = opcode_behind f h.code h.form h.known in
      let so = opcode_known OpcodeSo table_so low_so h.code o.opcode o.known in
      rw h.whole (form_so (form_of f o.opcode) h.code instr h.rest so (rw o.is at h.operands) h.range)

-- ---- into it

module _ (t : Target) (f : Factors) where
  coded : (code : ℕ) (opcode : Opcode) (instr : Instr) (b : List ℕ) (Operands : List ℕ → Type 0) → Code code Operands b → opcode_of code ≡ Some opcode → IsOffset (offset_of instr)
      → ((c : List ℕ) → Operands c → InstrFormSpells t (form_of f opcode) instr c) → InstrSpells t f instr b
  coded code opcode instr b Operands h known range to =
      record { code = code; form = form_of f opcode; rest = h.rest; known = form_is f code opcode known; whole = h.whole; operands = to h.rest h.operands; range = range }

  alone : (code : ℕ) (opcode : Opcode) (instr : Instr) (b : List ℕ) → Alone code b → opcode_of code ≡ Some opcode → IsOffset (offset_of instr) → InstrFormSpells t (form_of f opcode) instr [] → InstrSpells t f instr b
  alone code opcode instr b h known range is = record { code = code; form = form_of f opcode; rest = []; known = form_is f code opcode known; whole = h; operands = is; range = range }

  -- a register, and an offset
  pair : {N : Type 0} (Spelled : N → List ℕ → Type 0) (times : N → ℤ) (make : ℕ → ℤ → Instr) (r : ℕ) (z : ℤ) (c : List ℕ) → Both (Register r) (Scaled Spelled times z) c
      → (x : ℕ) × (n : N) × (make r z ≡ make x (times n)) × Both (Register x) (Spelled n) c
  pair Spelled times make r z c s = (r, s.second.operand, ap (make r) s.second.value, record { front = s.front; back = s.back; first = s.first; second = s.second.spelled; whole = s.whole })

  rule_in : (r : ℕ) (rule : RegRule) (b : List ℕ) → RuleSpells t f r rule b → InstrSpells t f (Set r rule) b
  unfolding opcode_of
  rule_in r rules.Unspecified b h = absurd h
  rule_in r rules.Undefined b h = coded 0x07 opcodes.Undefined (Set r rules.Undefined) b (Register r) h refl (omega arith) (λ c s. (r, refl, s))
  rule_in r rules.SameValue b h = coded 0x08 opcodes.SameValue (Set r rules.SameValue) b (Register r) h refl (omega arith) (λ c s. (r, refl, s))
  rule_in r (rules.Offset z) b (inl h) =
      coded (0x80 + r) (opcodes.Offset r) (Set r (rules.Offset z)) b (Factored f z) h.1 (low_known r h.0).1 h.1.operands.range (λ c s. (s.operand, ap (λ (n : ℤ). Set r (rules.Offset n)) s.value, s.spelled))
  rule_in r (rules.Offset z) b (inr (inl h)) = coded 0x05 opcodes.OffsetExtended _ b _ h refl h.operands.second.range (pair Uleb (by_factor f) (λ q n. Set q (rules.Offset n)) r z)
  rule_in r (rules.Offset z) b (inr (inr h)) = coded 0x11 opcodes.OffsetExtendedSf _ b _ h refl h.operands.second.range (pair Sleb (by_signed f) (λ q n. Set q (rules.Offset n)) r z)
  rule_in r (rules.ValOffset z) b (inl h) = coded 0x14 opcodes.ValOffset _ b _ h refl h.operands.second.range (pair Uleb (by_factor f) (λ q n. Set q (rules.ValOffset n)) r z)
  rule_in r (rules.ValOffset z) b (inr h) = coded 0x15 opcodes.ValOffsetSf _ b _ h refl h.operands.second.range (pair Sleb (by_signed f) (λ q n. Set q (rules.ValOffset n)) r z)
  rule_in r (rules.Register q) b h = coded 0x09 opcodes.Register (Set r (rules.Register q)) b (Both (Register r) (Register q)) h refl (omega arith) (λ c s. (r, q, refl, s))
  rule_in r (rules.Expression e) b h = coded 0x10 opcodes.Expression (Set r (rules.Expression e)) b (Both (Register r) (BlockSpells t e)) h refl (omega arith) (λ c s. (r, e, refl, s))
  rule_in r (rules.ValExpression e) b h = coded 0x16 opcodes.ValExpression (Set r (rules.ValExpression e)) b (Both (Register r) (BlockSpells t e)) h refl (omega arith) (λ c s. (r, e, refl, s))

  advance_in : (delta : ℕ) (b : List ℕ) → AdvanceSpells t delta b → InstrSpells t f (advanced f delta) b
  unfolding opcode_of
  advance_in delta b (inl h) = alone (0x40 + delta) (opcodes.AdvanceLoc delta) (advanced f delta) b h.1 (low_known delta h.0).0 (omega arith) (refl, refl)
  advance_in delta b (inr (inl h)) = coded 0x02 opcodes.AdvanceLoc1 (advanced f delta) b (Fixed t.order 1 delta) h refl (omega arith) (λ c s. (delta, refl, s))
  advance_in delta b (inr (inr (inl h))) = coded 0x03 opcodes.AdvanceLoc2 (advanced f delta) b (Fixed t.order 2 delta) h refl (omega arith) (λ c s. (delta, refl, s))
  advance_in delta b (inr (inr (inr h))) = coded 0x04 opcodes.AdvanceLoc4 (advanced f delta) b (Fixed t.order 4 delta) h refl (omega arith) (λ c s. (delta, refl, s))

  -- what is spelled so is spelled by the table
  pub in_table : (instr : Instr) (b : List ℕ) → IsSpelled t f instr b → InstrSpells t f instr b
  unfolding opcode_of
  in_table Nop b h = alone 0x00 opcodes.Nop Nop b h refl (omega arith) (refl, refl)
  in_table (SetLoc a) b h = coded 0x01 opcodes.SetLoc (SetLoc a) b (Address t a) h refl (omega arith) (λ c s. (a, refl, s))
  in_table (Advance distance) b h = rw h.2 (advance_in h.0 b h.1)
  in_table (DefCfa r z) b (inl h) = coded 0x0c opcodes.DefCfa _ b _ h refl h.operands.second.range (pair Uleb plain (λ q n. DefCfa q n) r z)
  in_table (DefCfa r z) b (inr h) = coded 0x12 opcodes.DefCfaSf _ b _ h refl h.operands.second.range (pair Sleb (by_signed f) (λ q n. DefCfa q n) r z)
  in_table (DefCfaRegister r) b h = coded 0x0d opcodes.DefCfaRegister (DefCfaRegister r) b (Register r) h refl (omega arith) (λ c s. (r, refl, s))
  in_table (DefCfaOffset z) b (inl h) = coded 0x0e opcodes.DefCfaOffset (DefCfaOffset z) b (Plain z) h refl h.operands.range (λ c s. (s.operand, ap DefCfaOffset s.value, s.spelled))
  in_table (DefCfaOffset z) b (inr h) = coded 0x13 opcodes.DefCfaOffsetSf (DefCfaOffset z) b (SignedFactored f z) h refl h.operands.range (λ c s. (s.operand, ap DefCfaOffset s.value, s.spelled))
  in_table (DefCfaExpression e) b h = coded 0x0f opcodes.DefCfaExpression (DefCfaExpression e) b (BlockSpells t e) h refl (omega arith) (λ c s. (e, refl, s))
  in_table (Set r rule) b h = rule_in r rule b h
  in_table (Restore r) b (inl h) = alone (0xc0 + r) (opcodes.Restore r) (Restore r) b h.1 (low_known r h.0).2 (omega arith) (refl, refl)
  in_table (Restore r) b (inr h) = coded 0x06 opcodes.RestoreExtended (Restore r) b (Register r) h refl (omega arith) (λ c s. (r, refl, s))
  in_table RememberState b h = alone 0x0a opcodes.RememberState RememberState b h refl (omega arith) (refl, refl)
  in_table RestoreState b h = alone 0x0b opcodes.RestoreState RestoreState b h refl (omega arith) (refl, refl)
