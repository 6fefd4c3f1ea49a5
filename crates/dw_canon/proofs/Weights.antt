-- How many bytes of the normal form the rules of instructions take, against the bytes of the instructions.
use Rattle.dw_row.specs.declared.rule.CfaRule.TheVariants as cfa
use Rattle.dw_row.specs.declared.rule.RegRule.TheVariants as rules
use Rattle.dw_canon.proofs.Words.{◌≡◌, ℕ, zero, suc, ◌+◌, ◌*◌, ◌<◌, ◌≤◌, true, false, cond, List, [], ◌∷◌, length, refl, ap, ◌∙◌, inl, inr, arith, ℤ, pos, negsuc, neg_ℤ, unsigned_abs, nat_lt, count_by}
use Rattle.dw_canon.proofs.Words.{is_positive, cases_Bool, length-append, Target, Register, shortest_uleb, shortest_sleb, shortest_uleb-most, shortest_uleb-one, shortest_uleb-ten, signed_length, leb_some}
use Rattle.dw_canon.proofs.Words.{least_block, Expression, Code, Both, least_block_exists, least_no_longer, Factors, Instr, SetLoc, Advance, DefCfaExpression, Set, CfaRule, RegRule, IsOffset, BlockSpells}
use Rattle.dw_canon.proofs.{Words.{InstrSpells, ProgramSpells, AdvanceSpells, RuleSpells, IsSpelled, by_table, moves_location, expression_bytes, rule_bytes, packed}, MemberLaws.count_more, Sums.{sum_of, if_own}}

-- ---- the bytes of rules

abbrev pub rule_len : Target → ℕ → RegRule → ℕ
rule_len t r x = length (rule_bytes t r x)

-- of the CFA's rule, where it is an expression
abbrev pub cfa_len : Target → CfaRule → ℕ
cfa_len t (cfa.Expression e) = 1 + length (expression_bytes t e)
cfa_len t other = 0

abbrev pub rule_weight : Target → Instr → ℕ
rule_weight t (Set r rule) = rule_len t r rule
rule_weight t i = 0

-- of the rule that an instruction gives this register
abbrev pub own_weight : Target → ℕ → Instr → ℕ
own_weight t r (Set q rule) = if_own q (rule_len t q rule) r
own_weight t r i = 0

abbrev pub cfa_weight : Target → Instr → ℕ
cfa_weight t (DefCfaExpression e) = 1 + length (expression_bytes t e)
cfa_weight t i = 0

-- ---- numbers

pub register_len : (r : ℕ) → r < 65536 → length (shortest_uleb r) ≤ 3
register_len r lt = shortest_uleb-most r 2 (omega arith)

pub abs_len : (n : ℤ) → IsOffset n → length (shortest_uleb (unsigned_abs n)) ≤ 10
abs_len n h = shortest_uleb-ten (unsigned_abs n) (omega (arith, h))

pub neg_len : (n : ℤ) → IsOffset n → length (shortest_sleb (neg_ℤ n)) ≤ 10
neg_len (pos zero) h = omega (arith, signed_length false 0, shortest_uleb-ten (2 * 0) (omega arith))
neg_len (pos (suc m)) h = omega (arith, signed_length true m, shortest_uleb-ten (2 * m) (omega (arith, h)))
neg_len (negsuc m) h = omega (arith, signed_length false (suc m), shortest_uleb-ten (2 * suc m) (omega (arith, h)))

pub packed_len : (low c r : ℕ) → length (packed low c r) ≤ 1 + length (shortest_uleb r)
packed_len low c r = elim (cases_Bool (nat_lt r 64)) [ inl e ↦ rw e (omega arith) | inr e ↦ rw e (omega arith) ]

offset_len : (t : Target) (r : ℕ) (n : ℤ) → IsOffset n → rule_len t r (rules.Offset n) ≤ 11 + length (shortest_uleb r)
offset_len t r n h = grind (arith, cases_Bool, is_positive, length-append, shortest_sleb, neg_ℤ, neg_len, packed, unsigned_abs, packed_len, abs_len)

val_len : (t : Target) (r : ℕ) (n : ℤ) → IsOffset n → rule_len t r (rules.ValOffset n) ≤ 11 + length (shortest_uleb r)
val_len t r n h = grind (arith, cases_Bool, is_positive, length-append, shortest_sleb, neg_ℤ, neg_len, unsigned_abs, abs_len)

-- ---- expressions

expression_len : (t : Target) (e : Expression) (b : List ℕ) → BlockSpells t e b → length (expression_bytes t e) + 1 ≤ 10 + length b
expression_len t e b h =
    let source = h.operations.0 in
    let least = least_block t e.ops in
    let shorter = least_no_longer t e.ops least h.block (least_block_exists t e.ops h.block source) source in
    let count = shortest_uleb-ten (length least) (omega (arith, shorter, h.counted.fits)) in
    omega (arith, shorter, count, length-append (shortest_uleb (length least)) least, ap length h.whole, length-append h.length_bytes h.block, leb_some h.length_bytes h.counted.shape)

block_some : (t : Target) (e : Expression) (b : List ℕ) → BlockSpells t e b → 1 ≤ length b
block_some t e b h = omega (arith, ap length h.whole, length-append h.length_bytes h.block, leb_some h.length_bytes h.counted.shape)

-- ---- instructions

both_len : (P Q : List ℕ → Type 0) (b : List ℕ) (h : Both P Q b) → length b ≡ length h.front + length h.back
both_len P Q b h = ap length h.whole ∙ length-append h.front h.back

behind : (c r : ℕ) (P : List ℕ → Type 0) (b : List ℕ) (h : Code c (Both (Register r) P) b) → 2 + length h.operands.back ≤ length b
behind c r P b h = omega (arith, ap length h.whole, both_len (Register r) P h.rest h.operands, leb_some h.operands.front h.operands.first.0.shape)

module _ (t : Target) (f : Factors) where
  rule_most : (r : ℕ) (rule : RegRule) (b : List ℕ) → RuleSpells t f r rule b → rule_len t r rule ≤ 6 * length b
  rule_most r rules.Unspecified b h = absurd h
  rule_most r (rules.Offset n) b (inl h) = omega (arith, offset_len t r n h.1.operands.range, shortest_uleb-one r (omega (arith, h.0)), ap length h.1.whole, leb_some h.1.rest h.1.operands.spelled.shape)
  rule_most r (rules.Offset n) b (inr (inl h)) =
      omega (arith, offset_len t r n h.operands.second.range, register_len r h.operands.first.1, behind 0x05 r _ b h, leb_some h.operands.back h.operands.second.spelled.shape)
  rule_most r (rules.Offset n) b (inr (inr h)) =
      omega (arith, offset_len t r n h.operands.second.range, register_len r h.operands.first.1, behind 0x11 r _ b h, leb_some h.operands.back h.operands.second.spelled.shape)
  rule_most r (rules.ValOffset n) b (inl h) = omega (arith, val_len t r n h.operands.second.range, register_len r h.operands.first.1, behind 0x14 r _ b h, leb_some h.operands.back h.operands.second.spelled.shape)
  rule_most r (rules.ValOffset n) b (inr h) = omega (arith, val_len t r n h.operands.second.range, register_len r h.operands.first.1, behind 0x15 r _ b h, leb_some h.operands.back h.operands.second.spelled.shape)
  rule_most r (rules.Register q) b h = grind (arith, length-append, register_len, leb_some)
  rule_most r (rules.Expression e) b h =
      omega (arith, length-append (shortest_uleb r) (expression_bytes t e), register_len r h.operands.first.1, behind 0x10 r _ b h, expression_len t e h.operands.back h.operands.second, block_some t e h.operands.back h.operands.second)
  rule_most r (rules.ValExpression e) b h =
      omega (arith, length-append (shortest_uleb r) (expression_bytes t e), register_len r h.operands.first.1, behind 0x16 r _ b h, expression_len t e h.operands.back h.operands.second, block_some t e h.operands.back h.operands.second)
  rule_most r rule b h = omega (arith, ap length h.whole, register_len r h.operands.1, leb_some h.rest h.operands.0.shape)

  advance_some : (delta : ℕ) (b : List ℕ) → AdvanceSpells t delta b → 1 ≤ length b
  advance_some delta b (inl h) = omega (arith, ap length h.1)
  advance_some delta b (inr (inl h)) = omega (arith, ap length h.whole)
  advance_some delta b (inr (inr (inl h))) = omega (arith, ap length h.whole)
  advance_some delta b (inr (inr (inr h))) = omega (arith, ap length h.whole)

  -- six bytes for each of its own are enough for the rule that it gives, and six are left where it moves the location
  instr_most : (i : Instr) (b : List ℕ) → IsSpelled t f i b → rule_weight t i + cfa_weight t i + 6 * cond (moves_location i) 1 0 ≤ 6 * length b
  instr_most (SetLoc a) b h = omega (arith, ap length h.whole)
  instr_most (Advance d) b h = omega (arith, advance_some h.0 b h.1)
  instr_most (DefCfaExpression e) b h = omega (arith, ap length h.whole, expression_len t e h.rest h.operands, block_some t e h.rest h.operands)
  instr_most (Set r rule) b h = omega (arith, rule_most r rule b h)
  instr_most i b h = omega arith

  pub program_most : (instrs : List Instr) (b : List ℕ) → ProgramSpells t f instrs b → sum_of (rule_weight t) instrs + sum_of (cfa_weight t) instrs + 6 * count_by moves_location instrs ≤ 6 * length b
  program_most [] b h = omega arith
  program_most (i ∷ instrs) b h = omega (
    arith,
    both_len (InstrSpells t f i) (ProgramSpells t f instrs) b h,
    instr_most i h.front (by_table t f i h.front h.first),
    program_most instrs h.back h.second,
    count_more i instrs (moves_location i) refl,
  )
