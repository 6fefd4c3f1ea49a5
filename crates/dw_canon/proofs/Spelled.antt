-- The bytes of an instruction in the normal form spell it.
use Rattle.dw_canon.proofs.Words.{◌≡◌, ◌⊎◌, ℕ, zero, suc, ◌+◌, ◌*◌, ◌<◌, ◌^◌, true, false, List, [], ◌∷◌, ◌++◌, length, refl, sym, inl, inr, arith, ℤ, pos, negsuc, unsigned_abs, nat_lt, FitsSigned, IsTrue, w64, AllByRecursion}
use Rattle.dw_canon.proofs.Words.{lt-ltb, le-ltb, Target, Size, Four, Eight, Register, Address, fixed_bytes, is_specified, shortest_uleb, shortest_sleb, byte_count, address_limit, shortest_uleb-spells, shortest_sleb-spells}
use Rattle.dw_canon.proofs.Words.{least_block, Expression, Code, Both, least_block_exists, least_no_longer, block_of_least, Instr, SetLoc, Advance, DefCfa, DefCfaRegister, DefCfaOffset, DefCfaExpression, Set, Restore, RegRule, IsOffset}
use Rattle.dw_canon.proofs.Words.{BlockSpells, InstrSpells, ProgramSpells, Plain, Factored, SignedFactored, AdvanceSpells, RuleSpells, IsSpelled, in_table, HasBlock, RuleFits, InstrFits, expression_bytes, rule_bytes, instr_bytes}
use Rattle.dw_canon.proofs.Words.{program_bytes, advance_bytes, packed, factors, Alone}
use Rattle.std.proofs.lemmas.Int.{fits_signed_from_abs}
use Rattle.dw_canon.specs.Spelling.{instr_bytes as instr_with}
use Rattle.dw_row.specs.declared.rule.RegRule.TheVariants as rules

code : (c : ℕ) (P : List ℕ → Type 0) (rest : List ℕ) → P rest → Code c P (c ∷ rest)
code c P rest h = record { rest = rest; operands = h; whole = refl }

both : (P Q : List ℕ → Type 0) (a b : List ℕ) → P a → Q b → Both P Q (a ++ b)
both P Q a b h k = record { front = a; back = b; first = h; second = k; whole = refl }

register : (r : ℕ) → r < 65536 → Register r (shortest_uleb r)
register r lt = (shortest_uleb-spells r (omega arith), lt)

positive : (n : ℕ) → nat_lt 0 (suc n) ≡ true
positive n = lt-ltb 0 (suc n) (omega arith)

not_below : (n : ℕ) → nat_lt n 0 ≡ false
not_below n = le-ltb n 0 (omega arith)

times_one : (n : ℕ) → n * 1 ≡ n
times_one n = omega arith

module _ (t : Target) where
  plain_is : (n : ℕ) → IsOffset (pos n) → Plain (pos n) (shortest_uleb n)
  plain_is n h = record { operand = n; spelled = shortest_uleb-spells n (omega (arith, h)); value = refl; range = h }

  -- a number that is not above 0 is an unsigned operand times -1
  factored_zero : Factored factors (pos 0) (shortest_uleb 0)
  factored_zero = record { operand = 0; spelled = shortest_uleb-spells 0 (omega arith); value = refl; range = omega arith }

  factored_is : (n : ℕ) → IsOffset (negsuc n) → Factored factors (negsuc n) (shortest_uleb (suc n))
  factored_is n h = record { operand = suc n; spelled = shortest_uleb-spells (suc n) (omega (arith, h)); value = rw (times_one (suc n)) refl; range = h }

  fits_signed : (z : ℤ) → unsigned_abs z < 2 ^ 63 → FitsSigned w64 z
  fits_signed z h = fits_signed_from_abs w64 z h

  signed_above : (n : ℕ) → IsOffset (pos (suc n)) → SignedFactored factors (pos (suc n)) (shortest_sleb (negsuc n))
  signed_above n h = record { operand = negsuc n; spelled = shortest_sleb-spells (negsuc n) (fits_signed (negsuc n) h); value = rw (times_one (suc n)) refl; range = h }

  signed_below : (n : ℕ) → IsOffset (negsuc n) → SignedFactored factors (negsuc n) (shortest_sleb (pos (suc n)))
  signed_below n h = record { operand = pos (suc n); spelled = shortest_sleb-spells (pos (suc n)) (fits_signed (pos (suc n)) h); value = rw (times_one (suc n)) refl; range = h }

  -- ---- blocks

  block_is : (e : Expression) → HasBlock t e → BlockSpells t e (expression_bytes t e)
  block_is e h =
      let source = h.1.1.0 in
      let least = least_block_exists t e.ops h.1.0 source in
      let shorter = least_no_longer t e.ops (least_block t e.ops) h.1.0 least source in
      record {
        length_bytes = shortest_uleb (length (least_block t e.ops));
        block = least_block t e.ops;
        counted = shortest_uleb-spells (length (least_block t e.ops)) (omega (arith, shorter, h.1.2));
        operations = (block_of_least t e.ops (least_block t e.ops) least, h.1.1.1);
        same_target = h.0;
        whole = refl;
      }

  -- ---- advances

  advance_is : (delta : ℕ) → delta < 2 ^ 32 → AdvanceSpells t delta (advance_bytes t.order delta)
  advance_is delta lt = grind arith

  -- ---- rules

  packed_is : (low c r : ℕ) (P : List ℕ → Type 0) (rest : List ℕ) → r < 65536 → P rest
      → ((r < 64) × Code (low + r) P (packed low c r ++ rest)) ⊎ Code c (Both (Register r) P) (packed low c r ++ rest)
  packed_is low c r P rest lt h = grind (arith, register)

  packed_alone : (low c r : ℕ) → r < 65536 → ((r < 64) × Alone (low + r) (packed low c r)) ⊎ Code c (Register r) (packed low c r)
  packed_alone low c r lt = grind (arith, register)

  with_register : (c r : ℕ) (P : List ℕ → Type 0) (rest : List ℕ) → r < 65536 → P rest → Code c (Both (Register r) P) (c ∷ (shortest_uleb r ++ rest))
  with_register c r P rest lt h = code c (Both (Register r) P) (shortest_uleb r ++ rest) (both (Register r) P (shortest_uleb r) rest (register r lt) h)

  -- one of three, of which the first two are given together
  of_packed : {A B C : Type 0} → A ⊎ B → A ⊎ (B ⊎ C)
  of_packed (inl a) = inl a
  of_packed (inr b) = inr (inl b)

  rule_spelled : (r : ℕ) (rule : RegRule) → r < 65536 → RuleFits t rule → IsTrue (is_specified rule) → RuleSpells t factors r rule (rule_bytes t r rule)
  rule_spelled r rules.Unspecified lt h set = absurd cc
  rule_spelled r rules.Undefined lt h set = code 0x07 (Register r) (shortest_uleb r) (register r lt)
  rule_spelled r rules.SameValue lt h set = code 0x08 (Register r) (shortest_uleb r) (register r lt)
  rule_spelled r (rules.Offset (pos zero)) lt h set = of_packed (packed_is 0x80 0x05 r (Factored factors (pos 0)) (shortest_uleb 0) lt factored_zero)
  rule_spelled r (rules.Offset (pos (suc n))) lt h set = rw (positive n) (inr (inr (with_register 0x11 r (SignedFactored factors (pos (suc n))) (shortest_sleb (negsuc n)) lt (signed_above n h))))
  rule_spelled r (rules.Offset (negsuc n)) lt h set = of_packed (packed_is 0x80 0x05 r (Factored factors (negsuc n)) (shortest_uleb (suc n)) lt (factored_is n h))
  rule_spelled r (rules.ValOffset (pos zero)) lt h set = inl (with_register 0x14 r (Factored factors (pos 0)) (shortest_uleb 0) lt factored_zero)
  rule_spelled r (rules.ValOffset (pos (suc n))) lt h set = rw (positive n) (inr (with_register 0x15 r (SignedFactored factors (pos (suc n))) (shortest_sleb (negsuc n)) lt (signed_above n h)))
  rule_spelled r (rules.ValOffset (negsuc n)) lt h set = inl (with_register 0x14 r (Factored factors (negsuc n)) (shortest_uleb (suc n)) lt (factored_is n h))
  rule_spelled r (rules.Register q) lt h set = with_register 0x09 r (Register q) (shortest_uleb q) lt (register q h)
  rule_spelled r (rules.Expression e) lt h set = with_register 0x10 r (BlockSpells t e) (expression_bytes t e) lt (block_is e h)
  rule_spelled r (rules.ValExpression e) lt h set = with_register 0x16 r (BlockSpells t e) (expression_bytes t e) lt (block_is e h)

fits_width : (size : Size) (a : ℕ) → a < address_limit size → a < 256 ^ byte_count size
fits_width Four a lt = omega arith
fits_width Eight a lt = omega arith

-- ---- instructions

instr_spelled : (t : Target) (i : Instr) → InstrFits t i → IsSpelled t factors i (instr_bytes t i)
unfolding instr_with
instr_spelled t (SetLoc a) h = code 0x01 (Address t a) (fixed_bytes t.order (byte_count t.size) a) (record { bytes = refl; fits = fits_width t.size a h })
instr_spelled t (Advance delta) h = (delta, advance_is t delta h, sym (times_one delta))
instr_spelled t (DefCfa r (pos n)) h = rw (not_below n) (inl (with_register t 0x0c r (Plain (pos n)) (shortest_uleb n) h.0 (plain_is t n h.1)))
instr_spelled t (DefCfa r (negsuc n)) h = inr (with_register t 0x12 r (SignedFactored factors (negsuc n)) (shortest_sleb (pos (suc n))) h.0 (signed_below t n h.1))
instr_spelled t (DefCfaRegister r) h = code 0x0d (Register r) (shortest_uleb r) (register r h)
instr_spelled t (DefCfaOffset (pos n)) h = rw (not_below n) (inl (code 0x0e (Plain (pos n)) (shortest_uleb n) (plain_is t n h)))
instr_spelled t (DefCfaOffset (negsuc n)) h = inr (code 0x13 (SignedFactored factors (negsuc n)) (shortest_sleb (pos (suc n))) (signed_below t n h))
instr_spelled t (DefCfaExpression e) h = code 0x0f (BlockSpells t e) (expression_bytes t e) (block_is t e h)
instr_spelled t (Set r rule) h = rule_spelled t r rule h.0 h.1 h.2
instr_spelled t (Restore r) h = packed_alone t 0xc0 0x06 r h
instr_spelled t i h = refl

pub program_spelled : (t : Target) (instrs : List Instr) → AllByRecursion (InstrFits t) instrs → ProgramSpells t factors instrs (program_bytes t instrs)
program_spelled t [] h = refl
program_spelled t (i ∷ instrs) h = both (InstrSpells t factors i) (ProgramSpells t factors instrs) (instr_bytes t i) (program_bytes t instrs) (in_table t factors i (instr_bytes t i) (instr_spelled t i h.0)) (program_spelled t instrs h.1)
