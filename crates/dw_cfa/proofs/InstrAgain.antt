-- What is spelled is read.
use Rattle.dw_cfa.proofs.Words.{◌≡◌, ℕ, ◌+◌, ◌^◌, List, ◌∷◌, ◌++◌, length, Ok, refl, sym, subst, arith, unsigned_abs, lt-ltb, Factors, Input, Instr, Read, Target, uleb_at, ◌>>=◌, Again, again-then, take_again, byte_again, address_again}
use Rattle.dw_cfa.proofs.Words.{uleb_again, register_again, sleb_again, fixed_at_again, Expression, BlockSpells, OperandSpells, InstrFormSpells, InstrSpells, form_of, Operand, address, fixed, register, unsigned, signed, expression}
use Rattle.dw_cfa.proofs.{Words.{OperandValue, InstrForm, none, one, two, offset_of, expression_in, after_length, block_at, operand_at, with_instr, then_operand, form_at, instr_at}, CodeForms.opcode_behind, Expressions.expression_found}

module _ (t : Target) (f : Factors) where
  -- ---- operands

  pub block_again : (e : Expression) (b : List ℕ) → BlockSpells t e b → Again t block_at e b
  unfolding block_at
  block_again e b h =
      let is : (place : ℕ) → expression_in place t h.block ≡ Ok e = λ place. expression_found place t h.block e h.same_target h.operations in
      rw h.whole (again-then t uleb_at after_length (length h.block) e h.length_bytes h.block (λ at rest. uleb_again at t (length h.block) h.length_bytes rest h.counted) (λ at rest. rw (take_again t (length h.block) h.block refl at rest, is at) refl))

  pub operand_again : (o : Operand) (x : OperandValue o) (b : List ℕ) → OperandSpells t o x b → Again t (operand_at o) x b
  operand_again address x b s at rest = address_again t x b s at rest
  operand_again (fixed n) x b s at rest = fixed_at_again n at t x b rest s
  operand_again register x b s at rest = register_again at t x b rest s
  operand_again unsigned x b s at rest = uleb_again at t x b rest s
  operand_again signed x b s at rest = sleb_again at t x b rest s
  operand_again expression x b s at rest = block_again x b s at rest

  -- ---- an instruction of its operands

  pub made_again : {X : Type 0} (read : Input → Read X) (make : X → Instr) (x : X) (b : List ℕ) → Again t read x b → Again t (λ i. read i >>= with_instr make) (make x) b
  made_again read make x b first at rest = rw (first at rest) refl

  pub form_again : (form : InstrForm) (instr : Instr) (b : List ℕ) → InstrFormSpells t form instr b → Again t (form_at form) instr b
  form_again (none made) instr b h at rest = let place : at + 0 ≡ at = omega arith in rw (h.0, h.1, place) refl
  form_again (one o make) instr b (x, is, s) at rest = rw is (made_again (operand_at o) make x b (operand_again o x b s) at rest)
  form_again (two o p make) instr b (x, y, is, s) at rest =
      rw (is, s.whole) (again-then t (operand_at o) (then_operand p make) x (make x y) s.front s.back (operand_again o x s.front s.first)
      (made_again (operand_at p) (make x) y s.back (operand_again p y s.back s.second)) at rest)

  -- what spells an instruction is read as it, wherever it stands and whatever follows
  pub instr_again : (instr : Instr) (b : List ℕ) → InstrSpells t f instr b → Again t (instr_at f) instr b
  unfolding instr_at
  instr_again instr b h = subst (λ (l : List ℕ). Again t (instr_at f) instr l) (sym h.whole) (λ at rest.
      let one = byte_again t h.code at (h.rest ++ rest) in
      let o = opcode_behind f h.code h.form h.known in
      let two = form_again (form_of f o.opcode) instr h.rest (subst (λ (form : InstrForm). InstrFormSpells t form instr h.rest) o.is h.operands) (at + 1) rest in
      let place : (at + 1) + length h.rest ≡ at + length (h.code ∷ h.rest) = omega arith in
      rw (one, o.known, two, lt-ltb (unsigned_abs (offset_of instr)) (2 ^ 63) h.range, place) refl)
