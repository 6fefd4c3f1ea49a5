-- What the table reads of an opcode is what the code reads.
use Rattle.std.proofs.Common.{get_or}
use Rattle.dw_num.proofs.Lent.FixedLaws.{byte_found}
use Rattle.dw_cfa.specs.Inner.ByOpcode.{offset_in, plain_in, plain_at, factored_in, factored_at, signed_in, signed_at, set_loc_at, advance_at, def_cfa_register_at, def_cfa_offset_at, def_cfa_offset_sf_at, def_cfa_expression_at, then_plain}
use Rattle.dw_cfa.specs.Inner.ByOpcode.{def_cfa_at, then_signed, def_cfa_sf_at, restore_at, set_offset, offset_at, offset_extended_at, then_offset, with_rule, rule_at, then_rule, set_at, other_at, rare_at, operands_at}
use Rattle.dw_cfa.specs.declared.instr.Instr.TheVariants.{Nop}
use Rattle.dw_cfa.proofs.Words.{◌≡◌, ℕ, ◌^◌, Bool, true, false, Option, Some, Ok, Err, refl, sym, ap, ◌∙◌, ℤ, pos, ◌*ℤ◌, unsigned_abs, nat_lt, Factors, Input, Instr, Opcode, Read, RegRule, fixed_at, register_at, uleb_at, sleb_at, ◌>>=◌}
use Rattle.dw_cfa.proofs.Words.{DefCfa, DefCfaOffset, Set, opcode_of, form_of, offset_of, leaving, block_at, with_instr, form_at, judged, known_at, instr_at}
use Rattle.dw_row.specs.declared.rule.RegRule.TheVariants as rules
use Rattle.dw_cfa.specs.declared.opcode.Opcode.TheVariants as opcodes

module _ (at : ℕ) where
  -- an instruction without an offset is not judged
  unjudged : {X : Type 0} (read : Read X) (make : X → Instr) → ((x : X) → offset_of (make x) ≡ pos 0) → (read >>= with_instr make) >>= judged at ≡ read >>= with_instr make
  unjudged (Err r) make is = refl
  unjudged (Ok x) make is = rw (is x.0) refl

  judged_by : (b : Bool) (z : ℤ) (make : ℤ → Instr) (i : Input) → nat_lt (unsigned_abs z) (2 ^ 63) ≡ b → offset_of (make z) ≡ z → judged at (make z, i) ≡ leaving i (offset_in at z) >>= with_instr make
  unfolding offset_in
  judged_by true z make i e is = rw (is, e) refl
  judged_by false z make i e is = rw (is, e) refl

  -- one with an offset is judged where it is read
  with_offset : {X : Type 0} (read : Read X) (value : X → ℤ) (make : ℤ → Instr) (within : X × Input → Read ℤ) → ((x : X × Input) → within x ≡ leaving x.1 (offset_in at (value x.0))) → ((z : ℤ) → offset_of (make z) ≡ z)
      → (read >>= with_instr (λ x. make (value x))) >>= judged at ≡ (read >>= within) >>= with_instr make
  with_offset (Err r) value make within so is = refl
  with_offset (Ok x) value make within so is = judged_by (nat_lt (unsigned_abs (value x.0)) (2 ^ 63)) (value x.0) make x.1 refl (is (value x.0)) ∙ ap (λ (r : Read ℤ). r >>= with_instr make) (sym (so x))

  -- a register first
  behind : (read : Read ℕ) (table code : ℕ × Input → Read Instr) → ((r : ℕ × Input) → table r >>= judged at ≡ code r) → (read >>= table) >>= judged at ≡ read >>= code
  behind (Err r) table code is = refl
  behind (Ok x) table code is = is x

-- a rule that is read behind a register, and one with an offset
module _ (f : Factors) (at : ℕ) (opcode : Opcode) (i : Input) where
  abbrev Reads : {X : Type 0} → (Input → Read X) → (X → RegRule) → Type 0
  Reads read make = (j : Input) → rule_at f at opcode j ≡ read j >>= with_rule make

  ruled : {X : Type 0} (read : Read X) (make : X → RegRule) (r : ℕ) → (read >>= with_rule make) >>= with_instr (Set r) ≡ read >>= with_instr (λ x. Set r (make x))
  ruled (Err e) make r = refl
  ruled (Ok x) make r = refl

  sets : {X : Type 0} (read : Input → Read X) (make : X → RegRule) → Reads read make → ((r : ℕ) (x : X) → offset_of (Set r (make x)) ≡ pos 0)
      → (register_at i >>= (λ r. read r.1 >>= with_instr (λ x. Set r.0 (make x)))) >>= judged at ≡ register_at i >>= then_rule f at opcode
  sets read make is none = behind at (register_at i) _ (then_rule f at opcode) (λ r. unjudged at (read r.1) (λ x. Set r.0 (make x)) (none r.0) ∙ sym (ap (λ (x : Read RegRule). x >>= with_instr (Set r.0)) (is r.1) ∙ ruled (read r.1) make r.0))

  sets_offset : {X : Type 0} (read : Input → Read X) (value : X → ℤ) (within : X × Input → Read ℤ) (make : ℤ → RegRule) → Reads (λ j. read j >>= within) make
      → ((x : X × Input) → within x ≡ leaving x.1 (offset_in at (value x.0))) → ((r : ℕ) (z : ℤ) → offset_of (Set r (make z)) ≡ z)
      → (register_at i >>= (λ r. read r.1 >>= with_instr (λ x. Set r.0 (make (value x))))) >>= judged at ≡ register_at i >>= then_rule f at opcode
  sets_offset read value within make is so has =
      behind at (register_at i) _ (then_rule f at opcode)
      (λ r. with_offset at (read r.1) value (λ z. Set r.0 (make z)) within so (has r.0) ∙ sym (ap (λ (x : Read RegRule). x >>= with_instr (Set r.0)) (is r.1) ∙ ruled (read r.1 >>= within) make r.0))

pub form_is : (f : Factors) (at : ℕ) (opcode : Opcode) (i : Input) → form_at (form_of f opcode) i >>= judged at ≡ operands_at f at opcode i
unfolding operands_at rare_at other_at set_loc_at advance_at def_cfa_register_at def_cfa_offset_at def_cfa_offset_sf_at def_cfa_expression_at def_cfa_at def_cfa_sf_at restore_at offset_at offset_extended_at rule_at set_at plain_at factored_at signed_at
form_is f at (opcodes.Offset r) i = with_offset at (uleb_at i) (λ n. pos n *ℤ f.data_factor) (set_offset r) (factored_in f at) (λ x. refl) (λ z. refl)
form_is f at opcodes.OffsetExtended i =
    behind at (register_at i) _ (then_offset f at false) (λ r. with_offset at (uleb_at r.1) (λ n. pos n *ℤ f.data_factor) (set_offset r.0) (factored_in f at) (λ x. refl) (λ z. refl))
form_is f at opcodes.OffsetExtendedSf i = behind at (register_at i) _ (then_offset f at true) (λ r. with_offset at (sleb_at r.1) (λ z. z *ℤ f.data_factor) (set_offset r.0) (signed_in f at) (λ x. refl) (λ z. refl))
form_is f at opcodes.ValOffset i = sets_offset f at opcodes.ValOffset i uleb_at (λ n. pos n *ℤ f.data_factor) (factored_in f at) rules.ValOffset (λ j. refl) (λ x. refl) (λ r z. refl)
form_is f at opcodes.ValOffsetSf i = sets_offset f at opcodes.ValOffsetSf i sleb_at (λ z. z *ℤ f.data_factor) (signed_in f at) rules.ValOffset (λ j. refl) (λ x. refl) (λ r z. refl)
form_is f at opcodes.Register i = sets f at opcodes.Register i register_at rules.Register (λ j. refl) (λ r x. refl)
form_is f at opcodes.Expression i = sets f at opcodes.Expression i block_at rules.Expression (λ j. refl) (λ r x. refl)
form_is f at opcodes.ValExpression i = sets f at opcodes.ValExpression i block_at rules.ValExpression (λ j. refl) (λ r x. refl)
form_is f at opcodes.Undefined i = behind at (register_at i) _ (then_rule f at opcodes.Undefined) (λ r. refl)
form_is f at opcodes.SameValue i = behind at (register_at i) _ (then_rule f at opcodes.SameValue) (λ r. refl)
form_is f at opcodes.DefCfa i = behind at (register_at i) _ (then_plain at) (λ r. with_offset at (uleb_at r.1) (λ n. pos n) (DefCfa r.0) (plain_in at) (λ x. refl) (λ z. refl))
form_is f at opcodes.DefCfaSf i = behind at (register_at i) _ (then_signed DefCfa f at) (λ r. with_offset at (sleb_at r.1) (λ z. z *ℤ f.data_factor) (DefCfa r.0) (signed_in f at) (λ x. refl) (λ z. refl))
form_is f at opcodes.DefCfaOffset i = with_offset at (uleb_at i) (λ n. pos n) DefCfaOffset (plain_in at) (λ x. refl) (λ z. refl)
form_is f at opcodes.DefCfaOffsetSf i = with_offset at (sleb_at i) (λ z. z *ℤ f.data_factor) DefCfaOffset (signed_in f at) (λ x. refl) (λ z. refl)
form_is f at opcodes.Nop i = refl
form_is f at (opcodes.AdvanceLoc delta) i = refl
form_is f at (opcodes.Restore r) i = refl
form_is f at opcodes.RememberState i = refl
form_is f at opcodes.RestoreState i = refl
form_is f at opcode i = unjudged at _ _ (λ x. refl)

-- an instruction behind its opcode
pub opened : (f : Factors) (i j : Input) (code : ℕ) (o : Opcode) (at : ℕ) → at ≡ i.at → fixed_at 1 i ≡ Ok (code, j) → opcode_of code ≡ Some o → instr_at f i ≡ operands_at f at o j
unfolding instr_at
opened f i j code o at place e known = rw (place, e) (ap (λ (x : Option Opcode). known_at f i.at x j) known ∙ form_is f i.at o j)

-- a nop
pub nop_passed : (f : Factors) (i new : Input) (b : ℕ) → get_or i.bytes 0 0 ≡ 0 → fixed_at 1 i ≡ Ok (b, new) → instr_at f i ≡ Ok (Nop, new)
unfolding opcode_of operands_at
nop_passed f i new b zero e = let code = rw (byte_found i new b e).bytes at zero in opened f i new b opcodes.Nop i.at refl e (rw code refl)
