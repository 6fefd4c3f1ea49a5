-- How the code reads the operands of each opcode.
use Rattle.std.specs.Prelude.{ℕ, ◌^◌, Bool, true, false, Result, Ok, nat_lt, if◌then◌else◌, ℤ, pos, ◌*ℤ◌, unsigned_abs}
use Rattle.dw_num.specs.{Front.{Read, fault, fixed_at, register_at, uleb_at, sleb_at, address_at, ◌>>=◌}, Input.Input}
use Rattle.dw_num.specs.declared.refusal.{Code.TheVariants.OffsetTooLarge, Refusal.Refusal}
use Rattle.dw_row.specs.declared.rule.RegRule.{RegRule}
use Rattle.dw_row.specs.declared.rule.RegRule.TheVariants as rules
use Rattle.dw_cfa.specs.declared.instr.Instr.TheVariants.{Nop, SetLoc, DefCfa, DefCfaRegister, DefCfaOffset, DefCfaExpression, Set, Restore, RememberState}
use Rattle.dw_cfa.specs.declared.{instr.{Factors.Factors, Instr.{Instr, TheVariants.RestoreState}}, opcode.Opcode.Opcode}
use Rattle.dw_cfa.specs.{Operands.advanced, Inner.FrontInstr.{leaving, block_at, with_instr}}
use Rattle.dw_cfa.specs.declared.opcode.Opcode.TheVariants as opcodes

-- ---- offsets

-- an offset of the instruction at this place
unfoldable pub offset_in : ℕ → ℤ → Result ℤ Refusal
offset_in at z = if nat_lt (unsigned_abs z) (2 ^ 63) then Ok z else fault OffsetTooLarge at

abbrev pub plain_in : ℕ → ℕ × Input → Read ℤ
plain_in at n = leaving n.1 (offset_in at (pos n.0))

-- an unsigned operand as an offset
unfoldable pub plain_at : ℕ → Input → Read ℤ
plain_at at i = uleb_at i >>= plain_in at

abbrev pub factored_in : Factors → ℕ → ℕ × Input → Read ℤ
factored_in f at n = leaving n.1 (offset_in at (pos n.0 *ℤ f.data_factor))

-- an unsigned operand times the data factor
unfoldable pub factored_at : Factors → ℕ → Input → Read ℤ
factored_at f at i = uleb_at i >>= factored_in f at

abbrev pub signed_in : Factors → ℕ → ℤ × Input → Read ℤ
signed_in f at z = leaving z.1 (offset_in at (z.0 *ℤ f.data_factor))

-- a signed operand times the data factor
unfoldable pub signed_at : Factors → ℕ → Input → Read ℤ
signed_at f at i = sleb_at i >>= signed_in f at

-- ---- instructions with operands

unfoldable pub set_loc_at : Input → Read Instr
set_loc_at i = address_at i >>= with_instr SetLoc

unfoldable pub advance_at : Factors → ℕ → Input → Read Instr
advance_at f width i = fixed_at width i >>= with_instr (advanced f)

unfoldable pub def_cfa_register_at : Input → Read Instr
def_cfa_register_at i = register_at i >>= with_instr DefCfaRegister

unfoldable pub def_cfa_offset_at : ℕ → Input → Read Instr
def_cfa_offset_at at i = plain_at at i >>= with_instr DefCfaOffset

unfoldable pub def_cfa_offset_sf_at : Factors → ℕ → Input → Read Instr
def_cfa_offset_sf_at f at i = signed_at f at i >>= with_instr DefCfaOffset

unfoldable pub def_cfa_expression_at : Input → Read Instr
def_cfa_expression_at i = block_at i >>= with_instr DefCfaExpression

abbrev pub then_plain : ℕ → ℕ × Input → Read Instr
then_plain at r = plain_at at r.1 >>= with_instr (DefCfa r.0)

unfoldable pub def_cfa_at : ℕ → Input → Read Instr
def_cfa_at at i = register_at i >>= then_plain at

abbrev pub then_signed : (ℕ → ℤ → Instr) → Factors → ℕ → ℕ × Input → Read Instr
then_signed make f at r = signed_at f at r.1 >>= with_instr (make r.0)

unfoldable pub def_cfa_sf_at : Factors → ℕ → Input → Read Instr
def_cfa_sf_at f at i = register_at i >>= then_signed DefCfa f at

unfoldable pub restore_at : Input → Read Instr
restore_at i = register_at i >>= with_instr Restore

abbrev pub set_offset : ℕ → ℤ → Instr
set_offset r z = Set r (rules.Offset z)

unfoldable pub offset_at : Factors → ℕ → ℕ → Input → Read Instr
offset_at f at r i = factored_at f at i >>= with_instr (set_offset r)

abbrev pub either_at : Factors → ℕ → Bool → Input → Read ℤ
either_at f at true i = signed_at f at i
either_at f at false i = factored_at f at i

abbrev pub then_offset : Factors → ℕ → Bool → ℕ × Input → Read Instr
then_offset f at is_signed r = either_at f at is_signed r.1 >>= with_instr (set_offset r.0)

unfoldable pub offset_extended_at : Factors → ℕ → Bool → Input → Read Instr
offset_extended_at f at is_signed i = register_at i >>= then_offset f at is_signed

abbrev pub with_rule : {X : Type 0} → (X → RegRule) → X × Input → Read RegRule
with_rule make x = Ok (make x.0, x.1)

-- the rule of an instruction, behind its register
unfoldable pub rule_at : Factors → ℕ → Opcode → Input → Read RegRule
rule_at f at opcodes.Undefined i = Ok (rules.Undefined, i)
rule_at f at opcodes.SameValue i = Ok (rules.SameValue, i)
rule_at f at opcodes.ValOffset i = factored_at f at i >>= with_rule rules.ValOffset
rule_at f at opcodes.ValOffsetSf i = signed_at f at i >>= with_rule rules.ValOffset
rule_at f at opcodes.Register i = register_at i >>= with_rule rules.Register
rule_at f at opcodes.Expression i = block_at i >>= with_rule rules.Expression
rule_at f at other i = block_at i >>= with_rule rules.ValExpression

abbrev pub then_rule : Factors → ℕ → Opcode → ℕ × Input → Read Instr
then_rule f at opcode r = rule_at f at opcode r.1 >>= with_instr (Set r.0)

unfoldable pub set_at : Factors → ℕ → Opcode → Input → Read Instr
set_at f at opcode i = register_at i >>= then_rule f at opcode

unfoldable pub other_at : Factors → ℕ → Opcode → Input → Read Instr
other_at f at opcodes.SetLoc i = set_loc_at i
other_at f at opcodes.AdvanceLoc4 i = advance_at f 4 i
other_at f at opcodes.RestoreExtended i = restore_at i
other_at f at opcodes.DefCfaSf i = def_cfa_sf_at f at i
other_at f at opcodes.DefCfaRegister i = def_cfa_register_at i
other_at f at opcodes.DefCfaExpression i = def_cfa_expression_at i
other_at f at opcode i = set_at f at opcode i

-- the operands of an opcode that few programs have
unfoldable pub rare_at : Factors → ℕ → Opcode → Input → Read Instr
rare_at f at opcodes.OffsetExtended i = offset_extended_at f at false i
rare_at f at opcodes.OffsetExtendedSf i = offset_extended_at f at true i
rare_at f at opcode i = other_at f at opcode i

-- the instruction of an opcode without operands behind it
abbrev pub bare_of : Opcode → Instr
bare_of (opcodes.Restore r) = Restore r
bare_of opcodes.RememberState = RememberState
bare_of opcodes.RestoreState = RestoreState
bare_of other = Nop

-- the operands of the instruction whose opcode is at this place
unfoldable pub operands_at : Factors → ℕ → Opcode → Input → Read Instr
operands_at f at opcodes.Nop i = Ok (Nop, i)
operands_at f at (opcodes.AdvanceLoc delta) i = Ok (advanced f delta, i)
operands_at f at opcodes.AdvanceLoc1 i = advance_at f 1 i
operands_at f at opcodes.AdvanceLoc2 i = advance_at f 2 i
operands_at f at opcodes.DefCfa i = def_cfa_at at i
operands_at f at opcodes.DefCfaOffset i = def_cfa_offset_at at i
operands_at f at opcodes.DefCfaOffsetSf i = def_cfa_offset_sf_at f at i
operands_at f at (opcodes.Offset r) i = offset_at f at r i
operands_at f at (opcodes.Restore r) i = Ok (Restore r, i)
operands_at f at opcodes.RememberState i = Ok (RememberState, i)
operands_at f at opcodes.RestoreState i = Ok (RestoreState, i)
operands_at f at opcode i = rare_at f at opcode i
