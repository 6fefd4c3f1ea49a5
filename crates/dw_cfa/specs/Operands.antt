-- Codes of call frame instructions, and the operands behind each: DWARF 5, 6.4.2 and 7.24.
use Rattle.std.specs.Prelude.{ℕ, ◌*◌, ◌-◌, List, [], ◌∷◌, Option, Some, if◌then◌else◌, ℤ, pos, ◌*ℤ◌}
use Rattle.dw_op.specs.{Expression.Expression, Operands.{look_up, in_range}}
use Rattle.dw_row.specs.declared.rule.RegRule.{RegRule}
use Rattle.dw_row.specs.declared.rule.RegRule.TheVariants as rules
use Rattle.dw_cfa.specs.declared.instr.Instr.TheVariants.{Nop, SetLoc, Advance, DefCfa, DefCfaRegister, DefCfaOffset, DefCfaExpression, Set, Restore}
use Rattle.dw_cfa.specs.declared.instr.{Factors.Factors, Instr.{Instr, TheVariants.{RememberState, RestoreState}}}

-- an address of the target; a number of n bytes; the LEB of a register, of a number, of a signed number; an expression's block behind its length
pub data Operand : Type 0 where
  address : Operand
  fixed : ℕ → Operand
  register : Operand
  unsigned : Operand
  signed : Operand
  expression : Operand

-- what is read of one
abbrev pub OperandValue : Operand → Type 0
OperandValue signed = ℤ
OperandValue expression = Expression
OperandValue other = ℕ

-- the operands of a code, and the instruction that they make
pub data InstrForm : Type 0 where
  none : Instr → InstrForm
  one : (o : Operand) → (OperandValue o → Instr) → InstrForm
  two : (o p : Operand) → (OperandValue o → OperandValue p → Instr) → InstrForm

abbrev pub advanced : Factors → ℕ → Instr
advanced f delta = Advance (delta * f.code_factor)

-- a register's rule with an offset
abbrev pub offset_rule : Factors → (ℤ → RegRule) → ℕ → ℤ → Instr
offset_rule f make r z = Set r (make (z *ℤ f.data_factor))

-- the codes that are a whole byte, with the factors multiplied out
abbrev pub instr_form_table : Factors → List (ℕ × InstrForm)
instr_form_table f =
    (0x00, none Nop)  -- DW_CFA_nop
    ∷ (0x01, one address SetLoc)  -- DW_CFA_set_loc
    ∷ (0x02, one (fixed 1) (advanced f))  -- DW_CFA_advance_loc1
    ∷ (0x03, one (fixed 2) (advanced f))  -- DW_CFA_advance_loc2
    ∷ (0x04, one (fixed 4) (advanced f))  -- DW_CFA_advance_loc4
    ∷ (0x05, two register unsigned (λ r n. offset_rule f rules.Offset r (pos n)))  -- DW_CFA_offset_extended
    ∷ (0x06, one register Restore)  -- DW_CFA_restore_extended
    ∷ (0x07, one register (λ r. Set r rules.Undefined))  -- DW_CFA_undefined
    ∷ (0x08, one register (λ r. Set r rules.SameValue))  -- DW_CFA_same_value
    ∷ (0x09, two register register (λ r q. Set r (rules.Register q)))  -- DW_CFA_register
    ∷ (0x0a, none RememberState)  -- DW_CFA_remember_state
    ∷ (0x0b, none RestoreState)  -- DW_CFA_restore_state
    ∷ (0x0c, two register unsigned (λ r n. DefCfa r (pos n)))  -- DW_CFA_def_cfa
    ∷ (0x0d, one register DefCfaRegister)  -- DW_CFA_def_cfa_register
    ∷ (0x0e, one unsigned (λ n. DefCfaOffset (pos n)))  -- DW_CFA_def_cfa_offset
    ∷ (0x0f, one expression DefCfaExpression)  -- DW_CFA_def_cfa_expression
    ∷ (0x10, two register expression (λ r e. Set r (rules.Expression e)))  -- DW_CFA_expression
    ∷ (0x11, two register signed (offset_rule f rules.Offset))  -- DW_CFA_offset_extended_sf
    ∷ (0x12, two register signed (λ r z. DefCfa r (z *ℤ f.data_factor)))  -- DW_CFA_def_cfa_sf
    ∷ (0x13, one signed (λ z. DefCfaOffset (z *ℤ f.data_factor)))  -- DW_CFA_def_cfa_offset_sf
    ∷ (0x14, two register unsigned (λ r n. offset_rule f rules.ValOffset r (pos n)))  -- DW_CFA_val_offset
    ∷ (0x15, two register signed (offset_rule f rules.ValOffset))  -- DW_CFA_val_offset_sf
    ∷ (0x16, two register expression (λ r e. Set r (rules.ValExpression e)))  -- DW_CFA_val_expression
    ∷ []

-- what stands behind a code, none for one that is no instruction's; three codes hold an operand in their low six bits
unfoldable pub form_for : Factors → ℕ → Option InstrForm
form_for f code =
    if in_range 0x40 0x80 code then Some (none (advanced f (code - 0x40)))  -- DW_CFA_advance_loc
    else if in_range 0x80 0xc0 code then Some (one unsigned (λ n. offset_rule f rules.Offset (code - 0x80) (pos n)))  -- DW_CFA_offset
    else if in_range 0xc0 0x100 code then Some (none (Restore (code - 0xc0)))  -- DW_CFA_restore
    else look_up (instr_form_table f) code

-- the offset in an instruction, 0 where it has none
abbrev pub offset_of : Instr → ℤ
offset_of (DefCfa r n) = n
offset_of (DefCfaOffset n) = n
offset_of (Set r (rules.Offset n)) = n
offset_of (Set r (rules.ValOffset n)) = n
offset_of other = pos 0
