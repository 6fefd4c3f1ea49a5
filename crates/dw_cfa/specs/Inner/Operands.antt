-- What the code knows of an opcode, beside the table of codes.
use Rattle.std.specs.Prelude.{ℕ, ◌-◌, List, [], ◌∷◌, Option, Some, if◌then◌else◌, pos, ◌*ℤ◌}
use Rattle.dw_op.specs.Operands.{look_up, in_range}
use Rattle.dw_row.specs.declared.rule.RegRule.TheVariants as rules
use Rattle.dw_cfa.specs.declared.instr.Instr.TheVariants.{Nop, SetLoc, DefCfa, DefCfaRegister, DefCfaOffset, DefCfaExpression, Set, Restore, RememberState}
use Rattle.dw_cfa.specs.declared.{instr.{Factors.Factors, Instr.TheVariants.RestoreState}, opcode.Opcode.Opcode}
use Rattle.dw_cfa.specs.Operands.{address, fixed, register, unsigned, signed, expression, InstrForm, none, one, two, advanced}
use Rattle.dw_cfa.specs.declared.opcode.Opcode.TheVariants as opcodes

-- the codes that are a whole byte
abbrev pub opcode_table : List (ℕ × Opcode)
opcode_table =
    (0x00, opcodes.Nop) ∷ (0x01, opcodes.SetLoc) ∷ (0x02, opcodes.AdvanceLoc1) ∷ (0x03, opcodes.AdvanceLoc2) ∷ (0x04, opcodes.AdvanceLoc4)
    ∷ (0x05, opcodes.OffsetExtended) ∷ (0x06, opcodes.RestoreExtended) ∷ (0x07, opcodes.Undefined) ∷ (0x08, opcodes.SameValue)
    ∷ (0x09, opcodes.Register) ∷ (0x0a, opcodes.RememberState) ∷ (0x0b, opcodes.RestoreState) ∷ (0x0c, opcodes.DefCfa)
    ∷ (0x0d, opcodes.DefCfaRegister) ∷ (0x0e, opcodes.DefCfaOffset) ∷ (0x0f, opcodes.DefCfaExpression) ∷ (0x10, opcodes.Expression)
    ∷ (0x11, opcodes.OffsetExtendedSf) ∷ (0x12, opcodes.DefCfaSf) ∷ (0x13, opcodes.DefCfaOffsetSf) ∷ (0x14, opcodes.ValOffset)
    ∷ (0x15, opcodes.ValOffsetSf) ∷ (0x16, opcodes.ValExpression) ∷ []

-- what a code says of its operands, none for a code that is no instruction's. Three have an operand in their low six bits.
unfoldable pub opcode_of : ℕ → Option Opcode
opcode_of code =
    if in_range 0x40 0x80 code then Some (opcodes.AdvanceLoc (code - 0x40))
    else if in_range 0x80 0xc0 code then Some (opcodes.Offset (code - 0x80))
    else if in_range 0xc0 0x100 code then Some (opcodes.Restore (code - 0xc0))
    else look_up opcode_table code

-- the operands of an opcode, with the factors multiplied out
abbrev pub form_of : Factors → Opcode → InstrForm
form_of f opcodes.Nop = none Nop
form_of f opcodes.SetLoc = one address SetLoc
form_of f (opcodes.AdvanceLoc delta) = none (advanced f delta)
form_of f opcodes.AdvanceLoc1 = one (fixed 1) (advanced f)
form_of f opcodes.AdvanceLoc2 = one (fixed 2) (advanced f)
form_of f opcodes.AdvanceLoc4 = one (fixed 4) (advanced f)
form_of f (opcodes.Offset r) = one unsigned (λ n. Set r (rules.Offset (pos n *ℤ f.data_factor)))
form_of f opcodes.OffsetExtended = two register unsigned (λ r n. Set r (rules.Offset (pos n *ℤ f.data_factor)))
form_of f opcodes.OffsetExtendedSf = two register signed (λ r z. Set r (rules.Offset (z *ℤ f.data_factor)))
form_of f (opcodes.Restore r) = none (Restore r)
form_of f opcodes.RestoreExtended = one register Restore
form_of f opcodes.Undefined = one register (λ r. Set r rules.Undefined)
form_of f opcodes.SameValue = one register (λ r. Set r rules.SameValue)
form_of f opcodes.Register = two register register (λ r q. Set r (rules.Register q))
form_of f opcodes.RememberState = none RememberState
form_of f opcodes.RestoreState = none RestoreState
form_of f opcodes.DefCfa = two register unsigned (λ r n. DefCfa r (pos n))
form_of f opcodes.DefCfaSf = two register signed (λ r z. DefCfa r (z *ℤ f.data_factor))
form_of f opcodes.DefCfaRegister = one register DefCfaRegister
form_of f opcodes.DefCfaOffset = one unsigned (λ n. DefCfaOffset (pos n))
form_of f opcodes.DefCfaOffsetSf = one signed (λ z. DefCfaOffset (z *ℤ f.data_factor))
form_of f opcodes.DefCfaExpression = one expression DefCfaExpression
form_of f opcodes.Expression = two register expression (λ r e. Set r (rules.Expression e))
form_of f opcodes.ValOffset = two register unsigned (λ r n. Set r (rules.ValOffset (pos n *ℤ f.data_factor)))
form_of f opcodes.ValOffsetSf = two register signed (λ r z. Set r (rules.ValOffset (z *ℤ f.data_factor)))
form_of f opcodes.ValExpression = two register expression (λ r e. Set r (rules.ValExpression e))
