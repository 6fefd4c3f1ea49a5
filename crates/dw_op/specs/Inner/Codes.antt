-- The codes of operations that have no operands: DWARF 5, 7.7.1.
use Rattle.std.specs.Prelude.{ℕ}
use Rattle.dw_op.specs.declared.op.{Op.Op, Op.TheVariants.{Deref, Dup, Drop, Over, Swap, Rot, Abs, And, Div, Minus, Mod, Mul, Neg, Not, Or, Plus}}
use Rattle.dw_op.specs.declared.op.Op.TheVariants.{Shl, Shr, Shra, Xor, Eq, Ge, Gt, Le, Lt, Ne, Nop, PushObjectAddress, CallFrameCfa, StackValue}

-- the code of an operation that has no operands, 0 of the others
abbrev pub alone_code : Op → ℕ
alone_code Deref = 0x06  -- DW_OP_deref
alone_code Dup = 0x12  -- DW_OP_dup
alone_code Drop = 0x13  -- DW_OP_drop
alone_code Over = 0x14  -- DW_OP_over
alone_code Swap = 0x16  -- DW_OP_swap
alone_code Rot = 0x17  -- DW_OP_rot
alone_code Abs = 0x19  -- DW_OP_abs
alone_code And = 0x1a  -- DW_OP_and
alone_code Div = 0x1b  -- DW_OP_div
alone_code Minus = 0x1c  -- DW_OP_minus
alone_code Mod = 0x1d  -- DW_OP_mod
alone_code Mul = 0x1e  -- DW_OP_mul
alone_code Neg = 0x1f  -- DW_OP_neg
alone_code Not = 0x20  -- DW_OP_not
alone_code Or = 0x21  -- DW_OP_or
alone_code Plus = 0x22  -- DW_OP_plus
alone_code Shl = 0x24  -- DW_OP_shl
alone_code Shr = 0x25  -- DW_OP_shr
alone_code Shra = 0x26  -- DW_OP_shra
alone_code Xor = 0x27  -- DW_OP_xor
alone_code Eq = 0x29  -- DW_OP_eq
alone_code Ge = 0x2a  -- DW_OP_ge
alone_code Gt = 0x2b  -- DW_OP_gt
alone_code Le = 0x2c  -- DW_OP_le
alone_code Lt = 0x2d  -- DW_OP_lt
alone_code Ne = 0x2e  -- DW_OP_ne
alone_code Nop = 0x96  -- DW_OP_nop
alone_code PushObjectAddress = 0x97  -- DW_OP_push_object_address
alone_code CallFrameCfa = 0x9c  -- DW_OP_call_frame_cfa
alone_code StackValue = 0x9f  -- DW_OP_stack_value
alone_code other = 0
