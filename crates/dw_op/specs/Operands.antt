-- Codes of operations, and the operand fields behind each: DWARF 5, 2.5.1, 2.6.1 and 7.7.1. Spelling and fault both go by this table.
use Rattle.std.specs.Prelude.{ℕ, ◌-◌, ◌%◌, List, [], ◌∷◌, Option, Some, None, Result, Ok, Err, nat_le, nat_lt, nat_eq}
use Rattle.std.specs.{Prelude.{◌&&◌, if◌then◌else◌, Bool, ℤ, pos, negsuc}, Int.{Width, w8, w16, w32, w64, byte_len}}
use Rattle.dw_num.specs.{Front.{Read, fault, fixed_at, take_at, uleb_at, sleb_at, register_at, ◌>>=◌}, Input.Input, Target.{byte_count, address_limit}}
use Rattle.dw_num.specs.declared.{refusal.Code.TheVariants.BadDerefSize, refusal.Refusal.Refusal, target.Target.Target}
use Rattle.dw_op.specs.declared.op.{Op.Op, Op.TheVariants.{Addr, Deref, Const, Dup, Drop, Over, Pick, Swap, Rot, Abs, And, Div, Minus, Mod, Mul}}
use Rattle.dw_op.specs.declared.op.Op.TheVariants.{Neg, Not, Or, Plus, PlusUconst, Shl, Shr, Shra, Xor, Bra, Eq, Ge, Gt, Le, Lt, Ne, Skip, Reg, Breg}
use Rattle.dw_op.specs.declared.op.Op.TheVariants.{Fbreg, Piece, DerefSize, Nop, PushObjectAddress, CallFrameCfa, BitPiece, Implicit, StackValue}

-- ---- fields

-- a number of n bytes, one in two's complement, an address, LEBs, a register, the size of deref_size, and a length with that many bytes
pub data Field : Type 0 where
  fixed : ℕ → Field
  twos : Width → Field
  address : Field
  unsigned : Field
  signed : Field
  register : Field
  size : Field
  block : Field

-- what a field holds
abbrev pub FieldValue : Field → Type 0
FieldValue (twos w) = ℤ
FieldValue signed = ℤ
FieldValue block = List ℕ
FieldValue other = ℕ

-- the fields behind a code, and the operation that they make; behind a branch stand two bytes, of which Block.antt says where they lead
pub data OpForm : Type 0 where
  none : Op → OpForm
  one : (o : Field) → (FieldValue o → Op) → OpForm
  two : (o p : Field) → (FieldValue o → FieldValue p → Op) → OpForm
  branch : (ℕ → Op) → OpForm

-- ---- the table

-- z modulo limit
abbrev pub modulo : ℕ → ℤ → ℕ
modulo limit (pos n) = n % limit
modulo limit (negsuc n) = limit - 1 - n % limit

-- a constant is a number modulo 2 ^ N
abbrev pub constant : Target → ℤ → Op
constant t z = Const (modulo (address_limit t.size) z)

abbrev pub natural : Target → ℕ → Op
natural t n = constant t (pos n)

abbrev pub implicit : List ℕ → Op
implicit bytes = Implicit (record { ref_ptr = (0, 0); now = bytes })

-- the codes that are a whole byte
abbrev pub op_form_table : Target → List (ℕ × OpForm)
op_form_table t =
    (0x03, one address Addr)  -- DW_OP_addr
    ∷ (0x06, none Deref)  -- DW_OP_deref
    ∷ (0x08, one (fixed 1) (natural t))  -- DW_OP_const1u
    ∷ (0x09, one (twos w8) (constant t))  -- DW_OP_const1s
    ∷ (0x0a, one (fixed 2) (natural t))  -- DW_OP_const2u
    ∷ (0x0b, one (twos w16) (constant t))  -- DW_OP_const2s
    ∷ (0x0c, one (fixed 4) (natural t))  -- DW_OP_const4u
    ∷ (0x0d, one (twos w32) (constant t))  -- DW_OP_const4s
    ∷ (0x0e, one (fixed 8) (natural t))  -- DW_OP_const8u
    ∷ (0x0f, one (twos w64) (constant t))  -- DW_OP_const8s
    ∷ (0x10, one unsigned (natural t))  -- DW_OP_constu
    ∷ (0x11, one signed (constant t))  -- DW_OP_consts
    ∷ (0x12, none Dup)  -- DW_OP_dup
    ∷ (0x13, none Drop)  -- DW_OP_drop
    ∷ (0x14, none Over)  -- DW_OP_over
    ∷ (0x15, one (fixed 1) Pick)  -- DW_OP_pick
    ∷ (0x16, none Swap)  -- DW_OP_swap
    ∷ (0x17, none Rot)  -- DW_OP_rot
    ∷ (0x19, none Abs)  -- DW_OP_abs
    ∷ (0x1a, none And)  -- DW_OP_and
    ∷ (0x1b, none Div)  -- DW_OP_div
    ∷ (0x1c, none Minus)  -- DW_OP_minus
    ∷ (0x1d, none Mod)  -- DW_OP_mod
    ∷ (0x1e, none Mul)  -- DW_OP_mul
    ∷ (0x1f, none Neg)  -- DW_OP_neg
    ∷ (0x20, none Not)  -- DW_OP_not
    ∷ (0x21, none Or)  -- DW_OP_or
    ∷ (0x22, none Plus)  -- DW_OP_plus
    ∷ (0x23, one unsigned PlusUconst)  -- DW_OP_plus_uconst
    ∷ (0x24, none Shl)  -- DW_OP_shl
    ∷ (0x25, none Shr)  -- DW_OP_shr
    ∷ (0x26, none Shra)  -- DW_OP_shra
    ∷ (0x27, none Xor)  -- DW_OP_xor
    ∷ (0x28, branch Bra)  -- DW_OP_bra
    ∷ (0x29, none Eq)  -- DW_OP_eq
    ∷ (0x2a, none Ge)  -- DW_OP_ge
    ∷ (0x2b, none Gt)  -- DW_OP_gt
    ∷ (0x2c, none Le)  -- DW_OP_le
    ∷ (0x2d, none Lt)  -- DW_OP_lt
    ∷ (0x2e, none Ne)  -- DW_OP_ne
    ∷ (0x2f, branch Skip)  -- DW_OP_skip
    ∷ (0x90, one register Reg)  -- DW_OP_regx
    ∷ (0x91, one signed Fbreg)  -- DW_OP_fbreg
    ∷ (0x92, two register signed Breg)  -- DW_OP_bregx
    ∷ (0x93, one unsigned Piece)  -- DW_OP_piece
    ∷ (0x94, one size DerefSize)  -- DW_OP_deref_size
    ∷ (0x96, none Nop)  -- DW_OP_nop
    ∷ (0x97, none PushObjectAddress)  -- DW_OP_push_object_address
    ∷ (0x9c, none CallFrameCfa)  -- DW_OP_call_frame_cfa
    ∷ (0x9d, two unsigned unsigned BitPiece)  -- DW_OP_bit_piece
    ∷ (0x9e, one block implicit)  -- DW_OP_implicit_value
    ∷ (0x9f, none StackValue)  -- DW_OP_stack_value
    ∷ []

abbrev pub look_up : {A : Type 0} → List (ℕ × A) → ℕ → Option A
look_up [] code = None
look_up (entry ∷ table) code = if nat_eq code entry.0 then Some entry.1 else look_up table code

abbrev pub in_range : ℕ → ℕ → ℕ → Bool
in_range low high code = nat_le low code && nat_lt code high

-- What stands behind a code, none for a code that is no operation's. DW_OP_lit0 to DW_OP_lit31, DW_OP_reg0 to DW_OP_reg31 and DW_OP_breg0
-- to DW_OP_breg31 hold an operand in the code.
unfoldable pub form_of : Target → ℕ → Option OpForm
form_of t code =
    if in_range 0x30 0x50 code then Some (none (Const (code - 0x30)))  -- DW_OP_lit0 to DW_OP_lit31
    else if in_range 0x50 0x70 code then Some (none (Reg (code - 0x50)))  -- DW_OP_reg0 to DW_OP_reg31
    else if in_range 0x70 0x90 code then Some (one signed (Breg (code - 0x70)))  -- DW_OP_breg0 to DW_OP_breg31
    else look_up (op_form_table t) code

-- ---- faults

-- what is behind a field that is read, or its fault
abbrev pub past : {X : Type 0} → Read X → Result Input Refusal
past (Ok x) = Ok x.1
past (Err r) = Err r

-- a size is from 1 byte to an address's
abbrev pub sized : ℕ → ℕ → ℕ × Input → Result Input Refusal
sized most at k = if nat_le 1 k.0 && nat_le k.0 most then Ok k.1 else fault BadDerefSize at

abbrev pub counted : ℕ × Input → Result Input Refusal
counted n = past (take_at n.0 n.1)

-- past a field, or its fault
abbrev pub field_at : Field → Input → Result Input Refusal
field_at (fixed n) i = past (take_at n i)
field_at (twos w) i = past (take_at (byte_len w) i)
field_at address i = past (take_at (byte_count i.target.size) i)
field_at unsigned i = past (uleb_at i)
field_at signed i = past (sleb_at i)
field_at register i = past (register_at i)
field_at size i = fixed_at 1 i >>= sized (byte_count i.target.size) i.at
field_at block i = uleb_at i >>= counted

-- past the fields of a form, or the fault of the first that has one
abbrev pub form_at : OpForm → Input → Result Input Refusal
form_at (none op) i = Ok i
form_at (one o make) i = field_at o i
form_at (two o p make) i = field_at o i >>= field_at p
form_at (branch to) i = past (take_at 2 i)
