-- How operations are printed: DWARF 5, 7.7.1, with the names in lower case. Operands are decimal but for an address, each behind a space, and a
-- branch names the operation that it goes to.
use Rattle.std.specs.{Prelude.{ℕ, ℤ, false, List, [], ◌++◌, codes, decimal, unsigned_abs, if◌then◌else◌}, Fmt.digits, Int.is_negative}
use Rattle.hex.specs.Hex.{encode_lower}
use Rattle.dw_op.specs.declared.op.Op.{Op}
use Rattle.dw_op.specs.declared.op.Op.TheVariants as op

abbrev pub op_name : Op → List ℕ
op_name (op.Addr a) = codes "addr"
op_name op.Deref = codes "deref"
op_name (op.Const v) = codes "const"
op_name op.Dup = codes "dup"
op_name op.Drop = codes "drop"
op_name op.Over = codes "over"
op_name (op.Pick i) = codes "pick"
op_name op.Swap = codes "swap"
op_name op.Rot = codes "rot"
op_name op.Abs = codes "abs"
op_name op.And = codes "and"
op_name op.Div = codes "div"
op_name op.Minus = codes "minus"
op_name op.Mod = codes "mod"
op_name op.Mul = codes "mul"
op_name op.Neg = codes "neg"
op_name op.Not = codes "not"
op_name op.Or = codes "or"
op_name op.Plus = codes "plus"
op_name (op.PlusUconst n) = codes "plus_uconst"
op_name op.Shl = codes "shl"
op_name op.Shr = codes "shr"
op_name op.Shra = codes "shra"
op_name op.Xor = codes "xor"
op_name (op.Bra i) = codes "bra"
op_name op.Eq = codes "eq"
op_name op.Ge = codes "ge"
op_name op.Gt = codes "gt"
op_name op.Le = codes "le"
op_name op.Lt = codes "lt"
op_name op.Ne = codes "ne"
op_name (op.Skip i) = codes "skip"
op_name (op.Reg r) = codes "reg"
op_name (op.Breg r n) = codes "breg"
op_name (op.Fbreg n) = codes "fbreg"
op_name (op.Piece n) = codes "piece"
op_name (op.DerefSize k) = codes "deref_size"
op_name op.Nop = codes "nop"
op_name op.PushObjectAddress = codes "push_object_address"
op_name op.CallFrameCfa = codes "call_frame_cfa"
op_name (op.BitPiece size offset) = codes "bit_piece"
op_name (op.Implicit bytes) = codes "implicit_value"
op_name op.StackValue = codes "stack_value"

-- ---- operands

abbrev pub number_text : ℕ → List ℕ
number_text n = codes " " ++ decimal n

abbrev pub signed_text : ℤ → List ℕ
signed_text n = (if is_negative n then codes " -" else codes " ") ++ decimal (unsigned_abs n)

-- bytes, or a dash for none
abbrev pub bytes_text : List ℕ → List ℕ
bytes_text [] = codes " -"
bytes_text bytes = codes " " ++ encode_lower bytes

abbrev pub operands_text : Op → List ℕ
operands_text (op.Addr a) = codes " 0x" ++ digits 16 false a
operands_text (op.Const v) = number_text v
operands_text (op.Pick i) = number_text i
operands_text (op.PlusUconst n) = number_text n
operands_text (op.Bra i) = number_text i
operands_text (op.Skip i) = number_text i
operands_text (op.Reg r) = number_text r
operands_text (op.Breg r n) = number_text r ++ signed_text n
operands_text (op.Fbreg n) = signed_text n
operands_text (op.Piece n) = number_text n
operands_text (op.DerefSize k) = number_text k
operands_text (op.BitPiece size offset) = number_text size ++ number_text offset
operands_text (op.Implicit bytes) = bytes_text bytes.now
operands_text other = []

abbrev pub op_text : Op → List ℕ
op_text op = op_name op ++ operands_text op
