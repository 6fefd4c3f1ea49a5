-- The lines by which expressions are compared, and what an expression feeds a hasher.
use Rattle.std.specs.{Prelude.{ℕ, ℤ, pos, negsuc, List, [], ◌∷◌, map, nat_eq, Bool, ◌++◌, if◌then◌else◌}, Cmp.Lexicographic.pointwise, List.flat_map}
use Rattle.std.specs.Hash as fed
use Rattle.dw_num.specs.{Target.byte_count, declared.target.Order.Order, declared.target.Order.TheVariants.{Little, Big}, declared.target.Target.Target}
use Rattle.dw_op.specs.{Expression.Expression, declared.op.Op.Op, declared.op.Op.TheVariants.{Addr, Const, Pick, PlusUconst}}
use Rattle.dw_op.specs.{declared.op.Op.TheVariants.{Bra, Skip, Reg, Breg, Fbreg, Piece, DerefSize, BitPiece, Implicit}, Inner.Codes.alone_code}

-- a signed number as a sign and a number
abbrev pub sign_of : ℤ → ℕ
sign_of (pos n) = 0
sign_of (negsuc n) = 1

abbrev pub size_of : ℤ → ℕ
size_of (pos n) = n
size_of (negsuc n) = n

abbrev pub signed_with : ℕ → ℕ → ℤ
signed_with sign number = if nat_eq sign 0 then pos number else negsuc number

-- an operation in a line: its kind, two numbers, a sign and a number, and bytes
abbrev pub line : ℕ → ℕ → ℕ → ℤ → List ℕ → List ℕ
line kind first second signed bytes = kind ∷ first ∷ second ∷ sign_of signed ∷ size_of signed ∷ bytes

abbrev pub alone : ℕ → List ℕ
alone kind = line kind 0 0 (pos 0) []

-- the kinds are the operations' codes, the first where there are several
abbrev pub op_line : Op → List ℕ
op_line (Addr a) = line 0x03 a 0 (pos 0) []
op_line (Const v) = line 0x08 v 0 (pos 0) []
op_line (Pick i) = line 0x15 i 0 (pos 0) []
op_line (PlusUconst n) = line 0x23 n 0 (pos 0) []
op_line (Bra i) = line 0x28 i 0 (pos 0) []
op_line (Skip i) = line 0x2f i 0 (pos 0) []
op_line (Reg r) = line 0x50 r 0 (pos 0) []
op_line (Breg r n) = line 0x70 r 0 n []
op_line (Fbreg n) = line 0x91 0 0 n []
op_line (Piece n) = line 0x93 n 0 (pos 0) []
op_line (DerefSize k) = line 0x94 k 0 (pos 0) []
op_line (BitPiece size offset) = line 0x9d size offset (pos 0) []
op_line (Implicit block) = line 0x9e 0 0 (pos 0) block.now
op_line other = alone (alone_code other)

abbrev pub order_number : Order → ℕ
order_number Little = 0
order_number Big = 1

abbrev pub target_line : Target → List ℕ
target_line t = byte_count t.size ∷ order_number t.order ∷ []

abbrev pub expression_lines : Expression → List (List ℕ)
expression_lines e = target_line e.target ∷ map op_line e.ops

-- the test for equality
abbrev pub same_lines : List (List ℕ) → List (List ℕ) → Bool
same_lines a b = pointwise (pointwise nat_eq) a b

abbrev pub same_expression : Expression → Expression → Bool
same_expression a b = same_lines (expression_lines a) (expression_lines b)

-- what a line feeds a hasher
abbrev pub line_fed : List ℕ → List (List ℕ)
line_fed (size ∷ order ∷ []) = fed.u8 size ++ fed.u8 order
line_fed (kind ∷ first ∷ second ∷ sign ∷ number ∷ bytes) =
    fed.u8 kind ++ fed.u64 first ++ fed.u64 second ++ fed.i64 (signed_with sign number) ++ fed.slice fed.u8 bytes
line_fed other = []

abbrev pub lines_fed : List (List ℕ) → List (List ℕ)
lines_fed lines = flat_map line_fed lines

-- what an expression feeds a hasher: its target and its operations
abbrev pub expression_fed : Expression → List (List ℕ)
expression_fed e = lines_fed (expression_lines e)
