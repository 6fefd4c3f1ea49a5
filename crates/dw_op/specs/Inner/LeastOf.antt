-- The least spelling of each operation, as a table.
use Rattle.std.specs.Prelude.{◌≡◌, ℕ, ◌+◌, ◌-◌, ◌%◌, ◌^◌, List, [], ◌∷◌, ◌++◌, length, take, Result, Ok, Err, ℤ, negsuc, nat_lt, if◌then◌else◌}
use Rattle.dw_num.specs.{Fixed.fixed_bytes, Shortest.{shortest_uleb, shortest_sleb}, Target.address_limit}
use Rattle.dw_num.specs.declared.target.{Order.Order, Size.Size, Size.TheVariants.{Four, Eight}, Target.Target}
use Rattle.dw_op.specs.declared.{least.Operand.Operand, op.Op.Op, op.Op.TheVariants.{Addr, Const, Pick, PlusUconst}}
use Rattle.dw_op.specs.{declared.op.Op.TheVariants.{Bra, Skip, Reg, Breg, Fbreg, Piece, DerefSize, BitPiece, Implicit}, Inner.Codes.alone_code}
use Rattle.dw_op.specs.declared.least.Operand.TheVariants as operand

abbrev pub operand_bytes : Order → Operand → List ℕ
operand_bytes order operand.Nothing = []
operand_bytes order (operand.Byte v) = fixed_bytes order 1 v
operand_bytes order (operand.Half v) = fixed_bytes order 2 v
operand_bytes order (operand.Word v) = fixed_bytes order 4 v
operand_bytes order (operand.Double v) = fixed_bytes order 8 v
operand_bytes order (operand.Unsigned v) = shortest_uleb v
operand_bytes order (operand.Signed z) = shortest_sleb z
operand_bytes order (operand.Offset r z) = shortest_uleb r ++ shortest_sleb z
operand_bytes order (operand.Pair a b) = shortest_uleb a ++ shortest_uleb b
operand_bytes order (operand.Block block) = shortest_uleb (length block.now) ++ block.now

-- bytes were appended, or some of them
abbrev pub Puts : {A E : Type 0} → Result A E → List ℕ → List ℕ → List ℕ → Type 0
Puts (Ok x) old new bytes = new ≡ old ++ bytes
Puts (Err e) old new bytes = take (length old) new ≡ old

-- a code, and what follows it
abbrev pub Spelling : Type 0
Spelling = ℕ × Operand

abbrev pub spelling_bytes : Order → Spelling → List ℕ
spelling_bytes order s = s.0 ∷ operand_bytes order s.1

abbrev pub spelling : ℕ → Operand → Spelling
spelling code operand = (code, operand)

-- ---- constants: v, and by how much it is below 2 ^ N - 1

abbrev pub constant : ℕ → ℕ → Spelling
constant v under =
    if nat_lt v 32 then spelling (0x30 + v) operand.Nothing  -- DW_OP_lit0 to DW_OP_lit31
    else if nat_lt v (2 ^ 8) then spelling 0x08 (operand.Byte v)  -- DW_OP_const1u
    else if nat_lt under (2 ^ 7) then spelling 0x09 (operand.Byte (v % 2 ^ 8))  -- DW_OP_const1s
    else if nat_lt v (2 ^ 16) then spelling 0x0a (operand.Half v)  -- DW_OP_const2u
    else if nat_lt under (2 ^ 15) then spelling 0x0b (operand.Half (v % 2 ^ 16))  -- DW_OP_const2s
    else if nat_lt v (2 ^ 21) then spelling 0x10 (operand.Unsigned v)  -- DW_OP_constu
    else if nat_lt under (2 ^ 20) then spelling 0x11 (operand.Signed (negsuc under))  -- DW_OP_consts
    else if nat_lt v (2 ^ 32) then spelling 0x0c (operand.Word v)  -- DW_OP_const4u
    else if nat_lt under (2 ^ 31) then spelling 0x0d (operand.Word (v % 2 ^ 32))  -- DW_OP_const4s
    else if nat_lt v (2 ^ 49) then spelling 0x10 (operand.Unsigned v)  -- DW_OP_constu
    else if nat_lt under (2 ^ 48) then spelling 0x11 (operand.Signed (negsuc under))  -- DW_OP_consts
    else spelling 0x0e (operand.Double v)  -- DW_OP_const8u

-- ---- the table

abbrev pub address : Size → ℕ → Spelling
address Four a = spelling 0x03 (operand.Word (a % 2 ^ 32))  -- DW_OP_addr
address Eight a = spelling 0x03 (operand.Double a)  -- DW_OP_addr

abbrev pub register_form : ℕ → Spelling
register_form r =
    if nat_lt r 32 then spelling (0x50 + r) operand.Nothing  -- DW_OP_reg0 to DW_OP_reg31
    else spelling 0x90 (operand.Unsigned r)  -- DW_OP_regx

abbrev pub register_offset : ℕ → ℤ → Spelling
register_offset r n =
    if nat_lt r 32 then spelling (0x70 + r) (operand.Signed n)  -- DW_OP_breg0 to DW_OP_breg31
    else spelling 0x92 (operand.Offset r n)  -- DW_OP_bregx

-- a branch's displacement is given by its sixteen bits
unfoldable pub least_spelling : Target → ℕ → Op → Spelling
least_spelling t d (Addr a) = address t.size a
least_spelling t d (Const v) = constant v (address_limit t.size - 1 - v)
least_spelling t d (Pick i) = spelling 0x15 (operand.Byte i)  -- DW_OP_pick
least_spelling t d (PlusUconst n) = spelling 0x23 (operand.Unsigned n)  -- DW_OP_plus_uconst
least_spelling t d (Bra i) = spelling 0x28 (operand.Half d)  -- DW_OP_bra
least_spelling t d (Skip i) = spelling 0x2f (operand.Half d)  -- DW_OP_skip
least_spelling t d (Reg r) = register_form r
least_spelling t d (Breg r n) = register_offset r n
least_spelling t d (Fbreg n) = spelling 0x91 (operand.Signed n)  -- DW_OP_fbreg
least_spelling t d (Piece n) = spelling 0x93 (operand.Unsigned n)  -- DW_OP_piece
least_spelling t d (DerefSize k) = spelling 0x94 (operand.Byte k)  -- DW_OP_deref_size
least_spelling t d (BitPiece size offset) = spelling 0x9d (operand.Pair size offset)  -- DW_OP_bit_piece
least_spelling t d (Implicit block) = spelling 0x9e (operand.Block block)  -- DW_OP_implicit_value
least_spelling t d other = spelling (alone_code other) operand.Nothing

-- the bytes of the least spelling, with these sixteen bits in a branch
unfoldable pub least_bytes : Target → ℕ → Op → List ℕ
least_bytes t d op = spelling_bytes t.order (least_spelling t d op)
