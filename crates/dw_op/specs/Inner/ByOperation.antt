-- The spellings of each operation, operation by operation.
use Rattle.std.specs.{Prelude.{◌≡◌, ℕ, ◌+◌, ◌<◌, ◌≤◌, ◌⊎◌, List, [], ◌∷◌, length, ℤ, pos}, Int.{w8, w16, w32, w64}}
use Rattle.dw_num.specs.{Fixed.{Fixed, FixedSigned, Address}, Leb.{Register, Uleb, Sleb}, Target.{byte_count, address_limit}}
use Rattle.dw_num.specs.declared.target.{Order.Order, Target.Target}
use Rattle.dw_op.specs.{OpSpells.{Code, Both, AnyTwo}, Operands.modulo, declared.op.Op.Op, declared.op.Op.TheVariants.{Addr, Const, Pick, PlusUconst}}
use Rattle.dw_op.specs.{declared.op.Op.TheVariants.{Bra, Skip, Reg, Breg, Fbreg, Piece, DerefSize, BitPiece, Implicit}, Inner.Codes.alone_code}

abbrev pub Alone : ℕ → List ℕ → Type 0
Alone code bytes = bytes ≡ code ∷ []

-- a length, and that many bytes
abbrev pub Counted : List ℕ → List ℕ → Type 0
Counted block bytes = Both (Uleb (length block)) (λ b. b ≡ block) bytes

-- ---- constants

-- the forms of a constant
pub data ConstForm : Type 0 where
  Const1u : ConstForm
  Const1s : ConstForm
  Const2u : ConstForm
  Const2s : ConstForm
  Const4u : ConstForm
  Const4s : ConstForm
  Const8u : ConstForm
  Const8s : ConstForm
  Constu : ConstForm
  Consts : ConstForm
  Lit : ConstForm

-- a number that is not negative
pub record Unsigned (Spells : ℕ → List ℕ → Type 0) (z : ℤ) (bytes : List ℕ) : Type 0 where
  pub number : ℕ
  pub is : z ≡ pos number
  pub spelled : Spells number bytes

-- the number z as this form writes it
abbrev pub Written : Order → ConstForm → ℤ → List ℕ → Type 0
Written o Const1u z bytes = Code 0x08 (Unsigned (Fixed o 1) z) bytes  -- DW_OP_const1u
Written o Const1s z bytes = Code 0x09 (FixedSigned o w8 z) bytes  -- DW_OP_const1s
Written o Const2u z bytes = Code 0x0a (Unsigned (Fixed o 2) z) bytes  -- DW_OP_const2u
Written o Const2s z bytes = Code 0x0b (FixedSigned o w16 z) bytes  -- DW_OP_const2s
Written o Const4u z bytes = Code 0x0c (Unsigned (Fixed o 4) z) bytes  -- DW_OP_const4u
Written o Const4s z bytes = Code 0x0d (FixedSigned o w32 z) bytes  -- DW_OP_const4s
Written o Const8u z bytes = Code 0x0e (Unsigned (Fixed o 8) z) bytes  -- DW_OP_const8u
Written o Const8s z bytes = Code 0x0f (FixedSigned o w64 z) bytes  -- DW_OP_const8s
Written o Constu z bytes = Code 0x10 (Unsigned Uleb z) bytes  -- DW_OP_constu
Written o Consts z bytes = Code 0x11 (Sleb z) bytes  -- DW_OP_consts
Written o Lit z bytes = Unsigned (λ n b. (n < 32) × Alone (0x30 + n) b) z bytes  -- DW_OP_lit0 to DW_OP_lit31

-- some form writes a number that is v modulo 2 ^ N
pub record ConstSpells (t : Target) (v : ℕ) (bytes : List ℕ) : Type 0 where
  pub form : ConstForm
  pub number : ℤ
  pub written : Written t.order form number bytes
  pub value : v ≡ modulo (address_limit t.size) number

-- ---- operations

abbrev pub IsSpelled : Target → Op → List ℕ → Type 0
IsSpelled t (Addr a) bytes = Code 0x03 (Address t a) bytes  -- DW_OP_addr
IsSpelled t (Const v) bytes = ConstSpells t v bytes
IsSpelled t (Pick i) bytes = Code 0x15 (Fixed t.order 1 i) bytes  -- DW_OP_pick
IsSpelled t (PlusUconst n) bytes = Code 0x23 (Uleb n) bytes  -- DW_OP_plus_uconst
IsSpelled t (Bra i) bytes = Code 0x28 AnyTwo bytes  -- DW_OP_bra
IsSpelled t (Skip i) bytes = Code 0x2f AnyTwo bytes  -- DW_OP_skip
IsSpelled t (Reg r) bytes =
    ((r < 32) × Alone (0x50 + r) bytes)  -- DW_OP_reg0 to DW_OP_reg31
    ⊎ Code 0x90 (Register r) bytes  -- DW_OP_regx
IsSpelled t (Breg r n) bytes =
    ((r < 32) × Code (0x70 + r) (Sleb n) bytes)  -- DW_OP_breg0 to DW_OP_breg31
    ⊎ Code 0x92 (Both (Register r) (Sleb n)) bytes  -- DW_OP_bregx
IsSpelled t (Fbreg n) bytes = Code 0x91 (Sleb n) bytes  -- DW_OP_fbreg
IsSpelled t (Piece n) bytes = Code 0x93 (Uleb n) bytes  -- DW_OP_piece
IsSpelled t (DerefSize k) bytes = Code 0x94 (Fixed t.order 1 k) bytes × (1 ≤ k) × (k ≤ byte_count t.size)  -- DW_OP_deref_size
IsSpelled t (BitPiece size offset) bytes = Code 0x9d (Both (Uleb size) (Uleb offset)) bytes  -- DW_OP_bit_piece
IsSpelled t (Implicit block) bytes = (block.ref_ptr ≡ (0, 0)) × Code 0x9e (Counted block.now) bytes  -- DW_OP_implicit_value
IsSpelled t other bytes = Alone (alone_code other) bytes
