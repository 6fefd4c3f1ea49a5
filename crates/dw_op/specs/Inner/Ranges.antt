-- Operands as the types of the code have them, and what these leave open.
use Rattle.std.specs.{Prelude.{ℕ, ◌<◌, ◌≤◌, length, ◌^◌, FitsSigned}, Int.w64}
use Rattle.dw_num.specs.{Target.{byte_count, address_limit}, declared.target.Target.Target}
use Rattle.dw_op.specs.declared.op.{Op.Op, Op.TheVariants.{Addr, Const, Pick, PlusUconst, Bra, Skip, Reg, Breg, Fbreg, Piece, DerefSize, BitPiece, Implicit}}

-- what the types of the code say of an operation
abbrev pub IsTyped : Op → Type 0
IsTyped (Addr a) = a < 2 ^ 64
IsTyped (Const v) = v < 2 ^ 64
IsTyped (Pick i) = i < 2 ^ 8
IsTyped (PlusUconst n) = n < 2 ^ 64
IsTyped (Reg r) = r < 2 ^ 16
IsTyped (Breg r n) = (r < 2 ^ 16) × FitsSigned w64 n
IsTyped (Fbreg n) = FitsSigned w64 n
IsTyped (Piece n) = n < 2 ^ 64
IsTyped (DerefSize k) = k < 2 ^ 8
IsTyped (BitPiece size offset) = (size < 2 ^ 64) × (offset < 2 ^ 64)
IsTyped (Implicit block) = length block.now < 2 ^ 64
IsTyped op = Unit {0}

-- what the types leave open
abbrev pub Fits : Target → ℕ → Op → Type 0
Fits t len (Addr a) = a < address_limit t.size
Fits t len (Const v) = v < address_limit t.size
Fits t len (Bra i) = i ≤ len
Fits t len (Skip i) = i ≤ len
Fits t len (DerefSize k) = (1 ≤ k) × (k ≤ byte_count t.size)
Fits t len op = Unit {0}
