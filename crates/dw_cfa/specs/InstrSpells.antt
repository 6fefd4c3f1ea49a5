-- The spellings of call frame instructions: DWARF 5, 6.4.2 and 7.24.
use Rattle.std.specs.Prelude.{◌≡◌, ℕ, ◌<◌, ◌^◌, List, [], ◌∷◌, ◌++◌, length, Some, ℤ, unsigned_abs}
use Rattle.dw_num.specs.{Fixed.{Fixed, Address}, Leb.{Uleb, Sleb, Register}, declared.target.Target.Target}
use Rattle.dw_op.specs.{Block.FrameBlock, Expression.Expression, OpSpells.Both}
use Rattle.dw_cfa.specs.Operands.{Operand, address, fixed, register, unsigned, signed, expression, OperandValue, InstrForm, none, one, two, form_for, offset_of}
use Rattle.dw_cfa.specs.declared.instr.{Factors.Factors, Instr.Instr}

-- ---- operands

-- a block of operations of the frame profile, behind its length
pub record BlockSpells (t : Target) (e : Expression) (bytes : List ℕ) : Type 0 where
  pub length_bytes : List ℕ
  pub block : List ℕ
  pub counted : Uleb (length block) length_bytes
  pub operations : FrameBlock t e.ops block
  pub same_target : e.target ≡ t
  pub whole : bytes ≡ length_bytes ++ block

-- the bytes spell an operand
abbrev pub OperandSpells : Target → (o : Operand) → OperandValue o → List ℕ → Type 0
OperandSpells t address a bytes = Address t a bytes
OperandSpells t (fixed n) x bytes = Fixed t.order n x bytes
OperandSpells t register r bytes = Register r bytes
OperandSpells t unsigned n bytes = Uleb n bytes
OperandSpells t signed z bytes = Sleb z bytes
OperandSpells t expression e bytes = BlockSpells t e bytes

-- ---- instructions

-- the bytes spell the operands of a form, which make the instruction
abbrev pub InstrFormSpells : Target → InstrForm → Instr → List ℕ → Type 0
InstrFormSpells t (none made) instr bytes = (instr ≡ made) × (bytes ≡ [])
InstrFormSpells t (one o make) instr bytes = (x : OperandValue o) × (instr ≡ make x) × OperandSpells t o x bytes
InstrFormSpells t (two o p make) instr bytes = (x : OperandValue o) × (y : OperandValue p) × (instr ≡ make x y) × Both (OperandSpells t o x) (OperandSpells t p y) bytes

-- an offset from -(2 ^ 63 - 1) to 2 ^ 63 - 1
abbrev pub IsOffset : ℤ → Type 0
IsOffset z = unsigned_abs z < 2 ^ 63

-- the bytes spell the instruction: an opcode, and behind it its operands
pub record InstrSpells (t : Target) (f : Factors) (instr : Instr) (bytes : List ℕ) : Type 0 where
  pub code : ℕ
  pub form : InstrForm
  pub rest : List ℕ
  pub known : form_for f code ≡ Some form
  pub whole : bytes ≡ code ∷ rest
  pub operands : InstrFormSpells t form instr rest
  pub range : IsOffset (offset_of instr)

-- the bytes are spellings of the instructions, one after the other
abbrev pub ProgramSpells : Target → Factors → List Instr → List ℕ → Type 0
ProgramSpells t f [] bytes = bytes ≡ []
ProgramSpells t f (i ∷ instrs) bytes = Both (InstrSpells t f i) (ProgramSpells t f instrs) bytes
