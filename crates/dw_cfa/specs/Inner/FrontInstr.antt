-- Reading an instruction from the front of a program, with the first fault of what can't be read: an opcode that is no
-- instruction's, an operand, from left to right, or an offset that is too large. DWARF 5, 7.24.
use Rattle.std.specs.Prelude.{ℕ, ◌+◌, ◌^◌, List, Option, Some, None, Result, Ok, Err, nat_lt, if◌then◌else◌, unsigned_abs}
use Rattle.dw_num.specs.{Front.{Read, fault, fixed_at, take_at, register_at, uleb_at, sleb_at, address_at, ◌>>=◌}, Input.Input}
use Rattle.dw_num.specs.declared.{refusal.Code.TheVariants.{UnknownInstruction, OffsetTooLarge}, refusal.Refusal.Refusal, target.Target.Target}
use Rattle.dw_op.specs.{Expression.Expression, declared.op.Op.Op, declared.profile.Profile.TheVariants.Frame}
use Rattle.dw_op.specs.Inner.Walk.{block_input, decode_at}
use Rattle.dw_cfa.specs.Operands.{Operand, address, fixed, register, unsigned, signed, expression, OperandValue, InstrForm, none, one, two, offset_of}
use Rattle.dw_cfa.specs.{declared.instr.Factors.Factors, declared.instr.Instr.Instr, declared.opcode.Opcode.Opcode, Inner.Operands.{opcode_of, form_of}}

-- ---- operands

-- an answer, and the input behind it
abbrev pub leaving : {X : Type 0} → Input → Result X Refusal → Read X
leaving new (Ok x) = Ok (x, new)
leaving new (Err e) = Err e

-- the faults of a block have places from its first byte on
abbrev pub expression_of : ℕ → Target → Result (List Op) Refusal → Result Expression Refusal
expression_of place t (Ok ops) = Ok (record { target = t; ops = ops })
expression_of place t (Err r) = Err (record { code = r.code; at = place + r.at })

-- the expression of the block that stands at this place
unfoldable pub expression_in : ℕ → Target → List ℕ → Result Expression Refusal
expression_in place t block = expression_of place t (decode_at Frame (block_input t block))

abbrev pub block_in : ℕ → List ℕ × Input → Read Expression
block_in place b = leaving b.1 (expression_in place b.1.target b.0)

abbrev pub after_length : ℕ × Input → Read Expression
after_length n = take_at n.0 n.1 >>= block_in n.1.at

-- a block behind its length
unfoldable pub block_at : Input → Read Expression
block_at i = uleb_at i >>= after_length

abbrev pub operand_at : (o : Operand) → Input → Read (OperandValue o)
operand_at address i = address_at i
operand_at (fixed n) i = fixed_at n i
operand_at register i = register_at i
operand_at unsigned i = uleb_at i
operand_at signed i = sleb_at i
operand_at expression i = block_at i

-- ---- an instruction

abbrev pub with_instr : {X : Type 0} → (X → Instr) → X × Input → Read Instr
with_instr make x = Ok (make x.0, x.1)

abbrev pub then_operand : {X : Type 0} → (p : Operand) → (X → OperandValue p → Instr) → X × Input → Read Instr
then_operand p make x = operand_at p x.1 >>= with_instr (make x.0)

-- the operands of a form, one after another
abbrev pub form_at : InstrForm → Input → Read Instr
form_at (none instr) i = Ok (instr, i)
form_at (one o make) i = operand_at o i >>= with_instr make
form_at (two o p make) i = operand_at o i >>= then_operand p make

-- the instruction of an opcode at this place, if its offset is not too large
abbrev pub judged : ℕ → Instr × Input → Read Instr
judged at x = if nat_lt (unsigned_abs (offset_of x.0)) (2 ^ 63) then Ok x else fault OffsetTooLarge at

abbrev pub known_at : Factors → ℕ → Option Opcode → Input → Read Instr
known_at f at None i = fault UnknownInstruction at
known_at f at (Some opcode) i = form_at (form_of f opcode) i >>= judged at

abbrev pub after_code : Factors → ℕ → ℕ × Input → Read Instr
after_code f at code = known_at f at (opcode_of code.0) code.1

-- the instruction at the front
unfoldable pub instr_at : Factors → Input → Read Instr
instr_at f i = fixed_at 1 i >>= after_code f i.at
