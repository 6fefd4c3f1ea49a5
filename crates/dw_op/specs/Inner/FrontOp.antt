-- Reading an operation from the front of a block, as the code does it: DWARF 5, 7.7.1. Faults.antt says which fault that gives without it.
use Rattle.std.specs.{Prelude.{ℕ, ◌%◌, ◌^◌, Option, Some, None, Ok, nat_le, nat_eq, ◌&&◌, ◌||◌, if◌then◌else◌, Bool, true, false, ℤ, pos, [], List}, Int.{Width, byte_len, cast_signed, w8, w16, w32, w64}}
use Rattle.dw_num.specs.{Front.{Read, fault, fixed_at, take_at, uleb_at, sleb_at, address_at, ◌>>=◌, register_at}, Input.Input, Target.{address_limit, byte_count}, declared.target.Size.Size}
use Rattle.dw_num.specs.declared.{refusal.Code.TheVariants.{UnknownOperation, NotInFrame, BadDerefSize}}
use Rattle.dw_op.specs.{Expression.bare, Operands.{Field, FieldValue, OpForm, form_of, in_range, modulo}, Profile.in_frame}
use Rattle.dw_op.specs.declared.{op.Op.Op, operation.Branch.Branch, operation.Step.Step, profile.Profile.Profile, profile.Profile.TheVariants.{Frame, Location}}
use Rattle.dw_op.specs.declared.op.Op.TheVariants as ops
use Rattle.dw_op.specs.declared.operation.Branch.TheVariants as branches
use Rattle.dw_op.specs.declared.operation.Step.TheVariants as steps
use Rattle.dw_op.specs.Operands as fields

-- a step without where its bytes lie in memory
abbrev pub bare_step : Step → Step
bare_step (steps.Plain op) = steps.Plain (bare op)
bare_step (steps.Jump branch number) = steps.Jump branch number

-- ---- what a frame bars

-- a rule of a frame has no operation of this code: it gives a place, or asks for what a frame does not have
abbrev pub is_barred : Profile → ℕ → Bool
is_barred Location code = false
is_barred Frame code = in_range 0x50 0x70 code || in_range 0x90 0x92 code || nat_eq code 0x93 || nat_eq code 0x97 || in_range 0x9c 0xa0 code

-- some value of a field
abbrev pub blank : (o : Field) → FieldValue o
blank (fields.twos w) = pos 0
blank fields.signed = pos 0
blank fields.block = []
blank other = 0

-- whether rules of a frame may use the operations of a form, whatever the fields hold
abbrev pub form_in_frame : OpForm → Bool
form_in_frame (fields.none op) = in_frame op
form_in_frame (fields.one o make) = in_frame (make (blank o))
form_in_frame (fields.two o p make) = in_frame (make (blank o) (blank p))
form_in_frame (fields.branch to) = true

abbrev pub allows : Profile → OpForm → Bool
allows Frame form = form_in_frame form
allows Location form = true

-- ---- operands

-- two's complement
abbrev pub signed_in : Width → ℕ × Input → Read ℤ
signed_in w n = Ok (cast_signed w n.0, n.1)

-- from 1 byte to an address's
abbrev pub sized_in : ℕ → ℕ → ℕ × Input → Read ℕ
sized_in most at k = if nat_le 1 k.0 && nat_le k.0 most then Ok k else fault BadDerefSize at

abbrev pub counted_in : ℕ × Input → Read (List ℕ)
counted_in n = take_at n.0 n.1

-- what a field holds
abbrev pub value_at : (o : Field) → Input → Read (FieldValue o)
value_at (fields.fixed n) i = fixed_at n i
value_at (fields.twos w) i = fixed_at (byte_len w) i >>= signed_in w
value_at fields.address i = address_at i
value_at fields.unsigned i = uleb_at i
value_at fields.signed i = sleb_at i
value_at fields.register i = register_at i
value_at fields.size i = fixed_at 1 i >>= sized_in (byte_count i.target.size) i.at
value_at fields.block i = uleb_at i >>= counted_in

abbrev pub with_op : {X : Type 0} → (X → Op) → X × Input → Read Step
with_op make x = Ok (steps.Plain (make x.0), x.1)

abbrev pub with_jump : Branch → ℕ × Input → Read Step
with_jump branch n = Ok (steps.Jump branch n.0, n.1)

abbrev pub jump_at : Branch → Input → Read Step
jump_at branch i = fixed_at 2 i >>= with_jump branch

abbrev pub then_value : {X : Type 0} (p : Field) → (X → FieldValue p → Op) → X × Input → Read Step
then_value p make x = value_at p x.1 >>= with_op (make x.0)

abbrev branch_of : Op → Branch
branch_of (ops.Bra i) = branches.Bra
branch_of op = branches.Skip

-- the branch that a form makes
abbrev pub branch_in : (ℕ → Op) → Branch
branch_in to = branch_of (to 0)

-- the step that a form's fields make
abbrev pub step_of : OpForm → Input → Read Step
step_of (fields.none op) i = Ok (steps.Plain op, i)
step_of (fields.one o make) i = value_at o i >>= with_op make
step_of (fields.two o p make) i = value_at o i >>= then_value p make
step_of (fields.branch to) i = jump_at (branch_in to) i

-- what a code and the number behind it make, which is signed behind an odd code
abbrev pub made : Size → ℕ → ℕ → Op
made size code n = if nat_eq code 0x03 then ops.Addr n else ops.Const (modulo (address_limit size) (
    if nat_eq code 0x09 then cast_signed w8 (n % 2 ^ 8) else if nat_eq code 0x0b then cast_signed w16 (n % 2 ^ 16) else if nat_eq code 0x0d then cast_signed w32 (n % 2 ^ 32)
    else if nat_eq code 0x0f || nat_eq code 0x11 then cast_signed w64 n else pos n))

-- ---- an operation

-- what a code says is judged before its operands are read
abbrev pub judged : Profile → ℕ → Option OpForm → Input → Read Step
judged profile at None i = fault UnknownOperation at
judged profile at (Some form) i = if allows profile form then step_of form i else fault NotInFrame at

abbrev pub after_code : Profile → ℕ → ℕ × Input → Read Step
after_code profile at code = judged profile at (form_of code.1.target code.0) code.1

-- the operation at the front
unfoldable pub step_at : Profile → Input → Read Step
step_at profile i = fixed_at 1 i >>= after_code profile i.at
