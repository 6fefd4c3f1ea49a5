-- What one operation does: DWARF 5, 2.5.1.
use Rattle.std.specs.Prelude.{◌≡◌, ◌≤◌, ℕ, ◌+◌, ◌*◌, ◌/◌, ◌%◌, ◌^◌, List, [], ◌∷◌, slice_get, Option, Some, None, Result, Ok, Err, ℤ, pos, ◌+ℤ◌, ◌-ℤ◌}
use Rattle.std.specs.Prelude.{Bool, true, false, not, nat_le, nat_eq, if◌then◌else◌, int_lt, int_le, int_div, unsigned_abs, bit_and, bit_or, bit_xor, min}
use Rattle.std.specs.Int.{int_shr}
use Rattle.dw_num.specs.{Target.{address_limit, byte_count}, declared.target.Size.Size}
use Rattle.dw_op.specs.{Operands.modulo, declared.op.Op.Op, declared.op.Op.TheVariants.{Addr, Deref, Const, Dup, Drop, Over, Pick, Swap, Rot, Abs}}
use Rattle.dw_op.specs.declared.op.Op.TheVariants.{And, Div, Minus, Mod, Mul, Neg, Not, Or, Plus, PlusUconst, Shl, Shr, Shra, Xor, Bra, Eq, Ge}
use Rattle.dw_op.specs.declared.op.Op.TheVariants.{Gt, Le, Lt, Ne, Skip, Breg, Fbreg, DerefSize, Nop, PushObjectAddress, CallFrameCfa, StackValue}
use Rattle.dw_eval.specs.{Context.{Context, signed, read_at}, declared.error.Kind.Kind}
use Rattle.dw_eval.specs.declared.error.Kind.TheVariants.{StackUnderflow, DivideByZero, NoRegister, Unreadable, NotAValue, NoFrameBase, NoCfa, NoObject}

-- on to the next operation, or to this one, with a stack whose top is first; or a fault
pub data OpEffect : Type 0 where
  Next : List ℕ → OpEffect
  Jump : ℕ → List ℕ → OpEffect
  Faults : Kind → OpEffect

-- where one leads that an operation at this index has
abbrev pub leads : {S : Type 0} → (ℕ → List ℕ → S) → ℕ → OpEffect → Result S Kind
leads at i (Next stack) = Ok (at (i + 1) stack)
leads at i (Jump j stack) = Ok (at j stack)
leads at i (Faults kind) = Err kind

-- of the top and what is below
abbrev pub on_top : List ℕ → (ℕ → List ℕ → OpEffect) → OpEffect
on_top [] f = Faults StackUnderflow
on_top (t ∷ below) f = f t below

-- of the second, the top and what is below
abbrev pub on_two : List ℕ → (ℕ → ℕ → List ℕ → OpEffect) → OpEffect
on_two stack f = on_top stack (λ t rest. on_top rest (λ s below. f s t below))

-- of the third, the second, the top and what is below
abbrev pub on_three : List ℕ → (ℕ → ℕ → ℕ → List ℕ → OpEffect) → OpEffect
on_three stack f = on_two stack (λ s t rest. on_top rest (λ third below. f third s t below))

-- of a value that may be missing
abbrev pub known : Kind → Option ℕ → (ℕ → OpEffect) → OpEffect
known kind None f = Faults kind
known kind (Some v) f = f v

-- on with a number, modulo 2 ^ N, on the stack
abbrev pub push : Size → ℕ → List ℕ → OpEffect
push size v stack = Next (v % address_limit size ∷ stack)

abbrev pub push_signed : Size → ℤ → List ℕ → OpEffect
push_signed size z stack = Next (modulo (address_limit size) z ∷ stack)

-- on with 1 or 0
abbrev pub tell : Bool → List ℕ → OpEffect
tell true stack = Next (1 ∷ stack)
tell false stack = Next (0 ∷ stack)

-- on where a divisor is not 0
abbrev pub nonzero : ℕ → OpEffect → OpEffect
nonzero divisor outcome = if nat_eq divisor 0 then Faults DivideByZero else outcome

-- how many bits an address has
abbrev pub bit_count : Size → ℕ
bit_count size = 8 * byte_count size

-- s and t shifted, by any number of bits
abbrev pub shifted_left : Size → ℕ → ℕ → ℕ
shifted_left size s t = if nat_le (bit_count size) t then 0 else s * 2 ^ t

abbrev pub shifted_right : Size → ℕ → ℕ → ℕ
shifted_right size s t = if nat_le (bit_count size) t then 0 else s / 2 ^ t

abbrev pub shifted_signed : Size → ℕ → ℕ → ℤ
shifted_signed size s t = int_shr (signed size s) (min t (bit_count size))

-- how many bytes an operation reads from memory
abbrev pub bytes_read : Size → Op → Option ℕ
bytes_read size Deref = Some (byte_count size)
bytes_read size (DerefSize k) = Some k
bytes_read size other = None

module _ (c : Context) where
  abbrev size : Size
  size = c.target.size

  -- a number as a signed one of N bits
  abbrev as_signed : ℕ → ℤ
  as_signed v = signed size v

  -- pop the top t, push f t modulo 2 ^ N
  abbrev unary : (ℕ → ℕ) → List ℕ → OpEffect
  unary f stack = on_top stack (λ t below. push size (f t) below)

  -- so of an f that gives a signed number
  abbrev unary_signed : (ℕ → ℤ) → List ℕ → OpEffect
  unary_signed f stack = on_top stack (λ t below. push_signed size (f t) below)

  -- pop the top t and the second s, push f s t modulo 2 ^ N
  abbrev binary : (ℕ → ℕ → ℕ) → List ℕ → OpEffect
  binary f stack = on_two stack (λ s t below. push size (f s t) below)

  -- so of an f that gives a signed number
  abbrev binary_signed : (ℕ → ℕ → ℤ) → List ℕ → OpEffect
  binary_signed f stack = on_two stack (λ s t below. push_signed size (f s t) below)

  -- pop the top t and the second s, push 1 where f s t is true, else 0
  abbrev compare : (ℕ → ℕ → Bool) → List ℕ → OpEffect
  compare f stack = on_two stack (λ s t below. tell (f s t) below)

  -- the effect of an operation on the stack
  abbrev pub effect : Op → List ℕ → OpEffect
  effect (Addr a) stack = push size a stack
  effect Deref stack = on_top stack (λ t below. known (Unreadable t (byte_count size)) (read_at c t (byte_count size)) (λ v. push size v below))
  effect (Const v) stack = push size v stack
  effect Dup stack = on_top stack (λ t below. Next (t ∷ t ∷ below))
  effect Drop stack = on_top stack (λ t below. Next below)
  effect Over stack = on_two stack (λ s t below. Next (s ∷ t ∷ s ∷ below))
  effect (Pick i) stack = known StackUnderflow (slice_get stack i) (λ v. Next (v ∷ stack))
  effect Swap stack = on_two stack (λ s t below. Next (s ∷ t ∷ below))
  effect Rot stack = on_three stack (λ third s t below. Next (s ∷ third ∷ t ∷ below))
  effect Abs stack = unary (λ t. unsigned_abs (as_signed t)) stack
  effect And stack = binary bit_and stack
  effect Div stack = on_two stack (λ s t below. nonzero (t % address_limit size) (push_signed size (int_div (as_signed s) (as_signed t)) below))
  effect Minus stack = binary_signed (λ s t. pos s -ℤ pos t) stack
  effect Mod stack = on_two stack (λ s t below. nonzero t (push size (s % t) below))
  effect Mul stack = binary (λ s t. s * t) stack
  effect Neg stack = unary_signed (λ t. pos 0 -ℤ pos t) stack
  -- all bits turned: -1 - t
  effect Not stack = unary_signed (λ t. pos 0 -ℤ pos (t + 1)) stack
  effect Or stack = binary bit_or stack
  effect Plus stack = binary (λ s t. s + t) stack
  effect (PlusUconst n) stack = unary (λ t. t + n) stack
  effect Shl stack = binary (shifted_left size) stack
  effect Shr stack = binary (shifted_right size) stack
  effect Shra stack = binary_signed (shifted_signed size) stack
  effect Xor stack = binary bit_xor stack
  effect (Bra i) stack = on_top stack (λ t below. if nat_eq t 0 then Next below else Jump i below)
  effect Eq stack = compare nat_eq stack
  effect Ge stack = compare (λ s t. int_le (as_signed t) (as_signed s)) stack
  effect Gt stack = compare (λ s t. int_lt (as_signed t) (as_signed s)) stack
  effect Le stack = compare (λ s t. int_le (as_signed s) (as_signed t)) stack
  effect Lt stack = compare (λ s t. int_lt (as_signed s) (as_signed t)) stack
  effect Ne stack = compare (λ s t. not (nat_eq s t)) stack
  effect (Skip i) stack = Jump i stack
  effect (Breg r n) stack = known (NoRegister r) (c.register r) (λ v. push_signed size (pos v +ℤ n) stack)
  effect (Fbreg n) stack = known NoFrameBase c.frame_base (λ v. push_signed size (pos v +ℤ n) stack)
  effect (DerefSize k) stack = on_top stack (λ t below. known (Unreadable t k) (read_at c t k) (λ v. push size v below))
  effect Nop stack = Next stack
  effect PushObjectAddress stack = known NoObject c.object (λ v. push size v stack)
  effect CallFrameCfa stack = known NoCfa c.cfa (λ v. push size v stack)
  effect StackValue stack = on_top stack (λ t below. Faults NotAValue)
  -- the others give a place, which is no value
  effect other stack = Faults NotAValue

  -- k bytes are read from memory: at the top's address, and they end at 2 ^ N or before
  pub record ReadsAt (k : ℕ) (stack : List ℕ) : Type 0 where
    pub address : ℕ
    pub below : List ℕ
    pub top : stack ≡ address ∷ below
    pub in_space : address + k ≤ address_limit size

  -- an operation reads from memory
  pub record ReadsMemory (op : Op) (stack : List ℕ) : Type 0 where
    pub count : ℕ
    pub bytes : bytes_read size op ≡ Some count
    pub made : ReadsAt count stack
