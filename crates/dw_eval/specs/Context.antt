-- What an expression is evaluated in: DWARF 5, 2.5.1.
use Rattle.std.specs.{Prelude.{ℕ, ◌+◌, ◌%◌, Option, None, ℤ, nat_le, if◌then◌else◌}, Int.{Width, w32, w64, cast_signed}}
use Rattle.dw_num.specs.{Target.address_limit, declared.target.Size.Size, declared.target.Size.TheVariants.{Four, Eight}, declared.target.Target.Target}
use Rattle.dw_eval.specs.{Bytes.number_in_memory, Registers.held, declared.env.Env.Env}

-- the machine, its registers and memory, and what else may be known
pub record Context : Type 0 where
  pub target : Target
  pub register : ℕ → Option ℕ
  pub byte : ℕ → Option ℕ
  pub frame_base : Option ℕ
  pub cfa : Option ℕ
  pub object : Option ℕ

-- what the code is given, over a memory of these bytes
abbrev pub context : Env → (ℕ → Option ℕ) → Context
context env byte =
    record { target = env.target; register = held env.registers.now; byte = byte; frame_base = env.frame_base; cfa = env.cfa; object = env.object }

abbrev pub width : Size → Width
width Four = w32
width Eight = w64

-- a number modulo 2 ^ N, read as signed
unfoldable pub signed : Size → ℕ → ℤ
signed size v = cast_signed (width size) (v % address_limit size)

-- the number in k bytes of memory, none where the bytes pass 2 ^ N or one of them is missing
abbrev pub read_at : Context → ℕ → ℕ → Option ℕ
read_at c address k =
    if nat_le (address + k) (address_limit c.target.size) then number_in_memory c.byte c.target.order address k else None
