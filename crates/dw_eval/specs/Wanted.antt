-- What a fault of an evaluation asks for.
use Rattle.std.specs.Prelude.{◌≡◌, None}
use Rattle.dw_eval.specs.Context.{Context, read_at}
use Rattle.dw_eval.specs.declared.error.{Kind.Kind, Kind.TheVariants.{NoRegister, Unreadable, NoFrameBase, NoCfa, NoObject}}

-- what it asks for is missing: a register's value, bytes of memory, or what else may be known
abbrev pub IsMissing : Context → Kind → Type 0
IsMissing c (NoRegister r) = c.register r ≡ None
IsMissing c (Unreadable a k) = read_at c a k ≡ None
IsMissing c NoFrameBase = c.frame_base ≡ None
IsMissing c NoCfa = c.cfa ≡ None
IsMissing c NoObject = c.object ≡ None
IsMissing c other = Unit {0}
