-- A list of operations for a target.
use Rattle.std.specs.Prelude.{List}
use Rattle.dw_num.specs.declared.target.Target.{Target}
use Rattle.dw_op.specs.declared.op.{Op.Op, Op.TheVariants.Implicit}

-- an operation without where its bytes lie in memory
abbrev pub bare : Op → Op
bare (Implicit bytes) = Implicit (record { ref_ptr = (0, 0); now = bytes.now })
bare op = op

pub record Expression : Type 0 where
  pub target : Target
  pub ops : List Op
