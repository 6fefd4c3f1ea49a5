-- Blocks of the frame profile that are kept as bytes.
use Rattle.std.specs.Prelude.{◌≡◌, ℕ, List, [], Result, Ok, Err}
use Rattle.dw_num.specs.declared.{refusal.Refusal.Refusal, target.Target.Target}
use Rattle.dw_op.specs.declared.{op.Op.Op, profile.Profile.{Profile, TheVariants.{Frame, Location}}, walk.{Measure.TheVariants.Operations, Walker.Walker}}
use Rattle.dw_op.specs.Inner.{Walk.{walk, index_in, resolve, block_input, decode_at}, Windows.{block_of, WalkSo}}

-- the bytes are a block
abbrev pub IsDecoded : Profile → Target → List ℕ → Type 0
IsDecoded profile t bytes = (ops : List Op) × (decode_at profile (block_input t bytes) ≡ Ok ops)

-- of the frame profile
abbrev pub IsAccepted : Target → List ℕ → Type 0
IsAccepted t bytes = IsDecoded Frame t bytes

abbrev pub ok_ops : Result (List Op) Refusal → List Op
ok_ops (Ok ops) = ops
ok_ops (Err r) = []

-- the operations that such a block stands for
unfoldable pub ops_of : Target → List ℕ → List Op
ops_of t bytes = ok_ops (decode_at Frame (block_input t bytes))

-- the operations from a walker on
unfoldable pub left_of : Walker → List Op
left_of w = ok_ops (resolve (index_in Location (block_of w)) (walk Location w.here).items)

-- a walker in a block whose branches lead to its operations
pub record StepsSo (w : Walker) : Type 0 where
  pub so : WalkSo w
  pub measure : w.measure ≡ Operations
  pub ops : List Op
  pub good : resolve (index_in Location (block_of w)) (walk Location w.here).items ≡ Ok ops
