-- Lists of operations that a target has.
use Rattle.std.specs.{Prelude.{◌≡◌, ℕ, ◌<◌, ◌≤◌, List, length, slice_get, Option, Some, None}, List.AllByRecursion}
use Rattle.dw_num.specs.declared.target.Target.{Target}
use Rattle.dw_op.specs.{Block.branch_target, OpSpells.OpSpells, declared.op.Op.Op}

-- a branch names an operation of a list of this length, or its end
abbrev pub TargetWithin : ℕ → Option ℕ → Type 0
TargetWithin len None = Unit {0}
TargetWithin len (Some i) = i ≤ len

-- some bytes spell the operation, and its branch stays in the list
pub record InRange (t : Target) (len : ℕ) (op : Op) : Type 0 where
  pub bytes : List ℕ
  pub spelled : OpSpells t op bytes
  pub within_list : TargetWithin len (branch_target op)

-- what an OpList holds
abbrev pub AllInRange : Target → List Op → Type 0
AllInRange t ops = AllByRecursion (InRange t (length ops)) ops

-- operation k is the first one out of range
pub record FirstBadOperand (t : Target) (ops : List Op) (k : ℕ) : Type 0 where
  pub op : Op
  pub is : slice_get ops k ≡ Some op
  pub bad : InRange t (length ops) op → ⊥
  pub earlier : (j : ℕ) (other : Op) → j < k → slice_get ops j ≡ Some other → InRange t (length ops) other
