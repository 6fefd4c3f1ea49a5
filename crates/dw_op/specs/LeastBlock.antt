-- Blocks of least spellings, and branches that are too far for any block.
use Rattle.std.specs.{Prelude.{◌≡◌, ℕ, ◌<◌, List, ◌++◌, slice_get, Some, FitsSigned}, Int.w16}
use Rattle.dw_num.specs.declared.target.Target.{Target}
use Rattle.dw_op.specs.{Block.{EachPart, branch_target, displacement}, Least.Least}
use Rattle.dw_op.specs.declared.{least_block.EncodeError.EncodeError, least_block.EncodeError.TheVariants.{BranchTooFar, OutOfMemory}, op.Op.Op}

-- over these parts, operation k is a branch whose displacement sixteen bits do not hold
abbrev pub IsFar : List Op → List (List ℕ) → ℕ → Type 0
IsFar ops parts k =
    (op : Op) × (i : ℕ) × (slice_get ops k ≡ Some op) × (branch_target op ≡ Some i) × (FitsSigned w16 (displacement parts k i) → ⊥)

-- operation k is the first branch too far, each operation having its least spelling
pub record TooFar (t : Target) (ops : List Op) (k : ℕ) : Type 0 where
  pub parts : List (List ℕ)
  pub least : EachPart (λ j. Least t) 0 ops parts
  pub far : IsFar ops parts k
  pub earlier : (j : ℕ) → j < k → IsFar ops parts j → ⊥

-- what an error says of the operations
abbrev pub IsEncodeError : Target → List Op → EncodeError → Type 0
IsEncodeError t ops (BranchTooFar k) = TooFar t ops k
IsEncodeError t ops OutOfMemory = Unit {0}

-- new is old, and behind it a list of which P holds
pub record IsAppended (P : List ℕ → Type 0) (old new : List ℕ) : Type 0 where
  pub appended : List ℕ
  pub is : P appended
  pub whole : new ≡ old ++ appended
