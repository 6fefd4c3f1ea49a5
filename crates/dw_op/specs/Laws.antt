-- What holds of blocks and of least blocks.
use Rattle.std.specs.{Prelude.{◌≡◌, ℕ, ◌≤◌, List, length, IsTrue}, List.AllByRecursion}
use Rattle.dw_num.specs.declared.{refusal.Refusal.Refusal, target.Target.Target}
use Rattle.dw_op.specs.{Block.Block, Faults.{IsBlock, BlockFault, IsWithin, op_allowed}, Least.LeastBlock}
use Rattle.dw_op.specs.{LeastBlock.TooFar, Ranges.AllInRange, declared.op.Op.Op, declared.profile.Profile.Profile}

-- the operations of a block are in range
abbrev pub BlockInRange : Type 0
BlockInRange = (t : Target) (ops : List Op) (bytes : List ℕ) → Block t ops bytes → AllInRange t ops

-- operations that have a block have a least block
abbrev pub LeastExists : Type 0
LeastExists = (t : Target) (ops : List Op) (bytes : List ℕ) → Block t ops bytes → (least : List ℕ) × LeastBlock t ops least

-- which is a block of the operations
abbrev pub LeastIsBlock : Type 0
LeastIsBlock = (t : Target) (ops : List Op) (least : List ℕ) → LeastBlock t ops least → Block t ops least

-- and no longer than any other
abbrev pub LeastIsShortest : Type 0
LeastIsShortest = (t : Target) (ops : List Op) (least other : List ℕ) → LeastBlock t ops least → Block t ops other → length least ≤ length other

-- there is only one
abbrev pub LeastIsOne : Type 0
LeastIsOne = (t : Target) (ops : List Op) (a b : List ℕ) → LeastBlock t ops a → LeastBlock t ops b → a ≡ b

-- operations with a branch too far have no block
abbrev pub FarHasNoBlock : Type 0
FarHasNoBlock = (t : Target) (ops : List Op) (k : ℕ) (bytes : List ℕ) → TooFar t ops k → Block t ops bytes → ⊥

-- a least block of operations that a profile has is a block of the profile: decoding it gives them back
abbrev pub LeastGivesBack : Type 0
LeastGivesBack = (profile : Profile) (t : Target) (ops : List Op) (least : List ℕ) → AllByRecursion (λ op. IsTrue (op_allowed profile op)) ops → LeastBlock t ops least → IsBlock profile t ops least

-- what a block of a profile was decoded to has no branch too far, so it is encoded
abbrev pub DecodedIsNear : Type 0
DecodedIsNear = (profile : Profile) (t : Target) (ops : List Op) (bytes : List ℕ) (k : ℕ) → IsBlock profile t ops bytes → TooFar t ops k → ⊥

-- the first fault of a block lies in it or at its end
abbrev pub BlockFaultsWithin : Type 0
BlockFaultsWithin = (profile : Profile) (t : Target) (bytes : List ℕ) (r : Refusal) → BlockFault profile t bytes r → IsWithin bytes r
