-- The blocks of a profile, and the first fault of bytes that are none.
use Rattle.std.specs.{Prelude.{◌≡◌, ℕ, ◌<◌, ◌≤◌, ◌⊎◌, ◌+◌, List, ◌∷◌, ◌++◌, length, slice_get, Some, Err, Bool, true, IsTrue}, List.AllByRecursion}
use Rattle.dw_num.specs.{Input.Input, declared.refusal.Code.TheVariants.{BadBranch, NotInFrame, UnknownOperation}}
use Rattle.dw_num.specs.declared.{refusal.Refusal.Refusal, target.Target.Target}
use Rattle.dw_op.specs.{Block.{start, Displaced, joined, Block, FrameBlock}, OpSpells.{OpSpells, Code, AnyTwo}, Operands.{OpForm, form_of, form_at}}
use Rattle.dw_op.specs.{Profile.in_frame, declared.op.Op.Op, declared.profile.Profile.Profile, declared.profile.Profile.TheVariants.{Frame, Location}}

-- a block of the operations that the profile has
abbrev pub IsBlock : Profile → Target → List Op → List ℕ → Type 0
IsBlock Frame t ops bytes = FrameBlock t ops bytes
IsBlock Location t ops bytes = Block t ops bytes

abbrev pub op_allowed : Profile → Op → Bool
op_allowed Frame op = in_frame op
op_allowed Location op = true

-- a part spells an operation of the profile, wherever a branch may go
abbrev pub IsPart : Profile → Target → List ℕ → Type 0
IsPart profile t part = (op : Op) × OpSpells t op part × IsTrue (op_allowed profile op)

-- some operation of the profile has this code
abbrev pub HasCode : Profile → Target → ℕ → Type 0
HasCode profile t code = (operands : List ℕ) × IsPart profile t (code ∷ operands)

-- no operation has the code; or one has it, but none of the profile; or one of the profile has it, and one of the fields behind it is the first that can't be read
abbrev pub OpFault : Profile → ℕ → ℕ → Input → Refusal → Type 0
OpFault profile at code operands r =
    ((HasCode Location operands.target code → ⊥) × (r ≡ record { code = UnknownOperation; at = at }))
    ⊎ ((HasCode Location operands.target code × (HasCode profile operands.target code → ⊥) × (r ≡ record { code = NotInFrame; at = at }))
    ⊎ (HasCode profile operands.target code × (form : OpForm) × (form_of operands.target code ≡ Some form) × (form_at form operands ≡ Err r)))

-- operations to begin with, and behind them a code whose operation has a fault
pub record ReadingFault (profile : Profile) (t : Target) (bytes : List ℕ) (r : Refusal) : Type 0 where
  pub parts : List (List ℕ)
  pub code : ℕ
  pub operands : List ℕ
  pub whole : bytes ≡ joined parts ++ code ∷ operands
  pub each : AllByRecursion (IsPart profile t) parts
  pub fault : OpFault profile (length (joined parts)) code (record { at = length (joined parts) + 1; bytes = operands; target = t }) r

-- a branch's code and its displacement
abbrev pub IsBranch : List ℕ → Type 0
IsBranch part =
    Code 0x28 AnyTwo part  -- DW_OP_bra
    ⊎ Code 0x2f AnyTwo part  -- DW_OP_skip

-- operation k, if it is a branch, leads to the start of an operation or to the end
abbrev pub Leads : Target → List (List ℕ) → ℕ → Type 0
Leads t parts k = (part : List ℕ) → slice_get parts k ≡ Some part → IsBranch part → (i : ℕ) × Displaced t.order parts k (Some i) part

-- operations to the end, of which one is the first branch that leads nowhere
pub record BranchFault (profile : Profile) (t : Target) (bytes : List ℕ) (r : Refusal) : Type 0 where
  pub parts : List (List ℕ)
  pub whole : bytes ≡ joined parts
  pub each : AllByRecursion (IsPart profile t) parts
  pub bad : ℕ
  pub nowhere : Leads t parts bad → ⊥
  pub first : (k : ℕ) → k < bad → Leads t parts k
  pub is : r ≡ record { code = BadBranch; at = start parts bad }

-- the first fault of a block
abbrev pub BlockFault : Profile → Target → List ℕ → Refusal → Type 0
BlockFault profile t bytes r = ReadingFault profile t bytes r ⊎ BranchFault profile t bytes r

-- a place in a block or at its end
abbrev pub IsWithin : List ℕ → Refusal → Type 0
IsWithin bytes r = r.at ≤ length bytes
