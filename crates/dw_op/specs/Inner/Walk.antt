-- The operations of a block one after another, and what its branches name, as the code finds them. Block.antt and Faults.antt say the same without it.
use Rattle.std.specs.Prelude.{ℕ, ◌+◌, ◌-◌, List, [], ◌∷◌, length, Option, Some, None, Result, Ok, Err, nat_eq, nat_lt, if◌then◌else◌}
use Rattle.dw_num.specs.{Input.Input, declared.refusal.Code.TheVariants.BadBranch, declared.refusal.Refusal.Refusal, declared.target.Target.Target}
use Rattle.dw_op.specs.{Walks.Walked, declared.op.Op.Op}
use Rattle.dw_op.specs.declared.operation.{Branch.Branch, Branch.TheVariants.{Bra, Skip}, Step.Step, Step.TheVariants.{Plain, Jump}}
use Rattle.dw_op.specs.{declared.profile.Profile.Profile, Inner.FrontOp.step_at, Inner.Walks.walked}
use Rattle.dw_op.specs.declared.op.Op.TheVariants as ops

-- an operation and the place of its code
pub record PlacedStep : Type 0 where
  pub at : ℕ
  pub step : Step

abbrev pub item_of : ℕ → Step → PlacedStep
item_of at step = record { at = at; step = step }

-- the longest beginning of operations, and the fault of what follows it
abbrev pub Walk : Type 0
Walk = Walked PlacedStep

unfoldable pub walk : Profile → Input → Walk
walk profile i = walked (step_at profile) item_of i

-- the place behind all of it
abbrev pub end_of : Input → ℕ
end_of i = i.at + length i.bytes

abbrev pub plus : ℕ → Option ℕ → Option ℕ
plus n None = None
plus n (Some m) = Some (n + m)

-- what the operations before this place weigh together, if one starts there or it is the end
abbrev pub passed : (Step → ℕ) → List PlacedStep → ℕ → ℕ → Option ℕ
passed weight [] end place = if nat_eq place end then Some 0 else None
passed weight (item ∷ items) end place = if nat_eq place item.at then Some 0 else plus (weight item.step) (passed weight items end place)

abbrev pub one : Step → ℕ
one step = 1

-- the number of the operation that starts there
abbrev pub index_at : List PlacedStep → ℕ → ℕ → Option ℕ
index_at items end place = passed one items end place

-- where a branch that ends here goes to: the number behind its code is signed
abbrev pub goes_to : ℕ → ℕ → Option ℕ
goes_to end number =
    if nat_lt number 32768 then Some (end + number)
    else if nat_lt (end + number) 65536 then None
    else Some (end + number - 65536)

abbrev pub find_at : (ℕ → Option ℕ) → Option ℕ → Option ℕ
find_at find None = None
find_at find (Some place) = find place

abbrev pub branch_to : Branch → Option ℕ → Option Op
branch_to branch None = None
branch_to Bra (Some i) = Some (ops.Bra i)
branch_to Skip (Some i) = Some (ops.Skip i)

-- the operation, its branch by the number of the operation that it names
abbrev pub op_of : (ℕ → Option ℕ) → ℕ → Step → Option Op
op_of find at (Plain op) = Some op
op_of find at (Jump branch number) = branch_to branch (find_at find (goes_to (at + 3) number))

abbrev pub put_first : Option Op → ℕ → Result (List Op) Refusal → Result (List Op) Refusal
put_first None at rest = Err (record { code = BadBranch; at = at })
put_first (Some op) at (Ok ops) = Ok (op ∷ ops)
put_first (Some op) at (Err e) = Err e

-- the operations, or the first bad branch
abbrev pub resolve : (ℕ → Option ℕ) → List PlacedStep → Result (List Op) Refusal
resolve find [] = Ok []
resolve find (item ∷ items) = put_first (op_of find item.at item.step) item.at (resolve find items)

abbrev pub unless : Option Refusal → Result (List Op) Refusal → Result (List Op) Refusal
unless None r = r
unless (Some fault) r = Err fault

-- a block, at place 0
abbrev pub block_input : Target → List ℕ → Input
block_input target bytes = record { at = 0; bytes = bytes; target = target }

-- the number of the block's operation that starts at a place
abbrev pub index_in : Profile → Input → ℕ → Option ℕ
index_in profile i place = index_at (walk profile i).items (end_of i) place

-- the operations of a block, or its first fault
unfoldable pub decode_at : Profile → Input → Result (List Op) Refusal
decode_at profile i = unless (walk profile i).fault (resolve (index_in profile i) (walk profile i).items)
