-- The least spelling of operations.
use Rattle.std.specs.Prelude.{◌≡◌, ℕ, ◌<◌, ◌≤◌, ◌⊎◌, List, length, slice_index}
use Rattle.dw_num.specs.declared.target.Target.{Target}
use Rattle.dw_op.specs.{Block.{EachPart, Stands, joined}, OpSpells.OpSpells, declared.op.Op.Op}

-- a is shorter than b, or as long with an opcode that is not greater
abbrev pub AtMost : List ℕ → List ℕ → Type 0
AtMost a b = (length a < length b) ⊎ ((length a ≡ length b) × (slice_index a 0 ≤ slice_index b 0))

-- of all spellings the shortest, and of those of one length the one with the least opcode
pub record Least (t : Target) (op : Op) (bytes : List ℕ) : Type 0 where
  pub spells : OpSpells t op bytes
  pub least : (other : List ℕ) → OpSpells t op other → AtMost bytes other

-- the block whose every operation has its least spelling
pub record LeastBlock (t : Target) (ops : List Op) (bytes : List ℕ) : Type 0 where
  pub parts : List (List ℕ)
  pub each : EachPart (Stands t parts) 0 ops parts
  pub least : EachPart (λ k. Least t) 0 ops parts
  pub whole : bytes ≡ joined parts
