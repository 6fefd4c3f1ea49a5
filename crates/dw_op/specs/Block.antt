-- A block is its operations' spellings, one after the other: DWARF 5, 2.5.1.5 and 7.7.1.
use Rattle.std.specs.{Prelude.{◌≡◌, ℕ, zero, suc, ◌+◌, ℤ, ◌≤◌, List, [], ◌∷◌, length, Option, Some, None, pos, ◌-ℤ◌}, Int.w16, List.flat_map}
use Rattle.dw_num.specs.{Fixed.FixedSigned, declared.target.Order.Order, declared.target.Target.Target}
use Rattle.dw_op.specs.{OpSpells.{OpSpells, Code}, Profile.InFrame, declared.op.Op.Op, declared.op.Op.TheVariants.{Bra, Skip}}

-- where part i begins: the lengths of the parts before it, together. At the list's length it is where the last one ends.
abbrev pub start : List (List ℕ) → ℕ → ℕ
start parts zero = 0
start [] (suc i) = 0
start (part ∷ parts) (suc i) = length part + start parts i

-- the operation that a branch goes to
abbrev pub branch_target : Op → Option ℕ
branch_target (Bra i) = Some i
branch_target (Skip i) = Some i
branch_target op = None

-- from the end of operation k to where operation i begins, negative for a place before that end
abbrev pub displacement : List (List ℕ) → ℕ → ℕ → ℤ
displacement parts k i = pos (start parts i) -ℤ pos (start parts (k + 1))

-- operation k, a branch to operation i of the list or to its end, has this displacement after its code
abbrev pub Displaced : Order → List (List ℕ) → ℕ → Option ℕ → List ℕ → Type 0
Displaced order parts k None part = Unit {0}
Displaced order parts k (Some i) part =
    (i ≤ length parts) × (code : ℕ) × Code code (FixedSigned order w16 (displacement parts k i)) part

-- operation k of the block has this spelling
pub record Stands (t : Target) (parts : List (List ℕ)) (k : ℕ) (op : Op) (part : List ℕ) : Type 0 where
  pub spells : OpSpells t op part
  pub displaced : Displaced t.order parts k (branch_target op) part

-- P of each operation, from number k on, and its part
abbrev pub EachPart : (ℕ → Op → List ℕ → Type 0) → ℕ → List Op → List (List ℕ) → Type 0
EachPart P k [] [] = Unit {0}
EachPart P k [] (part ∷ parts) = ⊥
EachPart P k (op ∷ ops) [] = ⊥
EachPart P k (op ∷ ops) (part ∷ parts) = P k op part × EachPart P (suc k) ops parts

-- the parts, one after the other
abbrev pub joined : List (List ℕ) → List ℕ
joined parts = flat_map (λ part. part) parts

-- the bytes are spellings of the operations, one after the other
pub record Block (t : Target) (ops : List Op) (bytes : List ℕ) : Type 0 where
  pub parts : List (List ℕ)
  pub each : EachPart (Stands t parts) 0 ops parts
  pub whole : bytes ≡ joined parts

abbrev pub FrameBlock : Target → List Op → List ℕ → Type 0
FrameBlock t ops bytes = Block t ops bytes × InFrame ops
