-- What the code and its proofs say beside Expressions.
use Rattle.std.specs.Prelude.{◌≡◌, ℕ, List, ◌++◌, length}
use Rattle.dw_op.specs.Expression.{Expression}
use Rattle.dw_library.specs.{Expressions.AreBlocks, declared.expressions.Block.Block, declared.expressions.Gathered.Gathered}

-- these expressions were added
abbrev pub Adds : List (ℕ × Expression) → Gathered → Gathered → Type 0
Adds entries old new =
    (blocks : List Block) × (bytes : List ℕ) × AreBlocks (length old.bytes.items) entries blocks bytes
    × (new.blocks.items ≡ old.blocks.items ++ blocks) × (new.bytes.items ≡ old.bytes.items ++ bytes)
