use Rattle.dw_library.proofs.Words.{ℕ, List, ◌++◌, length, Block, AreBlocks, expressions_of, in_rules}
use Rattle.dw_library.proofs.expressions.gather.Given as goal

abbrev pub invariant-loop-register : goal.invariant-loop-register
invariant-loop-register l =
    (bs : List Block) (ps : List ℕ) → AreBlocks (length l.all.bytes.items) (in_rules l.register-iterator) bs ps → AreBlocks 0 (expressions_of l.row) (l.all.blocks.items ++ bs) (l.all.bytes.items ++ ps)
