use Rattle.dw_library.proofs.{Words.{◌≡◌, ℕ, List, ◌∷◌, ◌++◌, length, subst, RegRule, Block, AreBlocks, expressions_of, in_rule, in_rules}, JoinedBlocks.{grown, all_there}}
use Rattle.dw_library.proofs.expressions.gather.Goals as goal

pub loop-register-preserved : goal.loop-register-preserved
loop-register-preserved c =
    let before = c.loop-register.all in
    let after = c.add_rule.new.self in
    let left = c.next.new.self in
    let x : ℕ × RegRule = (c.in-Some.register, c.in-Some.rule) in
    let steps : c.loop-register.register-iterator ≡ x ∷ left = c.in-Some.ensures.steps in
    let added = c.in_ok-add_rule.ensures in
    let all = expressions_of c.args.row.now in
    let inv = subst (λ (l : List (ℕ × RegRule)). (bs : List Block) (ps : List ℕ) → AreBlocks (length before.bytes.items) (in_rules l) bs ps → AreBlocks 0 all (before.blocks.items ++ bs) (before.bytes.items ++ ps)) steps c.loop-register.invariant in
    grown all (in_rule x.0 x.1) (in_rules left) before.blocks.items after.blocks.items added.0 before.bytes.items after.bytes.items added.1 inv added.2 added.3 added.4

pub returns : goal.returns
returns c =
    let all = expressions_of c.args.row.now in
    let blocks = c.loop-register.all.blocks.items in
    let bytes = c.loop-register.all.bytes.items in
    all_there all blocks bytes
    (subst (λ (l : List (ℕ × RegRule)). (bs : List Block) (ps : List ℕ) → AreBlocks (length bytes) (in_rules l) bs ps → AreBlocks 0 all (blocks ++ bs) (bytes ++ ps)) c.in-None.ensures.steps.0 c.loop-register.invariant)
