-- Blocks of expressions, one behind another.
use Rattle.dw_library.proofs.Words.{◌≡◌, ℕ, ◌+◌, List, [], ◌∷◌, ◌++◌, length, refl, sym, ap, subst, ◌∙◌, arith, append_assoc, length-append, append-nil, RegRule, Block, AreBlocks, in_cfa, in_rule}
use Rattle.dw_op.specs.Expression.{Expression}
use Rattle.dw_row.specs.declared.rule.CfaRule.{CfaRule}
use Rattle.dw_row.specs.declared.rule.CfaRule.TheVariants as cfa
use Rattle.dw_row.specs.declared.rule.RegRule.TheVariants as rules
use Rattle.dw_library.specs.{declared.expressions.Gathered.Gathered, Inner.Expressions.Adds}

-- those of more expressions behind
pub blocks_join : (at : ℕ) (xs ys : List (ℕ × Expression)) (bs cs : List Block) (ps qs : List ℕ)
    → AreBlocks at xs bs ps → AreBlocks (at + length ps) ys cs qs → AreBlocks at (xs ++ ys) (bs ++ cs) (ps ++ qs)
blocks_join at [] ys bs cs ps qs first second =
    let none : at + length ps ≡ at = omega (arith, ap (λ (l : List ℕ). length l) first.1) in
    subst (λ (l : List Block). AreBlocks at ys (l ++ cs) (ps ++ qs)) (sym first.0)
    (subst (λ (l : List ℕ). AreBlocks at ys cs (l ++ qs)) (sym first.1) (subst (λ (n : ℕ). AreBlocks n ys cs qs) none second))
blocks_join at (x ∷ xs) ys bs cs ps qs first second =
    let block = first.0 in
    let others = first.1 in
    let rest = first.2 in
    let place : at + length ps ≡ (at + length block) + length rest = omega (arith, ap (λ (l : List ℕ). length l) first.5, length-append block rest) in (
      block,
      others ++ cs,
      rest ++ qs,
      first.3,
      ap (λ (l : List Block). l ++ cs) first.4,
      ap (λ (l : List ℕ). l ++ qs) first.5 ∙ append_assoc block rest qs,
      blocks_join (at + length block) xs ys others cs rest qs first.6 (subst (λ (n : ℕ). AreBlocks n ys cs qs) place second),
    )

-- what is said of all blocks, whatever those are that are left, once some of these are there
pub grown : (all entries left : List (ℕ × Expression)) (old new b : List Block) (before after p : List ℕ)
    → ((bs : List Block) (ps : List ℕ) → AreBlocks (length before) (entries ++ left) bs ps → AreBlocks 0 all (old ++ bs) (before ++ ps))
    → AreBlocks (length before) entries b p → new ≡ old ++ b → after ≡ before ++ p
    → (bs : List Block) (ps : List ℕ) → AreBlocks (length after) left bs ps → AreBlocks 0 all (new ++ bs) (after ++ ps)
grown all entries left old new b before after p inv are blocks bytes bs ps behind =
    let place : length after ≡ length before + length p = ap (λ (l : List ℕ). length l) bytes ∙ length-append before p in
    let joined = blocks_join (length before) entries left b bs p ps are (subst (λ (n : ℕ). AreBlocks n left bs ps) place behind) in
    let is = inv (b ++ bs) (p ++ ps) joined in
    let in_blocks : old ++ (b ++ bs) ≡ new ++ bs = sym (append_assoc old b bs) ∙ ap (λ (l : List Block). l ++ bs) (sym blocks) in
    let in_bytes : before ++ (p ++ ps) ≡ after ++ ps = sym (append_assoc before p ps) ∙ ap (λ (l : List ℕ). l ++ ps) (sym bytes) in
    subst (λ (l : List ℕ). AreBlocks 0 all (new ++ bs) l) in_bytes (subst (λ (l : List Block). AreBlocks 0 all l (before ++ (p ++ ps))) in_blocks is)

-- and once none is left
pub all_there : (all : List (ℕ × Expression)) (blocks : List Block) (bytes : List ℕ)
    → ((bs : List Block) (ps : List ℕ) → AreBlocks (length bytes) [] bs ps → AreBlocks 0 all (blocks ++ bs) (bytes ++ ps)) → AreBlocks 0 all blocks bytes
all_there all blocks bytes inv =
    subst (λ (l : List ℕ). AreBlocks 0 all blocks l) (append-nil bytes)
    (subst (λ (l : List Block). AreBlocks 0 all l (bytes ++ [])) (append-nil blocks) (inv [] [] (refl, refl)))

-- ---- a rule without an expression adds none

adds_none : (g : Gathered) → Adds [] g g
adds_none g = ([], [], (refl, refl), sym (append-nil g.blocks.items), sym (append-nil g.bytes.items))

pub no_cfa : (g : Gathered) (rule : CfaRule) → ((e : Expression) → rule ≡ cfa.Expression e → ⊥) → Adds (in_cfa rule) g g
no_cfa g (cfa.Expression e) none = absurd (none e refl)
no_cfa g rule none = adds_none g

pub no_rule : (g : Gathered) (r : ℕ) (rule : RegRule) → ((e : Expression) → rule ≡ rules.Expression e → ⊥) → ((e : Expression) → rule ≡ rules.ValExpression e → ⊥) → Adds (in_rule r rule) g g
no_rule g r (rules.Expression e) none other = absurd (none e refl)
no_rule g r (rules.ValExpression e) none other = absurd (other e refl)
no_rule g r rule none other = adds_none g
