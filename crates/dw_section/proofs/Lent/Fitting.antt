-- Programs that are spelled give no rules but those that fit.
use Rattle.dw_section.proofs.Words.{◌≡◌, ℕ, zero, suc, ◌<◌, true, List, [], ◌∷◌, subst, arith, inl, inr, AllByRecursion, Target, Factors, Instr, CfaRule, RegRule, look_back, cfa_change, rule_change, cfa_after, rule_after, ProgramSpells}
use Rattle.dw_section.proofs.Words.{onto, AreSpecified, is_specified, rule_in, RuleFits, CfaFits, eqb_tells, DefCfa, DefCfaRegister, DefCfaOffset, DefCfaExpression, Set, Restore, RememberState, RestoreState, IsOffset, BlockSpells}
use Rattle.dw_section.proofs.Words.{RuleSpells, IsSpelled, by_table, unlisted, HasBlock, refl}
use Rattle.dw_row.proofs.Lent.SameRows.{first_rule}
use Rattle.dw_row.specs.declared.rule.CfaRule.TheVariants as cfa
use Rattle.dw_row.specs.declared.rule.RegRule.TheVariants as rules
use Rattle.dw_op.specs.Expression.{Expression}

-- ---- what an instruction gives

abbrev pub Gives : Target → Instr → Type 0
Gives t (DefCfa r n) = (r < 65536) × IsOffset n
Gives t (DefCfaRegister r) = r < 65536
Gives t (DefCfaOffset n) = IsOffset n
Gives t (DefCfaExpression e) = HasBlock t e
Gives t (Set r rule) = (r < 65536) × RuleFits t rule
Gives t other = Unit {0}

block_gives : (t : Target) (e : Expression) (b : List ℕ) → BlockSpells t e b → HasBlock t e
block_gives t e b h = (h.same_target, (h.block, h.operations, h.counted.fits))

rule_gives : (t : Target) (f : Factors) (r : ℕ) (rule : RegRule) (b : List ℕ) → RuleSpells t f r rule b → (r < 65536) × RuleFits t rule
rule_gives t f r rules.Unspecified b h = absurd h
rule_gives t f r rules.Undefined b h = (h.operands.1, tt)
rule_gives t f r rules.SameValue b h = (h.operands.1, tt)
rule_gives t f r (rules.Offset n) b (inl h) = (omega (arith, h.0), h.1.operands.range)
rule_gives t f r (rules.Offset n) b (inr (inl h)) = (h.operands.first.1, h.operands.second.range)
rule_gives t f r (rules.Offset n) b (inr (inr h)) = (h.operands.first.1, h.operands.second.range)
rule_gives t f r (rules.ValOffset n) b (inl h) = (h.operands.first.1, h.operands.second.range)
rule_gives t f r (rules.ValOffset n) b (inr h) = (h.operands.first.1, h.operands.second.range)
rule_gives t f r (rules.Register q) b h = (h.operands.first.1, h.operands.second.1)
rule_gives t f r (rules.Expression e) b h = (h.operands.first.1, block_gives t e h.operands.back h.operands.second)
rule_gives t f r (rules.ValExpression e) b h = (h.operands.first.1, block_gives t e h.operands.back h.operands.second)

pub instr_gives : (t : Target) (f : Factors) (i : Instr) (b : List ℕ) → IsSpelled t f i b → Gives t i
instr_gives t f (DefCfa r n) b (inl h) = (h.operands.first.1, h.operands.second.range)
instr_gives t f (DefCfa r n) b (inr h) = (h.operands.first.1, h.operands.second.range)
instr_gives t f (DefCfaRegister r) b h = h.operands.1
instr_gives t f (DefCfaOffset n) b (inl h) = h.operands.range
instr_gives t f (DefCfaOffset n) b (inr h) = h.operands.range
instr_gives t f (DefCfaExpression e) b h = block_gives t e h.rest h.operands
instr_gives t f (Set r rule) b h = rule_gives t f r rule b h
instr_gives t f i b h = tt

-- what each spelling says, a program says of all its instructions
pub program_all : (P : Instr → Type 0) (t : Target) (f : Factors) → ((i : Instr) (b : List ℕ) → IsSpelled t f i b → P i) → (instrs : List Instr) (b : List ℕ) → ProgramSpells t f instrs b → AllByRecursion P instrs
program_all P t f says [] b h = tt
program_all P t f says (i ∷ instrs) b h = (says i h.front (by_table t f i h.front h.first), program_all P t f says instrs h.back h.second)

-- ---- what is found looking back

pub all_onto : (Q : Instr → Type 0) (earlier instrs : List Instr) (k : ℕ) → AllByRecursion Q earlier → AllByRecursion Q instrs → AllByRecursion Q (onto earlier instrs k)
all_onto Q earlier instrs zero h g = h
all_onto Q earlier [] (suc k) h g = h
all_onto Q earlier (i ∷ instrs) (suc k) h g = all_onto Q (i ∷ earlier) instrs k (g.0, h) g.1

module _ {Rule : Type 0} (change : Instr → Rule → Rule) (initial : Rule) (P : Rule → Type 0) (Q : Instr → Type 0) (keeps : (i : Instr) → Q i → (old : Rule) → P old → P (change i old)) (start : P initial) where
  pub back_keeps : (inner : ℕ) (earlier : List Instr) → AllByRecursion Q earlier → P (look_back change initial inner earlier)
  back_keeps inner [] h = start
  back_keeps zero (RestoreState ∷ earlier) h = back_keeps 1 earlier h.1
  back_keeps zero (i ∷ earlier) h = keeps i h.0 (look_back change initial zero earlier) (back_keeps zero earlier h.1)
  back_keeps (suc inner) (RestoreState ∷ earlier) h = back_keeps (suc (suc inner)) earlier h.1
  back_keeps (suc inner) (RememberState ∷ earlier) h = back_keeps inner earlier h.1
  back_keeps (suc inner) (i ∷ earlier) h = back_keeps (suc inner) earlier h.1

cfa_keeps : (t : Target) (i : Instr) → Gives t i → (old : CfaRule) → CfaFits t old → CfaFits t (cfa_change i old)
cfa_keeps t (DefCfa r n) g old h = g
cfa_keeps t (DefCfaRegister r) g (cfa.Register q n) h = (g, h.1)
cfa_keeps t (DefCfaRegister r) g old h = h
cfa_keeps t (DefCfaOffset n) g (cfa.Register r m) h = (h.0, g)
cfa_keeps t (DefCfaOffset n) g old h = h
cfa_keeps t (DefCfaExpression e) g old h = g
cfa_keeps t i g old h = h

-- a rule of a register fits, and so does the register where the rule is specified
abbrev pub Fitting : Target → ℕ → RegRule → Type 0
Fitting t r rule = RuleFits t rule × (is_specified rule ≡ true → r < 65536)

rule_keeps : (t : Target) (r : ℕ) (initial : RegRule) → Fitting t r initial → (i : Instr) → Gives t i → (old : RegRule) → Fitting t r old → Fitting t r (rule_change r initial i old)
rule_keeps t r initial start (Set q given) g old h = elim (eqb_tells q r) [ inl is ↦ rw (is.0) (g.1, λ e. omega (arith, is.1, g.0)) | inr not ↦ rw (not.0) h ]
rule_keeps t r initial start (Restore q) g old h = elim (eqb_tells q r) [ inl is ↦ rw (is.0) start | inr not ↦ rw (not.0) h ]
rule_keeps t r initial start i g old h = h

pub cfa_found : (t : Target) (initial : CfaRule) (instrs : List Instr) (k : ℕ) → CfaFits t initial → AllByRecursion (Gives t) instrs → CfaFits t (cfa_after initial instrs k)
cfa_found t initial instrs k start g = back_keeps cfa_change initial (CfaFits t) (Gives t) (cfa_keeps t) start 0 (onto [] instrs k) (all_onto (Gives t) [] instrs k tt g)

pub rule_found : (t : Target) (initial : RegRule) (instrs : List Instr) (r k : ℕ) → Fitting t r initial → AllByRecursion (Gives t) instrs → Fitting t r (rule_after initial instrs r k)
rule_found t initial instrs r k start g = back_keeps (rule_change r initial) initial (Fitting t r) (Gives t) (rule_keeps t r initial start) start 0 (onto [] instrs k) (all_onto (Gives t) [] instrs k tt g)

-- ---- rows

pub entries_fit : (t : Target) (low : ℕ) (xs : List (ℕ × RegRule)) → AreSpecified low xs → ((r : ℕ) → Fitting t r (rule_in xs r)) → AllByRecursion (λ (entry : ℕ × RegRule). (entry.0 < 65536) × RuleFits t entry.1) xs
entries_fit t low [] h all = tt
entries_fit t low (x ∷ xs) h all = let here = subst (Fitting t x.0) (first_rule x xs) (all x.0) in ((here.1 h.1, here.0), entries_fit t (suc x.0) xs h.2 rest)
  where
    rest : (r : ℕ) → Fitting t r (rule_in xs r)
    rest r = elim (eqb_tells x.0 r) [
      | inl is ↦ rw (unlisted r (suc x.0) xs h.2 (omega (arith, is.1))) (tt, λ e. absurd cc)
      | inr not ↦ let same : rule_in (x ∷ xs) r ≡ rule_in xs r = rw (not.0) refl in subst (Fitting t r) same (all r)
    ]
