-- The tests of rules and of rows tell equal ones.
use Rattle.std.specs.{Prelude.{nat_eq, ℤ, ◌≡◌, ℕ, Bool, ◌&&◌, List}, Bool.Decides, Cmp.{IsPartialEquivalence, IsEquivalence, both_ways}}
use Rattle.std.specs.{Cmp.Lexicographic.{pointwise, pointwise_decides}, Ordering.int_eq}
use Rattle.std.proofs.Common.{◌≡◌, ℕ, Bool, true, List, [], ◌∷◌, map, refl, sym, ap, ◌∙◌, subst}
use Rattle.std.proofs.lemmas.Bool.Decides.{Decides-and, Decides-eqb, Decides-int_eq}
use Rattle.dw_num.specs.declared.target.Target.{Target}
use Rattle.dw_op.specs.{Expression.{Expression, bare}, declared.op.Op.Op, declared.op.Op.TheVariants.Implicit}
use Rattle.dw_op.specs.Inner.{Equality.{op_line, target_line}, EqualityLaws.lines_decide}
use Rattle.dw_op.proofs.Lent.Lines.{same_op, same_target}
use Rattle.dw_row.specs.{Rows.Rules, declared.rule.{CfaRule.CfaRule, RegRule.RegRule}}
use Rattle.dw_row.specs.Inner.Agreement.{pointer, same_cfa, same_expression, same_rule, whole_line, whole_lines}
use Rattle.dw_row.specs.declared.rule.CfaRule.TheVariants as cfa
use Rattle.dw_row.specs.declared.rule.RegRule.TheVariants as rules

-- ---- expressions

abbrev with_pointer : ℕ × ℕ → Op → Op
with_pointer p (Implicit block) = Implicit (record { ref_ptr = p; now = block.now })
with_pointer p op = op

pointer_back : (op : Op) → with_pointer (pointer op) (bare op) ≡ op
pointer_back (Implicit block) = refl
pointer_back op = refl

line_of : (p q : ℕ × ℕ) (a b : List ℕ) → p.0 ∷ p.1 ∷ a ≡ q.0 ∷ q.1 ∷ b → (p ≡ q) × (a ≡ b)
line_of p q a b e =
    let first : p.0 ≡ q.0 = cc in
    let second : p.1 ≡ q.1 = cc in
    let rest : a ≡ b = cc in
    (ap (λ (n : ℕ). (n, p.1)) first ∙ ap (λ (n : ℕ). (q.0, n)) second, rest)

same_whole : (a b : Op) → whole_line a ≡ whole_line b → a ≡ b
same_whole a b e =
    let parts = line_of (pointer a) (pointer b) (op_line a) (op_line b) e in
    sym (pointer_back a) ∙ ap (with_pointer (pointer a)) (same_op a b parts.1) ∙ ap (λ (p : ℕ × ℕ). with_pointer p (bare b)) parts.0 ∙ pointer_back b

heads : (a b : List ℕ) (x y : List (List ℕ)) → a ∷ x ≡ b ∷ y → (a ≡ b) × (x ≡ y)
heads a b x y e = (cc, cc)

same_ops : (a b : List Op) → map whole_line a ≡ map whole_line b → a ≡ b
same_ops [] [] e = refl
same_ops (x ∷ a) (y ∷ b) e =
    let parts = heads (whole_line x) (whole_line y) (map whole_line a) (map whole_line b) e in
    ap (λ (op : Op). op ∷ a) (same_whole x y parts.0) ∙ ap (λ (ops : List Op). y ∷ ops) (same_ops a b parts.1)
same_ops a b e = absurd cc

abbrev expression : Target → List Op → Expression
expression t ops = record { target = t; ops = ops }

pub tells : (a b : Expression) → Decides (same_expression a b) (a ≡ b)
tells a b =
    let d = lines_decide (whole_lines a) (whole_lines b) in (
      λ e.
          let parts = heads (target_line a.target) (target_line b.target) (map whole_line a.ops) (map whole_line b.ops) (d.0 e) in
          ap (λ (t : Target). expression t a.ops) (same_target a.target b.target parts.0) ∙ ap (expression b.target) (same_ops a.ops b.ops parts.1),
      λ e. d.1 (ap whole_lines e),
    )

-- ---- rules

cfa_is : (a b : CfaRule) → same_cfa a b ≡ true → a ≡ b
cfa_is cfa.Unset cfa.Unset e = refl
cfa_is (cfa.Register r n) (cfa.Register q m) e =
    let both = (Decides-and (nat_eq r q) (int_eq n m) (Decides-eqb r q) (Decides-int_eq n m)).0 e in
    ap (λ (x : ℕ). cfa.Register x n) both.0 ∙ ap (λ (z : ℤ). cfa.Register q z) both.1
cfa_is (cfa.Expression a) (cfa.Expression b) e = ap (λ (x : Expression). cfa.Expression x) ((tells a b).0 e)
cfa_is a b e = absurd cc

cfa_self : (a : CfaRule) → same_cfa a a ≡ true
cfa_self cfa.Unset = refl
cfa_self (cfa.Register r n) = (Decides-and (nat_eq r r) (int_eq n n) (Decides-eqb r r) (Decides-int_eq n n)).1 (refl, refl)
cfa_self (cfa.Expression a) = (tells a a).1 refl

pub cfa_tells : (a b : CfaRule) → Decides (same_cfa a b) (a ≡ b)
cfa_tells a b = (cfa_is a b, λ e. subst (λ (x : CfaRule). same_cfa a x ≡ true) e (cfa_self a))

rule_is : (a b : RegRule) → same_rule a b ≡ true → a ≡ b
rule_is rules.Unspecified rules.Unspecified e = refl
rule_is rules.Undefined rules.Undefined e = refl
rule_is rules.SameValue rules.SameValue e = refl
rule_is (rules.Offset n) (rules.Offset m) e = ap (λ (z : ℤ). rules.Offset z) ((Decides-int_eq n m).0 e)
rule_is (rules.ValOffset n) (rules.ValOffset m) e = ap (λ (z : ℤ). rules.ValOffset z) ((Decides-int_eq n m).0 e)
rule_is (rules.Register r) (rules.Register q) e = ap (λ (x : ℕ). rules.Register x) ((Decides-eqb r q).0 e)
rule_is (rules.Expression a) (rules.Expression b) e = ap (λ (x : Expression). rules.Expression x) ((tells a b).0 e)
rule_is (rules.ValExpression a) (rules.ValExpression b) e = ap (λ (x : Expression). rules.ValExpression x) ((tells a b).0 e)
rule_is a b e = absurd cc

rule_self : (a : RegRule) → same_rule a a ≡ true
rule_self (rules.Offset n) = (Decides-int_eq n n).1 refl
rule_self (rules.ValOffset n) = (Decides-int_eq n n).1 refl
rule_self (rules.Register r) = (Decides-eqb r r).1 refl
rule_self (rules.Expression a) = (tells a a).1 refl
rule_self (rules.ValExpression a) = (tells a a).1 refl
rule_self a = refl

pub rule_tells : (a b : RegRule) → Decides (same_rule a b) (a ≡ b)
rule_tells a b = (rule_is a b, λ e. subst (λ (x : RegRule). same_rule a x ≡ true) e (rule_self a))

-- ---- rows

abbrev Entry : Type 0
Entry = ℕ × RegRule

abbrev same_entry : Entry → Entry → Bool
same_entry x y = nat_eq x.0 y.0 && same_rule x.1 y.1

unfoldable pub same_rows : Rules → Rules → Bool
same_rows a b = same_cfa a.cfa b.cfa && pointwise same_entry a.registers b.registers

-- ---- it tells equal rows

entry_tells : (x y : Entry) → Decides (same_entry x y) (x ≡ y)
entry_tells x y =
    let both = Decides-and (nat_eq x.0 y.0) (same_rule x.1 y.1) (Decides-eqb x.0 y.0) (rule_tells x.1 y.1) in
    (λ e. let parts = both.0 e in ap (λ (n : ℕ). (n, x.1)) parts.0 ∙ ap (λ (rule : RegRule). (y.0, rule)) parts.1, λ e. both.1 (ap (λ (z : Entry). z.0) e, ap (λ (z : Entry). z.1) e))

abbrev row : CfaRule → List Entry → Rules
row cfa registers = record { cfa = cfa; registers = registers }

pub rows_tell : (a b : Rules) → Decides (same_rows a b) (a ≡ b)
unfolding same_rows
rows_tell a b =
    let both = Decides-and (same_cfa a.cfa b.cfa) (pointwise same_entry a.registers b.registers) (cfa_tells a.cfa b.cfa) (pointwise_decides entry_tells a.registers b.registers) in
    (λ e. let parts = both.0 e in ap (λ (c : CfaRule). row c a.registers) parts.0 ∙ ap (row b.cfa) parts.1, λ e. both.1 (ap (λ (r : Rules). r.cfa) e, ap (λ (r : Rules). r.registers) e))

-- ---- so it is an equivalence

pub same_laws : IsPartialEquivalence same_rows
same_laws = record {
  symm = λ a b. both_ways (same_rows a b) (same_rows b a) (λ e. (rows_tell b a).1 (sym ((rows_tell a b).0 e))) (λ e. (rows_tell a b).1 (sym ((rows_tell b a).0 e)));
  trans = λ a b c e f. (rows_tell a c).1 ((rows_tell a b).0 e ∙ (rows_tell b c).0 f);
}

pub equal_laws : IsEquivalence same_rows
equal_laws = record {
  refl = λ a. (rows_tell a a).1 refl;
  symm = same_laws.symm;
  congr = λ a b c e. subst (λ (x : Rules). same_rows a c ≡ same_rows x c) ((rows_tell a b).0 e) refl;
}
