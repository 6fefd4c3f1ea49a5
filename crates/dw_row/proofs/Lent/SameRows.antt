-- Rows with the same rule in every column are the same.
use Rattle.dw_row.proofs.Words.{Bool, false, Option, Some, None, FirstDifference, IsTrue, is_some, not, ◌↔◌, eq-eqb, ◌≡◌, ℕ, suc, ◌<◌, true, List, [], ◌∷◌, refl, sym, ap, ◌∙◌, subst, arith, nat_tests, CfaRule, RegRule, Rules, Unspecified}
use Rattle.dw_row.proofs.{Words.{AreSpecified, is_specified, rule_in, rule}, Lent.RowLists.{Entry, unlisted}}

pub first_rule : (x : Entry) (xs : List Entry) → rule_in (x ∷ xs) x.0 ≡ x.1
first_rule x xs = rw (eq-eqb x.0 x.0 refl) refl

pub not_specified : (rule : RegRule) → is_specified rule ≡ true → rule ≡ Unspecified → ⊥
not_specified rule is e = let f = ap is_specified e in let g = sym is ∙ f in absurd cc

rest_same : (x y : Entry) (xs ys : List Entry) → AreSpecified (suc x.0) xs → AreSpecified (suc y.0) ys → x.0 ≡ y.0 → ((r : ℕ) → rule_in (x ∷ xs) r ≡ rule_in (y ∷ ys) r) → (r : ℕ) → rule_in xs r ≡ rule_in ys r
rest_same x y xs ys h k same e r = grind (arith, nat_tests, unlisted r (suc x.0) xs h, unlisted r (suc y.0) ys k, e r)

pub same_entries : (low : ℕ) (xs ys : List Entry) → AreSpecified low xs → AreSpecified low ys → ((r : ℕ) → rule_in xs r ≡ rule_in ys r) → xs ≡ ys
same_entries low [] [] h k e = refl
same_entries low [] (y ∷ ys) h k e = absurd (not_specified y.1 k.1 (sym (first_rule y ys) ∙ sym (e y.0)))
same_entries low (x ∷ xs) [] h k e = absurd (not_specified x.1 h.1 (sym (first_rule x xs) ∙ e x.0))
same_entries low ((r, rule) ∷ xs) ((q, other) ∷ ys) h k e =
    let before = λ (lt : r < q). not_specified rule h.1 (sym (first_rule (r, rule) xs) ∙ e r ∙ unlisted r q ((q, other) ∷ ys) (omega arith, k.1, k.2) lt) in
    let behind = λ (lt : q < r). not_specified other k.1 (sym (first_rule (q, other) ys) ∙ sym (e q) ∙ unlisted q r ((r, rule) ∷ xs) (omega arith, h.1, h.2) lt) in
    let same : r ≡ q = grind (arith, before, behind) in
    let down : AreSpecified (suc q) xs = subst (λ (n : ℕ). AreSpecified (suc n) xs) same h.2 in
    let rules : rule ≡ other = grind (arith, nat_tests, e r) in
    let rest = same_entries (suc q) xs ys down k.2 (rest_same (r, rule) (q, other) xs ys h.2 k.2 same e) in
    cc (same, rules, rest)

pub one_row : (a b : Rules) → a.cfa ≡ b.cfa → a.registers ≡ b.registers → a ≡ b
one_row a b cfa registers =
    ap (λ (c : CfaRule). let row : Rules = record { cfa = c; registers = a.registers } in row) cfa ∙ ap (λ (l : List Entry). let row : Rules = record { cfa = b.cfa; registers = l } in row) registers

pub same_rows : (a b : Rules) → AreSpecified 0 a.registers → AreSpecified 0 b.registers → a.cfa ≡ b.cfa → ((r : ℕ) → rule a r ≡ rule b r) → a ≡ b
same_rows a b h k cfa rules = one_row a b cfa (same_entries 0 a.registers b.registers h k rules)

-- rows are the same where no register's rule differs
pub same_exactly : (xs ys : List Entry) (o : Option ℕ) (none : Bool) → AreSpecified 0 xs → AreSpecified 0 ys → FirstDifference 0 xs ys o → is_some o ≡ not none → IsTrue none ↔ (xs ≡ ys)
same_exactly xs ys None true up up' h is = ((λ t. same_entries 0 xs ys up up' (λ r. h r (omega arith))), (λ e. refl))
same_exactly xs ys (Some q) false up up' h is = (
  (λ t. absurd cc),
  (λ e. absurd (h.2 (ap (λ (l : List Entry). rule_in l q) e))),
)
same_exactly xs ys o none up up' h is = absurd cc
