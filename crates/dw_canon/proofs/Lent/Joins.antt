-- A group whose row is part of one that it was joined with is not narrowed by FDEs that begin with that row and go on specifying
-- what it does.
use Rattle.dw_canon.proofs.Words.{◌≡◌, ◌⊎◌, ℕ, List, [], ◌∷◌, refl, sym, ◌∙◌, inl, inr, IsTrue, AllByRecursion, Target, agreed, Rules, is_specified, rule, same_rows, RowFits, kept_by, Member}
use Rattle.dw_canon.proofs.Lent.Shared.{MemberFits, Specify, specifies, kept_by_cfa, kept_by_fits, kept_by_has, next_fits, next_has, next_has_cfa}
use Rattle.dw_section.proofs.Lent.OpeningLaws.{Specifies}
use Rattle.dw_row.proofs.Lent.Equal.{cfa_told, rule_told}
use Rattle.dw_row.specs.declared.rule.CfaRule.TheVariants as cfa
use Rattle.dw_row.specs.declared.rule.RegRule.TheVariants as rules

-- a row has no rules but some of another row's
pub record PartOf (t : Target) (s row : Rules) : Type 0 where
  pub fits : RowFits t s
  pub cfa : (s.cfa ≡ cfa.Unset) ⊎ (row.cfa ≡ s.cfa)
  pub rules : (r : ℕ) → (rule s r ≡ rules.Unspecified) ⊎ (rule row r ≡ rule s r)

pub first_part : (t : Target) (row : Rules) (later : List (ℕ × Rules)) → RowFits t row → PartOf t (kept_by row later) row
first_part t row later h = record {
  fits = kept_by_fits t row later h;
  cfa = inr (sym (kept_by_cfa row later));
  rules = λ r. elim (rule_told (rule (kept_by row later) r) rules.Unspecified) [ inl none ↦ inl none | inr set ↦ inr ((kept_by_has t r _ set row later h).0 refl).0 ];
}

pub next_part : (t : Target) (s : Rules) (m : Member) → RowFits t s → MemberFits t m → PartOf t (kept_by (agreed s m.first) m.later) m.first
next_part t s m h k = record {
  fits = next_fits t s m.first m.later h;
  cfa = elim (cfa_told (kept_by (agreed s m.first) m.later).cfa cfa.Unset) [ inl none ↦ inl none | inr set ↦ inr ((next_has_cfa _ set s m.first m.later).0 refl).1 ];
  rules = λ r. elim (rule_told (rule (kept_by (agreed s m.first) m.later) r) rules.Unspecified) [ inl none ↦ inl none | inr set ↦ inr ((next_has t r _ set s m.first m.later h).0 refl).1 ];
}

module _ (t : Target) (s row : Rules) (h : PartOf t s row) (k : RowFits t row) (later : List (ℕ × Rules)) where
  abbrev next : Rules
  next = kept_by (agreed s row) later

  same_cfas : next.cfa ≡ s.cfa
  same_cfas = elim (cfa_told s.cfa cfa.Unset) [
    | inl none ↦ elim (cfa_told next.cfa cfa.Unset) [ inl gone ↦ gone ∙ sym none | inr set ↦ sym ((next_has_cfa _ set s row later).0 refl).0 ]
    | inr set ↦ (next_has_cfa s.cfa set s row later).1 (refl, elim h.cfa [ inl none ↦ absurd (set none) | inr same ↦ same ])
  ]

  all_specify : (r : ℕ) (xs : List (ℕ × Rules)) → IsTrue (is_specified (rule row r)) → AllByRecursion (λ (change : ℕ × Rules). Specifies change.1 row) xs → Specify r xs
  all_specify r [] some all = tt
  all_specify r (change ∷ xs) some all = ((specifies (rule change.1 r)).0 (all.0 r some), all_specify r xs some all.1)

  same_rules : AllByRecursion (λ (change : ℕ × Rules). Specifies change.1 row) later → (r : ℕ) → rule next r ≡ rule s r
  same_rules all r = elim (rule_told (rule s r) rules.Unspecified) [
    | inl none ↦ elim (rule_told (rule next r) rules.Unspecified) [ inl gone ↦ gone ∙ sym none | inr set ↦ sym ((next_has t r _ set s row later h.fits).0 refl).0 ]
    | inr set ↦ elim (h.rules r) [
      | inl none ↦ absurd (set none)
      | inr same ↦ (next_has t r (rule s r) set s row later h.fits).1 (refl, same, all_specify r later ((specifies (rule row r)).1 (λ none. set (sym same ∙ none))) all)
    ]
  ]

  pub joined_again : AllByRecursion (λ (change : ℕ × Rules). Specifies change.1 row) later → next ≡ s
  joined_again all = same_rows next s (next_fits t s row later h.fits).listed h.fits.listed same_cfas (same_rules all)
