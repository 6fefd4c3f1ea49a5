-- How many bytes lead from one row to another, where the bytes of the rules of both are known.
use Rattle.dw_canon.proofs.Words.{◌≡◌, ℕ, ◌+◌, ◌<◌, ◌≤◌, true, false, List, [], ◌∷◌, ◌++◌, length, inl, inr, arith, ℤ, neg_ℤ, unsigned_abs, nat_eq, is_negative, flat_map, int_eq, cases_Bool, length-append, Target, shortest_uleb}
use Rattle.dw_canon.proofs.Words.{shortest_sleb, Instr, DefCfa, DefCfaRegister, DefCfaOffset, DefCfaExpression, Set, Restore, CfaRule, RegRule, IsOffset, same_rule, Rules, rule, is_specified, CfaFits, RowFits, cfa_to, either}
use Rattle.dw_canon.proofs.{Words.{cfa_difference, rule_difference, difference, expression_bytes, instr_bytes, program_bytes, packed}, Sums.sum_of, Weights.{rule_len, cfa_len, register_len, abs_len, neg_len, packed_len}}
use Rattle.dw_canon.specs.Spelling.{instr_bytes as instr_with}
use Rattle.dw_row.specs.declared.rule.CfaRule.TheVariants as cfa
use Rattle.dw_row.specs.declared.rule.RegRule.TheVariants as rules

-- the rules of a row are spelled in so many bytes each
pub record RowWithin (t : Target) (most : ℕ) (each : ℕ → ℕ) (row : Rules) : Type 0 where
  pub fits : RowFits t row
  pub cfa : cfa_len t row.cfa ≤ most
  pub rules : (r : ℕ) → rule_len t r (rule row r) ≤ each r

pub bytes_more : (t : Target) (xs ys : List Instr) → length (program_bytes t (xs ++ ys)) ≡ length (program_bytes t xs) + length (program_bytes t ys)
bytes_more t [] ys = omega arith
bytes_more t (x ∷ xs) ys = omega (arith, length-append (instr_bytes t x) (program_bytes t (xs ++ ys)), length-append (instr_bytes t x) (program_bytes t xs), bytes_more t xs ys)

pub bytes_one : (t : Target) (i : Instr) (n : ℕ) → length (instr_bytes t i) ≤ n → length (program_bytes t (i ∷ [])) ≤ n
bytes_one t i n h = let none : List ℕ = [] in omega (arith, length-append (instr_bytes t i) none)

-- ---- a register

-- restore is no longer than a rule
restore_len : (t : Target) (r : ℕ) (x : RegRule) → is_specified x ≡ true → length (packed 0xc0 0x06 r) ≤ rule_len t r x
restore_len t r rules.Unspecified e = absurd cc
restore_len t r (rules.Offset n) e = grind (arith, length-append)
restore_len t r (rules.ValOffset n) e = grind (arith, length-append)
restore_len t r (rules.Register q) e = omega (arith, packed_len 0xc0 0x06 r, length-append (shortest_uleb r) (shortest_uleb q))
restore_len t r (rules.Expression x) e = omega (arith, packed_len 0xc0 0x06 r, length-append (shortest_uleb r) (expression_bytes t x))
restore_len t r (rules.ValExpression x) e = omega (arith, packed_len 0xc0 0x06 r, length-append (shortest_uleb r) (expression_bytes t x))
restore_len t r x e = omega (arith, packed_len 0xc0 0x06 r)

-- where one rule goes to another, and the other is none, only the first is long enough for it
restore_either : (t : Target) (r n : ℕ) (a b : RegRule) → same_rule a b ≡ false → (b ≡ rules.Unspecified → rule_len t r a ≤ n) → rule_len t r b ≤ n → length (packed 0xc0 0x06 r) ≤ n
restore_either t r n a b e h k = grind (arith, restore_len)

-- ---- the CFA

define_len : (t : Target) (r : ℕ) (n : ℤ) → r < 65536 → IsOffset n → length (instr_bytes t (DefCfa r n)) ≤ 14
unfolding instr_with
define_len t r n lt h = grind (arith, cases_Bool, is_negative, register_len, neg_len, length-append, shortest_sleb, neg_ℤ, abs_len, unsigned_abs)

register_to_len : (t : Target) (r : ℕ) → r < 65536 → length (instr_bytes t (DefCfaRegister r)) ≤ 14
unfolding instr_with
register_to_len t r lt = omega (arith, register_len r lt)

offset_to_len : (t : Target) (n : ℤ) → IsOffset n → length (instr_bytes t (DefCfaOffset n)) ≤ 14
unfolding instr_with
offset_to_len t n h = elim (cases_Bool (is_negative n)) [ inl e ↦ rw e (omega (arith, neg_len n h)) | inr e ↦ rw e (omega (arith, abs_len n h)) ]

cfa_to_len : (t : Target) (old new : CfaRule) → CfaFits t new → length (program_bytes t (cfa_to old new)) ≤ 14 + cfa_len t new
unfolding instr_with
cfa_to_len t (cfa.Register r n) (cfa.Register q m) h = elim (cases_Bool (nat_eq r q)) [
  | inl e ↦ rw e (bytes_one t (DefCfaOffset m) 14 (offset_to_len t m h.1))
  | inr e ↦ elim (cases_Bool (int_eq n m)) [
    | inl f ↦ rw (e, f) (bytes_one t (DefCfaRegister q) 14 (register_to_len t q h.0))
    | inr f ↦ rw (e, f) (bytes_one t (DefCfa q m) 14 (define_len t q m h.0 h.1))
  ]
]
cfa_to_len t cfa.Unset (cfa.Register q m) h = bytes_one t (DefCfa q m) 14 (define_len t q m h.0 h.1)
cfa_to_len t (cfa.Expression e) (cfa.Register q m) h = bytes_one t (DefCfa q m) 14 (define_len t q m h.0 h.1)
cfa_to_len t (cfa.Register r n) (cfa.Expression e) h = bytes_one t (DefCfaExpression e) (14 + cfa_len t (cfa.Expression e)) (omega arith)
cfa_to_len t cfa.Unset (cfa.Expression e) h = bytes_one t (DefCfaExpression e) (14 + cfa_len t (cfa.Expression e)) (omega arith)
cfa_to_len t (cfa.Expression x) (cfa.Expression e) h = bytes_one t (DefCfaExpression e) (14 + cfa_len t (cfa.Expression e)) (omega arith)
cfa_to_len t old cfa.Unset h = omega arith

cfa_difference_len : (t : Target) (old new : CfaRule) (most : ℕ) → CfaFits t new → cfa_len t new ≤ most → length (program_bytes t (cfa_difference old new)) ≤ 14 + most
cfa_difference_len t old new most h le = grind (arith, cfa_to_len)

-- ---- both

module _ (t : Target) (most : ℕ) (each : ℕ → ℕ) (initial old new : Rules) (left : (r : ℕ) → rule new r ≡ rules.Unspecified → rule_len t r (rule old r) ≤ each r) (k : RowWithin t most each new) where
  one_len : (r : ℕ) → length (program_bytes t (rule_difference initial old new r)) ≤ each r
  unfolding instr_with
  one_len r = elim (cases_Bool (same_rule (rule old r) (rule new r))) [
    | inl e ↦ rw e (omega arith)
    | inr e ↦ rw e (elim (cases_Bool (same_rule (rule new r) (rule initial r))) [
      | inl f ↦ rw f (bytes_one t (Restore r) (each r) (restore_either t r (each r) (rule old r) (rule new r) e (left r) (k.rules r)))
      | inr f ↦ rw f (bytes_one t (Set r (rule new r)) (each r) (k.rules r))
    ])
  ]

  rules_len : (rs : List ℕ) → length (program_bytes t (flat_map (rule_difference initial old new) rs)) ≤ sum_of each rs
  rules_len [] = omega arith
  rules_len (r ∷ rs) = omega (arith, bytes_more t (rule_difference initial old new r) (flat_map (rule_difference initial old new) rs), one_len r, rules_len rs)

  pub difference_len : length (program_bytes t (difference initial old new)) ≤ 14 + most + sum_of each (either old new)
  difference_len = grind (arith, bytes_more, either, cfa_difference_len, rules_len)
