-- The rows of two programs are spelled in the bytes that their instructions give rules in, and so is what leads from one to another.
use Rattle.dw_row.specs.declared.rule.CfaRule.TheVariants as cfa
use Rattle.dw_row.specs.declared.rule.RegRule.TheVariants as rules
use Rattle.dw_cfa.specs.Column.{with_register}
use Rattle.dw_section.proofs.Lent.Fitting.{all_onto, back_keeps}
use Rattle.dw_canon.specs.Spelling.{instr_bytes as instr_with}
use Rattle.dw_canon.proofs.Words.{◌≡◌, ℕ, ◌+◌, ◌*◌, ◌≤◌, List, [], ◌∷◌, ◌++◌, length, sym, subst, inl, inr, arith, ℤ, AllByRecursion, keys_of, eqb_tells, length-append, suc-mul}
use Rattle.dw_canon.proofs.Words.{Target, Instr, DefCfa, DefCfaRegister, DefCfaOffset, DefCfaExpression, Set, Restore, CfaRule, RegRule, with_offset, cfa_change, rule_change, cfa_after, rule_after}
use Rattle.dw_canon.proofs.{Words.{initial_cfa, initial_rule, HoldsAfter, onto, Rules, rule, RowFits, either, move, difference, later_changes, instr_bytes, program_bytes}, AscendingRegisters.{Rise, with_all_rise, keys_rise}}
use Rattle.dw_canon.proofs.{Costs.{RowWithin, bytes_more, difference_len}, Sums.{sum_of, sum_more, sum_none, once_own, sum_once}, Weights.{rule_len, cfa_len, rule_weight, own_weight, cfa_weight}}

-- ---- what an instruction makes of a rule

each_below : {X : Type 0} (f : X → ℕ) (n : ℕ) (xs : List X) → sum_of f xs ≤ n → AllByRecursion (λ (x : X). f x ≤ n) xs
each_below f n [] le = tt
each_below f n (x ∷ xs) le = (omega arith, each_below f n xs (omega arith))

register_stays : (t : Target) (n q : ℕ) (old : CfaRule) → cfa_len t old ≤ n → cfa_len t (with_register q old) ≤ n
register_stays t n q cfa.Unset h = h
register_stays t n q old h = h

offset_stays : (t : Target) (n : ℕ) (m : ℤ) (old : CfaRule) → cfa_len t old ≤ n → cfa_len t (with_offset m old) ≤ n
offset_stays t n m cfa.Unset h = h
offset_stays t n m old h = h

cfa_keeps : (t : Target) (n : ℕ) (i : Instr) → cfa_weight t i ≤ n → (old : CfaRule) → cfa_len t old ≤ n → cfa_len t (cfa_change i old) ≤ n
cfa_keeps t n (DefCfa r m) w old h = omega arith
cfa_keeps t n (DefCfaRegister r) w old h = register_stays t n r old h
cfa_keeps t n (DefCfaOffset m) w old h = offset_stays t n m old h
cfa_keeps t n (DefCfaExpression e) w old h = w
cfa_keeps t n i w old h = h

rule_keeps : (t : Target) (n r : ℕ) (initial : RegRule) → rule_len t r initial ≤ n → (i : Instr) → own_weight t r i ≤ n → (old : RegRule) → rule_len t r old ≤ n → rule_len t r (rule_change r initial i old) ≤ n
rule_keeps t n r initial start (Set q given) w old h = grind arith
rule_keeps t n r initial start (Restore q) w old h = elim (eqb_tells q r) [ inl is ↦ rw (is.0) start | inr not ↦ rw (not.0) h ]
rule_keeps t n r initial start i w old h = h

-- ---- a move

move_len : (t : Target) (at to : ℕ) → length (instr_bytes t (move at to)) ≤ 9
unfolding instr_with
move_len t at to = grind arith

-- ---- the rows of two programs

module _ (t : Target) (i j : List Instr) where
  abbrev most : ℕ
  most = sum_of (cfa_weight t) (i ++ j)

  abbrev each : ℕ → ℕ
  each r = sum_of (own_weight t r) (i ++ j)

  -- all bytes that rules of the programs are spelled in
  abbrev pub all_len : ℕ
  all_len = sum_of (rule_weight t) (i ++ j) + sum_of (cfa_weight t) (i ++ j)

  abbrev pub IsWithin : Rules → Type 0
  IsWithin row = RowWithin t most each row

  first_cfa : cfa_len t (initial_cfa i) ≤ most
  first_cfa =
      let low = each_below (cfa_weight t) most i (omega (arith, sum_more (cfa_weight t) i j)) in
      back_keeps cfa_change cfa.Unset (λ (c : CfaRule). cfa_len t c ≤ most) (λ (x : Instr). cfa_weight t x ≤ most) (cfa_keeps t most) (omega arith) 0 (onto [] i (length i)) (all_onto (λ (x : Instr). cfa_weight t x ≤ most) [] i (length i) tt low)

  after_cfa : (k : ℕ) → cfa_len t (cfa_after (initial_cfa i) j k) ≤ most
  after_cfa k =
      let low = each_below (cfa_weight t) most j (omega (arith, sum_more (cfa_weight t) i j)) in
      back_keeps cfa_change (initial_cfa i) (λ (c : CfaRule). cfa_len t c ≤ most) (λ (x : Instr). cfa_weight t x ≤ most) (cfa_keeps t most) first_cfa 0 (onto [] j k) (all_onto (λ (x : Instr). cfa_weight t x ≤ most) [] j k tt low)

  first_rule : (r : ℕ) → rule_len t r (initial_rule i r) ≤ each r
  first_rule r =
      let low = each_below (own_weight t r) (each r) i (omega (arith, sum_more (own_weight t r) i j)) in
      back_keeps (rule_change r rules.Unspecified) rules.Unspecified (λ (x : RegRule). rule_len t r x ≤ each r) (λ (x : Instr). own_weight t r x ≤ each r) (rule_keeps t (each r) r rules.Unspecified (omega arith)) (omega arith) 0
      (onto [] i (length i)) (all_onto (λ (x : Instr). own_weight t r x ≤ each r) [] i (length i) tt low)

  after_rule : (r k : ℕ) → rule_len t r (rule_after (initial_rule i r) j r k) ≤ each r
  after_rule r k =
      let low = each_below (own_weight t r) (each r) j (omega (arith, sum_more (own_weight t r) i j)) in
      back_keeps (rule_change r (initial_rule i r)) (initial_rule i r) (λ (x : RegRule). rule_len t r x ≤ each r) (λ (x : Instr). own_weight t r x ≤ each r) (rule_keeps t (each r) r (initial_rule i r) (first_rule r)) (first_rule r) 0
      (onto [] j k) (all_onto (λ (x : Instr). own_weight t r x ≤ each r) [] j k tt low)

  pub holds_within : (k : ℕ) (row : Rules) → RowFits t row → HoldsAfter i j k row → IsWithin row
  holds_within k row fits h = record {
    fits = fits;
    cfa = subst (λ (c : CfaRule). cfa_len t c ≤ most) (sym h.cfa) (after_cfa k);
    rules = λ r. subst (λ (x : RegRule). rule_len t r x ≤ each r) (sym (h.rules r)) (after_rule r k);
  }

  -- ---- from one to another

  once : (rs : List ℕ) → Rise 0 rs → (x : Instr) → sum_of (λ (r : ℕ). own_weight t r x) rs ≤ rule_weight t x
  once rs up (Set q given) = once_own q (rule_len t q given) 0 rs up
  once rs up x = omega (arith, sum_none rs)

  pub step_len : (initial old new : Rules) → ((r : ℕ) → rule new r ≡ rules.Unspecified → rule_len t r (rule old r) ≤ each r) → IsWithin new → length (program_bytes t (difference initial old new)) ≤ 14 + all_len
  step_len initial old new left k =
      let up = with_all_rise (keys_of old.registers) (keys_of new.registers) (keys_rise 0 new.registers k.fits.listed) in
      omega (arith, difference_len t most each initial old new left k, sum_once (own_weight t) (rule_weight t) (either old new) (once (either old new) up) (i ++ j))

  pub later_len : (initial : Rules) (at : ℕ) (row : Rules) (changes : List (ℕ × Rules)) → IsWithin row → AllByRecursion (λ (change : ℕ × Rules). IsWithin change.1) changes
      → length (program_bytes t (later_changes initial at row changes)) ≤ length changes * (23 + all_len)
  later_len initial at row [] h k = omega arith
  later_len initial at row (change ∷ changes) h k =
      let rest = later_changes initial change.0 change.1 changes in
      omega (
        arith,
        length-append (instr_bytes t (move at change.0)) (program_bytes t (difference initial row change.1 ++ rest)),
        bytes_more t (difference initial row change.1) rest,
        move_len t at change.0,
        step_len initial row change.1 (λ r e. h.rules r) k.0,
        later_len initial change.0 change.1 changes k.0 k.1,
        suc-mul (length changes) (23 + all_len),
      )
