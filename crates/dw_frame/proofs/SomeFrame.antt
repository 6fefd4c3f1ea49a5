-- A row that fits gives each machine that stopped a frame or a fault. What holds below is taken by the public laws.
use Rattle.dw_op.specs.Laws.{BlockInRange}
use Rattle.dw_row.specs.declared.rule.CfaRule.TheVariants as cfa
use Rattle.dw_row.specs.declared.rule.RegRule.TheVariants as rules
use Rattle.dw_frame.proofs.Words.{◌≡◌, ◌⊎◌, ℕ, zero, suc, ◌+◌, ◌<◌, ◌≤◌, true, false, List, [], ◌∷◌, ◌++◌, length, Option, Some, None, Result, Ok, Err, refl, ap, arith, inl, inr, ok_or, option_map, option_and_then, AllByRecursion}
use Rattle.dw_frame.proofs.Words.{cases_Bool, ne_eqb, slice_get_past, Target, Expression, CfaRule, RegRule, Rules, rule, rule_in, Context, OneResult, held, Policy, CfaFits, HasBlock, RowFits, RuleFits}
use Rattle.dw_frame.proofs.Words.{rule_fits, Column, Cfa, Register, Frame, UnwindError, NoRegister, in_column, recovered, on_value, saved_at, on_cfa, plus, defaulted}
use Rattle.dw_frame.proofs.{Words.{value_in, ValueIs, SavedBy, CfaIs, RegisterIs, is_listed, Recovers, RegistersAre, FrameIs, SomeOfRow, stopped, SoFar}, FrameLaws.{so_added, so_all, so_passed, so_reached}}

-- ---- columns

module _ (one : OneResult) (in_range : BlockInRange) (c : Context) (limit : ℕ) where
  some_value : (column : Column) (e : Expression) (first : List ℕ) → HasBlock c.target e → (answer : Result ℕ UnwindError) × ValueIs c limit column e first answer
  some_value column e first fits =
      let block = fits.1 in let spelled = block.1 in
      let result = one e.ops c first limit (in_range c.target e.ops block.0 spelled.0) in
      (in_column column result.value, record { evaluated = result.value; evaluates = result.holds; is = refl })

  some_cfa : (given : CfaRule) → CfaFits c.target given → (given ≡ cfa.Unset → ⊥) → (answer : Result ℕ UnwindError) × CfaIs c limit given answer
  some_cfa cfa.Unset fits set = absurd (set refl)
  some_cfa (cfa.Register r n) fits set = (ok_or (option_map (λ v. plus c limit v n) (c.register r)) (NoRegister Cfa r), refl)
  some_cfa (cfa.Expression e) fits set = some_value Cfa e [] fits

  some_saved : (column : Column) (cfa : ℕ) (e : Expression) → HasBlock c.target e → (answer : Result ℕ UnwindError) × SavedBy c limit column cfa e answer
  some_saved column cfa e fits = let address = some_value column e (on_cfa c limit cfa) fits in (on_value address.0 (saved_at c limit column), (address.0, address.1, refl))

  some_register : (policy : Policy) (cfa r : ℕ) (given : RegRule) → RuleFits c.target given → (answer : Result (Option ℕ) UnwindError) × RegisterIs c limit policy cfa r given answer
  some_register policy cfa r rules.Unspecified fits = (Ok (defaulted policy (value_in c limit r)), refl)
  some_register policy cfa r rules.Undefined fits = (Ok None, refl)
  some_register policy cfa r rules.SameValue fits = (Ok (value_in c limit r), refl)
  some_register policy cfa r (rules.Offset n) fits = (recovered (saved_at c limit (Register r) (plus c limit cfa n)), refl)
  some_register policy cfa r (rules.ValOffset n) fits = (Ok (Some (plus c limit cfa n)), refl)
  some_register policy cfa r (rules.Register q) fits = (recovered (ok_or (value_in c limit q) (NoRegister (Register r) q)), refl)
  some_register policy cfa r (rules.Expression e) fits = let value = some_saved (Register r) cfa e fits in (recovered value.0, (value.0, value.1, refl))
  some_register policy cfa r (rules.ValExpression e) fits = let value = some_value (Register r) e (on_cfa c limit cfa) fits in (recovered value.0, (value.0, value.1, refl))

  -- ---- registers

  module _ (policy : Policy) (row : Rules) (fits : RowFits c.target row) (return_register : ℕ) where
    module _ (cfa : ℕ) where
      abbrev So : ℕ → List (ℕ × Option ℕ) → Type 0
      So n entries = SoFar c limit policy row return_register cfa n entries

      -- the listed registers below a number, or the first fault among them
      abbrev SoOrFault : ℕ → Type 0
      SoOrFault n = ((entries : List (ℕ × Option ℕ)) × So n entries) ⊎ ((e : UnwindError) × RegistersAre c limit policy row return_register cfa (Err e))

      added : (n : ℕ) (entries : List (ℕ × Option ℕ)) → So n entries → is_listed c.register row return_register n ≡ true → (answer : Result (Option ℕ) UnwindError) → Recovers c limit policy row return_register cfa n answer → SoOrFault (suc n)
      added n entries so listed (Ok v) is = inl (entries ++ (n, v) ∷ [], so_added c limit policy row return_register cfa n entries v so listed is)
      added n entries so listed (Err e) is = inr (e, (n, so_reached c limit policy row return_register cfa n entries so listed, is))

      so_or_fault : (n : ℕ) → SoOrFault n
      so_or_fault zero = inl ([], record { rise = tt; below = tt; each = tt; all = λ r lt. absurd (omega (arith, lt)) })
      so_or_fault (suc n) = elim (so_or_fault n) [
        | inr fault ↦ inr fault
        | inl so ↦ elim (cases_Bool (is_listed c.register row return_register n)) [
          | inl listed ↦ let answer = some_register policy cfa n (rule row n) (rule_fits c.target row fits n) in added n so.0 so.1 listed answer.0 answer.1
          | inr not ↦ inl (so.0, so_passed c limit policy row return_register cfa n so.0 so.1 not)
        ]
      ]

    module _ (end : ℕ) (beyond : (r : ℕ) → end ≤ r → is_listed c.register row return_register r ≡ false) where
      framed : (answer : Result ℕ UnwindError) → CfaIs c limit row.cfa answer → (frame : Result Frame UnwindError) × FrameIs c limit policy row return_register frame
      framed (Err e) is = (Err e, inl is)
      framed (Ok cfa) is = elim (so_or_fault cfa end) [
        | inl so ↦ (Ok (record { cfa = cfa; return_register = return_register; registers = so.0 }), (is, refl, so_all c limit policy row return_register cfa end so.0 so.1 beyond))
        | inr fault ↦ (Err fault.0, inr (cfa, is, fault.1))
      ]

      some_frame_of : (row.cfa ≡ cfa.Unset → ⊥) → (frame : Result Frame UnwindError) × FrameIs c limit policy row return_register frame
      some_frame_of set = let answer = some_cfa row.cfa fits.cfa set in framed answer.0 answer.1

-- ---- where no register is listed

none_held : (registers : List (Option ℕ)) (r : ℕ) → length registers ≤ r → held registers r ≡ None
none_held registers r le = ap (λ (o : Option (Option ℕ)). option_and_then (λ value. value) o) (slice_get_past registers r le)

none_specified : (t : Target) (xs : List (ℕ × RegRule)) (r : ℕ) → AllByRecursion (λ (entry : ℕ × RegRule). (entry.0 < 65536) × RuleFits t entry.1) xs → 65536 ≤ r → rule_in xs r ≡ rules.Unspecified
none_specified t [] r h le = refl
none_specified t (x ∷ xs) r h le = rw (ne_eqb x.0 r (λ same. omega (arith, same, h.0.0, le))) (none_specified t xs r h.1 le)

none_listed : (registers : List (Option ℕ)) (t : Target) (row : Rules) (return_register : ℕ) → RowFits t row → (r : ℕ) → length registers + (65536 + suc return_register) ≤ r → is_listed (held registers) row return_register r ≡ false
none_listed registers t row return_register fits r le = grind (arith, none_held, none_specified)

-- ---- all registers

pub some_of_row : OneResult → BlockInRange → SomeOfRow
some_of_row one in_range target registers byte limit policy row return_register fits set =
    let end = length registers + (65536 + suc return_register) in
    some_frame_of one in_range (stopped target registers byte) limit policy row fits return_register end (none_listed registers target row return_register fits) set
