-- What is so of each error of a column.
use Rattle.dw_frame.proofs.Words.{◌≡◌, ℕ, List, [], Option, Some, None, Result, Ok, Err, refl, sym, subst, ok_or, option_map, byte_count, Expression, CfaRule, RegRule, EvalError, Context, read_at, Evaluates, Policy, Column, Cfa, Register}
use Rattle.dw_frame.proofs.Words.{UnwindError, Unreadable, NoRegister, in_column, recovered, on_value, on_cfa, saved_at, value_in, plus, ValueIs, SavedBy, CfaIs, RegisterIs}
use Rattle.dw_row.specs.declared.rule.CfaRule.TheVariants as cfa
use Rattle.dw_row.specs.declared.rule.RegRule.TheVariants as rules

-- an answer, whose error is so
abbrev pub Holds : {X : Type 0} → (UnwindError → Type 0) → Result X UnwindError → Type 0
Holds So (Ok v) = Unit {0}
Holds So (Err e) = So e

unmapped : (f : ℕ → ℕ) (o : Option ℕ) → option_map f o ≡ None → o ≡ None
unmapped f None e = refl
unmapped f (Some v) e = absurd cc

module _ (So : UnwindError → Type 0) where
  known : (e : UnwindError) (o : Option ℕ) → (o ≡ None → So e) → Holds So (ok_or o e)
  known e None none = none refl
  known e (Some v) none = tt

  recovers : (answer : Result ℕ UnwindError) → Holds So answer → Holds So (recovered answer)
  recovers (Ok v) h = tt
  recovers (Err e) h = h

  behind : (answer : Result ℕ UnwindError) (f : ℕ → Result ℕ UnwindError) → Holds So answer → ((v : ℕ) → Holds So (f v)) → Holds So (on_value answer f)
  behind (Ok v) f h w = w v
  behind (Err e) f h w = h

-- what each column may answer: the fault of an expression, a read of what is missing, and a register that is not given
module _ (So : Column → UnwindError → Type 0) (c : Context) (limit : ℕ)
    (evaluated : (column : Column) (e : Expression) (first : List ℕ) (answer : Result ℕ EvalError) → Evaluates e.ops c first limit answer → Holds (So column) (in_column column answer))
    (unread : (column : Column) (a : ℕ) → read_at c a (byte_count c.target.size) ≡ None → So column (Unreadable column a (byte_count c.target.size)))
    (ungiven : (column : Column) (r : ℕ) → c.register r ≡ None → So column (NoRegister column r)) where
  saved : (column : Column) (a : ℕ) → Holds (So column) (saved_at c limit column a)
  saved column a = known (So column) (Unreadable column a (byte_count c.target.size)) (read_at c a (byte_count c.target.size)) (unread column a)

  value : (column : Column) (e : Expression) (first : List ℕ) (answer : Result ℕ UnwindError) → ValueIs c limit column e first answer → Holds (So column) answer
  value column e first answer v = subst (Holds (So column)) (sym v.is) (evaluated column e first v.evaluated v.evaluates)

  pub cfa_holds : (r : CfaRule) (answer : Result ℕ UnwindError) → CfaIs c limit r answer → Holds (So Cfa) answer
  cfa_holds cfa.Unset answer h = absurd h
  cfa_holds (cfa.Register r n) answer h = subst (Holds (So Cfa)) (sym h) (known (So Cfa) (NoRegister Cfa r) (option_map (λ v. plus c limit v n) (c.register r)) (λ none. ungiven Cfa r (unmapped _ (c.register r) none)))
  cfa_holds (cfa.Expression e) answer h = value Cfa e [] answer h

  saved_by : (column : Column) (cfa : ℕ) (e : Expression) (answer : Result ℕ UnwindError) → SavedBy c limit column cfa e answer → Holds (So column) answer
  saved_by column cfa e answer h = subst (Holds (So column)) (sym h.2) (behind (So column) h.0 (saved_at c limit column) (value column e (on_cfa c limit cfa) h.0 h.1) (saved column))

  pub register_holds : (policy : Policy) (cfa r : ℕ) (x : RegRule) (answer : Result (Option ℕ) UnwindError) → RegisterIs c limit policy cfa r x answer → Holds (So (Register r)) answer
  register_holds policy cfa r (rules.Offset n) answer h =
      subst (Holds (So (Register r))) (sym h) (recovers (So (Register r)) (saved_at c limit (Register r) (plus c limit cfa n)) (saved (Register r) (plus c limit cfa n)))
  register_holds policy cfa r (rules.Register q) answer h =
      let told = known (So (Register r)) (NoRegister (Register r) q) (value_in c limit q) (λ none. ungiven (Register r) q (unmapped _ (c.register q) none)) in
      subst (Holds (So (Register r))) (sym h) (recovers (So (Register r)) (ok_or (value_in c limit q) (NoRegister (Register r) q)) told)
  register_holds policy cfa r (rules.Expression e) answer h = subst (Holds (So (Register r))) (sym h.2) (recovers (So (Register r)) h.0 (saved_by (Register r) cfa e h.0 h.1))
  register_holds policy cfa r (rules.ValExpression e) answer h = subst (Holds (So (Register r))) (sym h.2) (recovers (So (Register r)) h.0 (value (Register r) e (on_cfa c limit cfa) h.0 h.1))
  register_holds policy cfa r x answer h = subst (Holds (So (Register r))) (sym h) tt
