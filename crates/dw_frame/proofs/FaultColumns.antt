-- A fault of an unwinding names a column of the frame.
use Rattle.dw_eval.specs.declared.error.EvalError.TheVariants as eval
use Rattle.dw_row.specs.declared.rule.CfaRule.TheVariants as cfa
use Rattle.dw_row.specs.declared.rule.RegRule.TheVariants as rules
use Rattle.dw_frame.proofs.Words.{◌≡◌, ℕ, List, Some, Result, Ok, Err, refl, sym, ◌∙◌, ap, subst, inl, inr, Expression, CfaRule, RegRule, Rules, rule, EvalError, Context, Column, Cfa, Register, Policy, UnwindError}
use Rattle.dw_frame.proofs.{Words.{Device, in_column, CfaIs, RegisterIs, ValueFails, SavedByFails, CfaFails, RegisterFails, column_of, IsInFrame, FaultsInRow, FrameIs, FrameFails}, ColumnErrors.{Holds, cfa_holds, register_holds}}

-- no other column is named than this
abbrev Names : Column → UnwindError → Type 0
Names column e = (other : Column) → column_of e ≡ Some other → other ≡ column

in_column_names : (column : Column) (answer : Result ℕ EvalError) → Holds (Names column) (in_column column answer)
in_column_names column (Ok v) = tt
in_column_names column (Err (eval.Fault kind i)) = λ other named. cc
in_column_names column (Err eval.OutOfMemory) = λ other named. absurd (cc)

module _ (c : Context) (limit : ℕ) where
  cfa_names : (r : CfaRule) (e : UnwindError) → CfaIs c limit r (Err e) → Names Cfa e
  cfa_names r e h = cfa_holds Names c limit (λ column x first answer is. in_column_names column answer) (λ column a none other named. cc) (λ column q none other named. cc) r (Err e) h

  register_names : (policy : Policy) (cfa r : ℕ) (x : RegRule) (e : UnwindError) → RegisterIs c limit policy cfa r x (Err e) → Names (Register r) e
  register_names policy cfa r x e h = register_holds Names c limit (λ column y first answer is. in_column_names column answer) (λ column a none other named. cc) (λ column q none other named. cc) policy cfa r x (Err e) h

  -- ---- the device

  told : (column : Column) (e f : UnwindError) → column_of f ≡ Some column → e ≡ f → Names column e
  told column e f is same = λ other named. cc (sym is ∙ (ap column_of (sym same) ∙ named))

  value_failing : (column : Column) (first : List ℕ) (x : Expression) (e : UnwindError) → ValueFails c limit column first x e → Names column e
  value_failing column first x e h = told column e _ refl h.2

  saved_by_failing : (column : Column) (cfa : ℕ) (x : Expression) (e : UnwindError) → SavedByFails c limit column cfa x e → Names column e
  saved_by_failing column cfa x e (inl h) = value_failing column _ x e h
  saved_by_failing column cfa x e (inr h) = told column e (Device column) refl h.2.1

  cfa_failing : (r : CfaRule) (e : UnwindError) → CfaFails c limit r e → Names Cfa e
  cfa_failing (cfa.Expression x) e h = value_failing Cfa _ x e h
  cfa_failing r e h = absurd h

  register_failing : (cfa r : ℕ) (x : RegRule) (e : UnwindError) → RegisterFails c limit cfa r x e → Names (Register r) e
  register_failing cfa r (rules.Offset n) e h = told (Register r) e (Device (Register r)) refl h.1
  register_failing cfa r (rules.Expression x) e h = saved_by_failing (Register r) cfa x e h
  register_failing cfa r (rules.ValExpression x) e h = value_failing (Register r) _ x e h
  register_failing cfa r x e h = absurd h

  module _ (policy : Policy) (row : Rules) (return_register : ℕ) (e : UnwindError) (column : Column) (named : column_of e ≡ Some column) where
    abbrev Within : Column → Type 0
    Within at = IsInFrame c.register row return_register at

    frame_fault : FrameIs c limit policy row return_register (Err e) → Within column
    frame_fault (inl h) = subst Within (sym (cfa_names row.cfa e h column named)) tt
    frame_fault (inr h) =
        let r = h.2.0 in
        subst Within (sym (register_names policy h.0 r (rule row r) e h.2.2 column named)) h.2.1.listed

    frame_failing : FrameFails c limit policy row return_register e → Within column
    frame_failing (inl h) = subst Within (sym (cfa_failing row.cfa e h column named)) tt
    frame_failing (inr h) =
        let r = h.2.0 in
        subst Within (sym (register_failing h.0 r (rule row r) e h.2.2 column named)) h.2.1.listed

pub faults_in_row : FaultsInRow
faults_in_row c limit policy row return_register e column (inl h) named = frame_fault c limit policy row return_register e column named h
faults_in_row c limit policy row return_register e column (inr h) named = frame_failing c limit policy row return_register e column named h
