-- The value of each column of a row, or its fault: DWARF 5, 6.4.1.
use Rattle.std.specs.{Prelude.{◌≡◌, ◌⊎◌, ◌≤◌, ℕ, ◌+◌, ◌%◌, List, [], Option, Some, None, option_map, ℤ, pos, ◌+ℤ◌, Result, Ok, Err}, Option.ok_or}
use Rattle.dw_num.specs.Target.{address_limit, byte_count}
use Rattle.dw_op.specs.{Expression.Expression, Operands.modulo}
use Rattle.dw_eval.specs.{Context.{Context, read_at}, Evaluation.{first_stack, Evaluates, MayFailAt}}
use Rattle.dw_eval.specs.declared.{error.EvalError.EvalError, policy.Policy.Policy, policy.Policy.TheVariants.{SameValue, Undefined}}
use Rattle.dw_eval.specs.declared.error.EvalError.TheVariants as eval
use Rattle.dw_eval.specs.declared.error.Kind.TheVariants as kinds
use Rattle.dw_row.specs.declared.rule.{CfaRule.CfaRule, RegRule.RegRule}
use Rattle.dw_row.specs.declared.rule.CfaRule.TheVariants as cfa
use Rattle.dw_row.specs.declared.rule.RegRule.TheVariants as rules
use Rattle.dw_frame.specs.declared.frame.{Column.Column, Column.TheVariants.{Cfa, Register}, UnwindError.UnwindError}
use Rattle.dw_frame.specs.declared.frame.UnwindError.TheVariants.{Eval, Unreadable, Device, NoRegister, OutOfMemory}

-- an expression's answer, as that of a column
abbrev pub in_column : Column → Result ℕ EvalError → Result ℕ UnwindError
in_column column (Ok v) = Ok v
in_column column (Err (eval.Fault kind i)) = Err (Eval kind i column)
in_column column (Err eval.OutOfMemory) = Err OutOfMemory

-- what is found with a value, or its fault
abbrev pub on_value : {A : Type 0} → Result ℕ UnwindError → (ℕ → Result A UnwindError) → Result A UnwindError
on_value (Ok v) f = f v
on_value (Err e) f = Err e

-- a register's value that can be recovered, or a fault
abbrev pub recovered : Result ℕ UnwindError → Result (Option ℕ) UnwindError
recovered answer = on_value answer (λ v. Ok (Some v))

-- what a register that no instruction has set was before, by what it holds now
abbrev pub defaulted : Policy → Option ℕ → Option ℕ
defaulted SameValue v = v
defaulted Undefined v = None

-- on a machine that stopped, with a limit of steps for each expression
module _ (c : Context) (limit : ℕ) where
  -- a number plus an offset, modulo 2 ^ N
  abbrev pub plus : ℕ → ℤ → ℕ
  plus v n = modulo (address_limit c.target.size) (pos v +ℤ n)

  -- what register r holds, modulo 2 ^ N
  abbrev pub value_in : ℕ → Option ℕ
  value_in r = option_map (λ v. v % address_limit c.target.size) (c.register r)

  -- the address that memory holds at an address
  abbrev pub saved_at : Column → ℕ → Result ℕ UnwindError
  saved_at column a = ok_or (read_at c a (byte_count c.target.size)) (Unreadable column a (byte_count c.target.size))

  -- the value of an expression from this stack on, or its fault
  pub record ValueIs (column : Column) (e : Expression) (first : List ℕ) (answer : Result ℕ UnwindError) : Type 0 where
    pub evaluated : Result ℕ EvalError
    pub evaluates : Evaluates e.ops c first limit evaluated
    pub is : answer ≡ in_column column evaluated

  -- the CFA by its rule; at a covered address one is set
  abbrev pub CfaIs : CfaRule → Result ℕ UnwindError → Type 0
  CfaIs cfa.Unset answer = ⊥
  CfaIs (cfa.Register r n) answer = answer ≡ ok_or (option_map (λ v. plus v n) (c.register r)) (NoRegister Cfa r)
  CfaIs (cfa.Expression e) answer = ValueIs Cfa e [] answer

  -- the stack that holds the CFA
  abbrev pub on_cfa : ℕ → List ℕ
  on_cfa cfa = first_stack c.target.size (Some cfa)

  -- the address that memory holds where an expression says
  abbrev pub SavedBy : Column → ℕ → Expression → Result ℕ UnwindError → Type 0
  SavedBy column cfa e answer =
      (address : Result ℕ UnwindError) × ValueIs column e (on_cfa cfa) address × (answer ≡ on_value address (saved_at column))

  -- register r of the caller by its rule, None where it has no value that can be recovered
  abbrev pub RegisterIs : Policy → ℕ → ℕ → RegRule → Result (Option ℕ) UnwindError → Type 0
  RegisterIs policy cfa r rules.Unspecified answer = answer ≡ Ok (defaulted policy (value_in r))
  RegisterIs policy cfa r rules.Undefined answer = answer ≡ Ok None
  RegisterIs policy cfa r rules.SameValue answer = answer ≡ Ok (value_in r)
  RegisterIs policy cfa r (rules.Offset n) answer = answer ≡ recovered (saved_at (Register r) (plus cfa n))
  RegisterIs policy cfa r (rules.ValOffset n) answer = answer ≡ Ok (Some (plus cfa n))
  RegisterIs policy cfa r (rules.Register q) answer = answer ≡ recovered (ok_or (value_in q) (NoRegister (Register r) q))
  RegisterIs policy cfa r (rules.Expression e) answer =
      (value : Result ℕ UnwindError) × SavedBy (Register r) cfa e value × (answer ≡ recovered value)
  RegisterIs policy cfa r (rules.ValExpression e) answer =
      (value : Result ℕ UnwindError) × ValueIs (Register r) e (on_cfa cfa) value × (answer ≡ recovered value)

  -- ---- where the device may fail, and what is answered then

  -- an address is read whose bytes end at 2 ^ N or before
  abbrev pub SavedFails : Column → ℕ → UnwindError → Type 0
  SavedFails column a e = (a + byte_count c.target.size ≤ address_limit c.target.size) × (e ≡ Device column)

  -- an operation is reached that reads memory
  abbrev pub ValueFails : Column → List ℕ → Expression → UnwindError → Type 0
  ValueFails column first x e = (i : ℕ) × MayFailAt x.ops c first limit i × (e ≡ Eval kinds.Device i column)

  -- that happens, or the address that the expression gives is read
  abbrev pub SavedByFails : Column → ℕ → Expression → UnwindError → Type 0
  SavedByFails column cfa x e =
      ValueFails column (on_cfa cfa) x e ⊎ ((a : ℕ) × ValueIs column x (on_cfa cfa) (Ok a) × SavedFails column a e)

  abbrev pub CfaFails : CfaRule → UnwindError → Type 0
  CfaFails (cfa.Expression x) e = ValueFails Cfa [] x e
  CfaFails other e = ⊥

  abbrev pub RegisterFails : ℕ → ℕ → RegRule → UnwindError → Type 0
  RegisterFails cfa r (rules.Offset n) e = SavedFails (Register r) (plus cfa n) e
  RegisterFails cfa r (rules.Expression x) e = SavedByFails (Register r) cfa x e
  RegisterFails cfa r (rules.ValExpression x) e = ValueFails (Register r) (on_cfa cfa) x e
  RegisterFails cfa r other e = ⊥
