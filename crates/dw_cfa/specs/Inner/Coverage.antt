-- How the code finds that rows leave an address without a rule for the CFA.
use Rattle.std.specs.Prelude.{◌≡◌, None, ℕ, ◌&&◌, ◌||◌, Bool, true, false, List, [], ◌∷◌, nat_lt}
use Rattle.dw_row.specs.declared.rule.CfaRule.{CfaRule, TheVariants.Unset}
use Rattle.dw_num.specs.Input.{Input}
use Rattle.dw_cfa.specs.{Inner.Runs.rows_left, declared.{execution.LocatedRow.LocatedRow, instr.Factors.Factors, machine.Machine.Machine}}

abbrev pub is_unset : CfaRule → Bool
is_unset Unset = true
is_unset other = false

-- a row from `low` up to a location covers an address before the end, and has no rule for the CFA
abbrev pub leaves_one : ℕ → ℕ → Bool → ℕ → Bool
leaves_one end low unset location = unset && (nat_lt low location && nat_lt low end)

-- one of the rows does, or the one before them, which starts at `low`
abbrev pub lacks_from : ℕ → ℕ → Bool → List LocatedRow → Bool
lacks_from end low unset [] = unset && nat_lt low end
lacks_from end low unset (row ∷ rows) = leaves_one end low unset row.location || lacks_from end row.location (is_unset row.row.cfa) rows

-- what is left to a machine has no fault, and this says whether its rows leave an address below the end without a rule
abbrev pub LeavesLacking : Factors → Input → Machine → ℕ → Bool → Type 0
LeavesLacking f i m end lacks = ((rows_left f i m).fault ≡ None) × ((low : ℕ) → lacks ≡ lacks_from end low false (rows_left f i m).rows)
