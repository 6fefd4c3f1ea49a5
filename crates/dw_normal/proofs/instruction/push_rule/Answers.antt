use Rattle.dw_normal.proofs.Words.{◌≡◌, ◌++◌, ◌∙◌, ℕ, List, append-nil, sym, Target, RegRule}
use Rattle.dw_canon.specs.Inner.Spelling.{rule_bytes}
use Rattle.dw_row.specs.declared.rule.RegRule.TheVariants.{Unspecified}
use Rattle.dw_normal.proofs.instruction.push_rule.Goals as goal

-- a rule that no instruction gives
nothing : (t : Target) (register : ℕ) (r : RegRule) (out : List ℕ) → r ≡ Unspecified → out ≡ out ++ rule_bytes t register r
nothing t register r out none = rw none (sym (append-nil out))

pub returns-in-Unspecified : goal.returns-in-Unspecified
returns-in-Unspecified c = nothing c.args.target c.args.register _ c.args.out.now.items (sym c.rule.ensures ∙ c.in-Unspecified.is)
