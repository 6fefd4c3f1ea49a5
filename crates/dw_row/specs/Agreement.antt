-- What two rows have in common.
use Rattle.std.specs.{Prelude.{◌≡◌, ℕ, Bool, List, nat_eq, not}, List.filter}
use Rattle.dw_row.specs.Rows.{Rules, AreSpecified, rule, rule_in, is_specified}
use Rattle.dw_row.specs.declared.rule.{CfaRule.TheVariants.Unset, RegRule.{RegRule, TheVariants.Unspecified}}

-- a rule stays where another one is the same, and is none else
abbrev pub InCommon : {X : Type 0} → X → X → X → X → Type 0
InCommon none old other new = (old ≡ other → new ≡ old) × ((old ≡ other → ⊥) → new ≡ none)

-- of a row the rules that another row has too
pub record IsAgreed (old other new : Rules) : Type 0 where
  pub cfa : InCommon Unset old.cfa other.cfa new.cfa
  pub rules : (r : ℕ) → InCommon Unspecified (rule old r) (rule other r) (rule new r)
  pub listed : AreSpecified 0 new.registers

-- whether other registers give an entry's register a rule
abbrev pub is_kept : List (ℕ × RegRule) → ℕ × RegRule → Bool
is_kept others entry = is_specified (rule_in others entry.0)

-- a row without the registers that another row leaves Unspecified
abbrev pub kept : Rules → Rules → Rules
kept shared row = record { cfa = shared.cfa; registers = filter (is_kept row.registers) shared.registers }

-- a row without one register
abbrev pub without : ℕ → Rules → Rules
without r row = record { cfa = row.cfa; registers = filter (λ (entry : ℕ × RegRule). not (nat_eq entry.0 r)) row.registers }
