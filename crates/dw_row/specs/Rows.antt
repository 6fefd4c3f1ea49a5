-- Rows of rules: DWARF 5, 6.4.1. A row says how to find the canonical frame address and each register.
use Rattle.std.specs.Prelude.{ℕ, suc, ◌<◌, ◌≤◌, List, [], ◌∷◌, Bool, true, false, IsTrue, nat_eq, nat_lt, if◌then◌else◌}
use Rattle.dw_row.specs.declared.rule.{CfaRule.{CfaRule, TheVariants.Unset}, RegRule.{RegRule, TheVariants.{Offset, Unspecified}}}

-- the CFA's rule, and the registers that are not Unspecified with their rules
pub record Rules : Type 0 where
  pub cfa : CfaRule
  pub registers : List (ℕ × RegRule)

-- whether an instruction has set it
abbrev pub is_specified : RegRule → Bool
is_specified Unspecified = false
is_specified rule = true

-- registers from `low` on, ascending, none of them Unspecified
abbrev pub AreSpecified : ℕ → List (ℕ × RegRule) → Type 0
AreSpecified low [] = Unit {0}
AreSpecified low (entry ∷ rest) = (low ≤ entry.0) × IsTrue (is_specified entry.1) × AreSpecified (suc entry.0) rest

-- the rule of a register in such a list, and Unspecified where the list has none
abbrev pub rule_in : List (ℕ × RegRule) → ℕ → RegRule
rule_in [] r = Unspecified
rule_in (entry ∷ rest) r = if nat_eq entry.0 r then entry.1 else rule_in rest r

-- the rule of a register
abbrev pub rule : Rules → ℕ → RegRule
rule row r = rule_in row.registers r

-- it is saved at an offset
abbrev pub IsOffset : RegRule → Type 0
IsOffset (Offset n) = Unit {0}
IsOffset rule = ⊥

-- the first register is below 128, and saved at an offset
abbrev pub BeginsWithOffset : List (ℕ × RegRule) → Type 0
BeginsWithOffset [] = ⊥
BeginsWithOffset (entry ∷ rest) = (entry.0 < 128) × IsOffset entry.1

-- nothing is set
abbrev pub blank : Rules
blank = record { cfa = Unset; registers = [] }

-- a list behind an entry for the register, which is left out where the rule is Unspecified
abbrev pub listed : ℕ → RegRule → List (ℕ × RegRule) → List (ℕ × RegRule)
listed r Unspecified rest = rest
listed r rule rest = (r, rule) ∷ rest

-- an ascending list in which the register has this rule
abbrev pub put : ℕ → RegRule → List (ℕ × RegRule) → List (ℕ × RegRule)
put r rule [] = listed r rule []
put r rule (entry ∷ rest) =
    if nat_lt entry.0 r then entry ∷ put r rule rest else listed r rule (if nat_eq entry.0 r then rest else entry ∷ rest)

-- the row with another rule for the CFA, or for a register
abbrev pub with_cfa : CfaRule → Rules → Rules
with_cfa cfa row = record { cfa = cfa; registers = row.registers }

abbrev pub with_rule : ℕ → RegRule → Rules → Rules
with_rule r rule row = record { cfa = row.cfa; registers = put r rule row.registers }
