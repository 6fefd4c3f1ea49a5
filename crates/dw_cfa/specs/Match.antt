-- What a restore_state restores: DWARF 5, 6.4.2.4. Lists of instructions are given with the last of them first.
use Rattle.std.specs.Prelude.{◌≡◌, ◌≢◌, ℕ, ◌+◌, List, ◌∷◌, ◌++◌, slice_get, Some}
use Rattle.dw_row.specs.declared.rule.{CfaRule.CfaRule, RegRule.RegRule}
use Rattle.dw_cfa.specs.{Column.{look_back, cfa_change, rule_change}, Kept.{remembered, restored, FdeKept}, Location.back_from}
use Rattle.dw_cfa.specs.declared.instr.Instr.{Instr, TheVariants.{RememberState, RestoreState}}

-- `between` stands, the last first, between a restore_state, with `inner` more to be passed, and its remember_state
pub record IsBetween (inner : ℕ) (between : List Instr) : Type 0 where
  pub equal : restored between + inner ≡ remembered between
  pub nearest : (near far : List Instr) → between ≡ near ++ (RememberState ∷ far) → restored near + inner ≢ remembered near

-- of these instructions a remember_state is the one that a restore_state behind them goes back to
pub record HasMatch (earlier : List Instr) : Type 0 where
  pub between : List Instr
  pub before : List Instr
  pub whole : earlier ≡ between ++ (RememberState ∷ before)
  pub is : IsBetween 0 between

-- each restore_state of a program that keeps its rules has a remember_state
abbrev pub MatchExists : Type 0
MatchExists = (limit begin : ℕ) (initial : CfaRule) (instrs : List Instr) (k : ℕ) → FdeKept limit begin initial instrs → slice_get instrs k ≡ Some RestoreState → HasMatch (back_from instrs k)

-- in every column a restore_state, behind its remember_state and what stands between, leaves what was there before that
abbrev pub RestoresMatched : Type 0
RestoresMatched = (between before : List Instr) → IsBetween 0 between
    → ((initial : CfaRule) → look_back cfa_change initial 0 (RestoreState ∷ (between ++ (RememberState ∷ before))) ≡ look_back cfa_change initial 0 before)
    × ((initial : RegRule) (r : ℕ) → look_back (rule_change r initial) initial 0 (RestoreState ∷ (between ++ (RememberState ∷ before))) ≡ look_back (rule_change r initial) initial 0 before)
