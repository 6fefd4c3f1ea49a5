-- What is so of the rules of an accepted section, so that instructions can give them, and of these instructions.
use Rattle.std.specs.Prelude.{◌≡◌, ℕ, ◌<◌, ◌≤◌, ◌^◌, List, [], ◌∷◌, IsTrue}
use Rattle.dw_num.specs.{Target.address_limit, declared.target.Target.Target}
use Rattle.dw_row.specs.Rows.{Rules, rule, is_specified}
use Rattle.dw_row.specs.declared.rule.CfaRule.TheVariants as cfa
use Rattle.dw_row.specs.declared.rule.RegRule.TheVariants as rules
use Rattle.dw_cfa.specs.InstrSpells.{IsOffset}
use Rattle.dw_cfa.specs.declared.instr.Instr.{Instr, TheVariants.{SetLoc, Advance, DefCfa, DefCfaRegister, DefCfaOffset, DefCfaExpression, Set, Restore}}
use Rattle.dw_section.specs.Fits.{HasBlock, RowFits, RuleFits}
use Rattle.dw_canon.specs.Members.{Member}

-- a register that a row leaves Unspecified is Unspecified in the initial row, to which alone restore can bring it back
abbrev pub RestsOn : Rules → Rules → Type 0
RestsOn initial row = (r : ℕ) → rule row r ≡ rules.Unspecified → rule initial r ≡ rules.Unspecified

-- a row of an FDE behind an initial row
pub record RowStands (t : Target) (initial row : Rules) : Type 0 where
  pub fits : RowFits t row
  pub rests : RestsOn initial row
  pub set : row.cfa ≡ cfa.Unset → ⊥

-- behind a row at an address, other rows at addresses that ascend up to an end, each not the one before it
abbrev pub ChangesStand : Target → Rules → ℕ → ℕ → Rules → List (ℕ × Rules) → Type 0
ChangesStand t initial end at row [] = at < end
ChangesStand t initial end at row (change ∷ changes) =
    (at < change.0) × (row ≡ change.1 → ⊥) × RowStands t initial change.1 × ChangesStand t initial end change.0 change.1 changes

-- an FDE behind an initial row
pub record MemberStands (t : Target) (initial : Rules) (m : Member) : Type 0 where
  pub in_space : m.end ≤ address_limit t.size
  pub first : RowStands t initial m.first
  pub later : ChangesStand t initial m.end m.begin m.first m.later

-- an instruction that the normal form can spell
abbrev pub InstrFits : Target → Instr → Type 0
InstrFits t (SetLoc a) = a < address_limit t.size
InstrFits t (Advance delta) = delta < 2 ^ 32
InstrFits t (DefCfa r n) = (r < 65536) × IsOffset n
InstrFits t (DefCfaRegister r) = r < 65536
InstrFits t (DefCfaOffset n) = IsOffset n
InstrFits t (DefCfaExpression e) = HasBlock t e
InstrFits t (Set r rule) = (r < 65536) × RuleFits t rule × IsTrue (is_specified rule)
InstrFits t (Restore r) = r < 65536
InstrFits t other = Unit {0}
