-- How the registers are listed to which two rows give different rules.
use Rattle.std.specs.{Prelude.{◌≡◌, ℕ, Option, Some, None, IsTrue}, BTreeMap.BTreeMap}
use Rattle.dw_row.specs.{RegisterSets.SameBeside, Rows.Rules}
use Rattle.dw_section.specs.declared.change.Behind.{Behind}
use Rattle.dw_normal.specs.{declared.apart.Apart.Apart, declared.known.CieSet.CieSet, declared.known.Known.Known, Inner.Known.{HoldsAt, Notes}}

-- where they are listed, all others have the same rules in both rows
abbrev pub StandsApart : Apart → Rules → Rules → Type 0
StandsApart a shared first = IsTrue a.listed → SameBeside a.registers shared first

-- what is known of a CIE and of an FDE holds beside some row
abbrev pub KnownBeside : ℕ → ℕ → Known → Rules → Rules → Type 0
KnownBeside place register known shared first = (row : Rules) × HoldsAt (λ set. SameBeside set shared row) place register known.cies × SameBeside known.changed row first

-- what is known behind an FDE: what was, or of its CIE a set outside which its row and the group's are the same
abbrev pub NotesSameAt : ℕ → ℕ → Known → Rules → Rules → BTreeMap ℕ CieSet → Type 0
NotesSameAt place register old shared first new = Notes (λ set. (row : Rules) → SameBeside old.changed row first → SameBeside set shared row) place register old.cies new

abbrev pub NotesSame : Option Behind → ℕ → Known → Rules → Rules → BTreeMap ℕ CieSet → Type 0
NotesSame None register old shared first new = new ≡ old.cies
NotesSame (Some b) register old shared first new = NotesSameAt b.cie_at register old shared first new
