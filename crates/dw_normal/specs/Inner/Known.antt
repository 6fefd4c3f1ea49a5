-- What is known of CIEs by their places.
use Rattle.std.specs.{Prelude.{◌≡◌, ◌⊎◌, ℕ, List, Option, Some, None, IfSome}, BTreeMap.{BTreeMap, get}, Ordering.nat_cmp}
use Rattle.dw_row.specs.{RegisterSets.{Registers, AgreesBeside, SameBeside}, Rows.Rules}
use Rattle.dw_section.specs.{Opening.CieLeaves, Table.Section, declared.change.Behind.Behind}
use Rattle.dw_normal.specs.{declared.known.CieSet.CieSet, declared.known.Known.Known, Inner.Groups.row_of}

-- some of them are forgotten
abbrev pub AreLess : BTreeMap ℕ CieSet → BTreeMap ℕ CieSet → Type 0
AreLess old new = (at : ℕ) → (get nat_cmp new at ≡ None) ⊎ (get nat_cmp new at ≡ get nat_cmp old at)

-- this one is there now, or none is
abbrev pub Puts : ℕ → CieSet → BTreeMap ℕ CieSet → BTreeMap ℕ CieSet → Type 0
Puts place cie old new = (at : ℕ) → (get nat_cmp new at ≡ get nat_cmp old at) ⊎ ((at ≡ place) × (get nat_cmp new at ≡ Some cie))

-- what holds of the set of a CIE, if one is known for the return address register
abbrev pub HoldsAt : (Registers → Type 0) → ℕ → ℕ → BTreeMap ℕ CieSet → Type 0
HoldsAt holds place register cies = (set : Registers) → get nat_cmp cies place ≡ Some (record { register = register; set = set }) → holds set

-- what is known of a CIE holds of each row that it leaves: outside the set the group's row agrees with it
abbrev pub KnownAgrees : Section → ℕ → ℕ → Known → Rules → Type 0
KnownAgrees s place register known shared = (row : Rules) → CieLeaves s.target s.bytes place row → HoldsAt (λ set. AgreesBeside set shared row) place register known.cies

-- behind an FDE of a CIE: what was known, or nothing, or of the CIE a set of which this holds
abbrev pub Notes : (Registers → Type 0) → ℕ → ℕ → BTreeMap ℕ CieSet → BTreeMap ℕ CieSet → Type 0
Notes holds place register old new =
    (at : ℕ) → (get nat_cmp new at ≡ None) ⊎ (get nat_cmp new at ≡ get nat_cmp old at)
    ⊎ ((at ≡ place) × ((set : Registers) × (get nat_cmp new at ≡ Some (record { register = register; set = set })) × holds set))

-- behind an FDE whose row at its begin is first: what was known, or of its CIE a set outside which the group's row agrees with the CIE's
abbrev pub NotesAgreeAt : ℕ → ℕ → Known → Rules → Rules → BTreeMap ℕ CieSet → Type 0
NotesAgreeAt place register old first shared new = Notes (λ set. (row : Rules) → SameBeside old.changed row first → AgreesBeside set shared row) place register old.cies new

abbrev pub NotesAgree : Option Behind → ℕ → Known → Rules → Rules → BTreeMap ℕ CieSet → Type 0
NotesAgree None register old first shared new = new ≡ old.cies
NotesAgree (Some b) register old first shared new = NotesAgreeAt b.cie_at register old first shared new

-- ---- where these are the rows of the groups

-- the group has a row, and outside the set it gives no rule that the row of the CIE does not give
pub record AgreesAt (s : Section) (rows : List (ℕ × Rules)) (place : ℕ) (cie : CieSet) : Type 0 where
  pub shared : Rules
  pub stands : row_of rows cie.register ≡ Some shared
  pub agrees : (row : Rules) → CieLeaves s.target s.bytes place row → AgreesBeside cie.set shared row

-- this is so of all
abbrev pub Agree : Section → List (ℕ × Rules) → BTreeMap ℕ CieSet → Type 0
Agree s rows cies = (place : ℕ) → IfSome (get nat_cmp cies place) (AgreesAt s rows place)

-- outside its set both rows are the same
abbrev pub AreSame : Section → List (ℕ × Rules) → BTreeMap ℕ CieSet → Type 0
AreSame s rows cies =
    (place : ℕ) → IfSome (get nat_cmp cies place) (λ cie. (row : Rules) → CieLeaves s.target s.bytes place row → IfSome (row_of rows cie.register) (λ shared. SameBeside cie.set shared row))
