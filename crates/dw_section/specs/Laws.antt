-- Laws of sections, for the layers above.
use Rattle.std.specs.{Prelude.{◌≡◌, ◌↔◌, ◌⊎◌, ℕ, ◌<◌, ◌≤◌, List, ◌∷◌, ◌++◌, length, map}, List.{AllByRecursion, AllZip}}
use Rattle.dw_num.specs.{Input.AreBytes, declared.refusal.Refusal.Refusal, declared.target.Target.Target}
use Rattle.dw_op.specs.Faults.{IsWithin}
use Rattle.dw_row.specs.{Rows.Rules, declared.rule.CfaRule.TheVariants.Unset}
use Rattle.dw_cfa.specs.{Location.row_starts, declared.instr.Instr.Instr}
use Rattle.dw_section.specs.{Accepted.{Accepted, CheckFault}, Among.IsAmong, Changes.AreChanges, Faults.CutFault, Fits.RowFits}
use Rattle.dw_section.specs.{Headers.{Head, Headers, HeadersFault}, Meaning.{FdeSays, AreFdes, Covers, RulesAt, ChangesOf, RowStarts, total}}
use Rattle.dw_section.specs.{Meanings.SameMeaning, Opening.CieLeaves, Pieces.Entries, declared.entry.Entry.Entry, declared.lookup.Fde.Fde}

-- a section has entries, headers and a table, or a first fault in the way of each
abbrev pub SomeEntries : Type 0
SomeEntries = (target : Target) (s : List ℕ) → AreBytes s → ((es : List Entry) × Entries target s es) ⊎ ((r : Refusal) × CutFault target s r)

abbrev pub SomeHeaders : Type 0
SomeHeaders = (target : Target) (s : List ℕ) → AreBytes s → ((hs : List Head) × Headers target s hs) ⊎ ((r : Refusal) × HeadersFault target s r)

abbrev pub SomeCheck : Type 0
SomeCheck = (target : Target) (s : List ℕ) → AreBytes s → Accepted target s ⊎ ((r : Refusal) × CheckFault target s r)

-- the first fault of a section lies in it or at its end
abbrev pub SectionFaultsWithin : Type 0
SectionFaultsWithin = (target : Target) (s : List ℕ) (r : Refusal) → AreBytes s → CheckFault target s r → IsWithin s r

abbrev pub OneHeaders : Type 0
OneHeaders = (target : Target) (s : List ℕ) (hs ks : List Head) → Headers target s hs → Headers target s ks → hs ≡ ks

abbrev pub OneFdes : Type 0
OneFdes = (target : Target) (s : List ℕ) (fs gs : List Fde) → AreFdes target s fs → AreFdes target s gs → fs ≡ gs

abbrev pub FdesExist : Type 0
FdesExist = (target : Target) (s : List ℕ) → AreBytes s → Accepted target s → (fs : List Fde) × AreFdes target s fs

-- each FDE of an accepted section has changes
abbrev pub ChangesExist : Type 0
ChangesExist = (target : Target) (s : List ℕ) → AreBytes s → Accepted target s → (fs : List Fde) (f : Fde) → AreFdes target s fs → IsAmong f fs
    → (changes : List (ℕ × Rules)) × ChangesOf target s f changes

-- and one list of them
abbrev pub OneChanges : Type 0
OneChanges = (target : Target) (s : List ℕ) → AreBytes s → Accepted target s → (f : Fde) (xs ys : List (ℕ × Rules)) → f.begin < f.end → ChangesOf target s f xs → ChangesOf target s f ys → xs ≡ ys

-- each address of an FDE has rules
abbrev pub RulesExist : Type 0
RulesExist = (target : Target) (s : List ℕ) → AreBytes s → Accepted target s → (fs : List Fde) (f : Fde) (a : ℕ) → AreFdes target s fs → IsAmong f fs → Covers a f
    → (row : Rules) × RulesAt target s a row

-- and an address that has rules is one of an FDE
abbrev pub RulesCovered : Type 0
RulesCovered = (target : Target) (s : List ℕ) → AreBytes s → Accepted target s → (fs : List Fde) (a : ℕ) (row : Rules) → AreFdes target s fs → RulesAt target s a row
    → (f : Fde) × IsAmong f fs × Covers a f

-- the rules at an address are one
abbrev pub OneRules : Type 0
OneRules = (target : Target) (s : List ℕ) → AreBytes s → Accepted target s → (a : ℕ) (x y : Rules) → RulesAt target s a x → RulesAt target s a y → x ≡ y

-- of changes this is the last one at or below an address
pub record IsLastAt (a : ℕ) (changes : List (ℕ × Rules)) (change : ℕ × Rules) : Type 0 where
  pub before : List (ℕ × Rules)
  pub after : List (ℕ × Rules)
  pub whole : changes ≡ before ++ change ∷ after
  pub from : change.0 ≤ a
  pub above : AllByRecursion (λ (later : ℕ × Rules). a < later.0) after

-- whose row has the rules at each address of its FDE
abbrev pub LastChangeRules : Type 0
LastChangeRules = (target : Target) (s : List ℕ) (f : Fde) (changes : List (ℕ × Rules)) → ChangesOf target s f changes
    → (a : ℕ) (change : ℕ × Rules) → Covers a f → IsLastAt a changes change → RulesAt target s a change.1

-- an FDE starts at least as many rows as it has changes
abbrev pub LeastStarts : Type 0
LeastStarts = (target : Target) (s : List ℕ) → AreBytes s → Accepted target s → (begin end : ℕ) (initial instrs : List Instr) (changes : List (ℕ × Rules)) → begin < end
    → FdeSays target s begin end initial instrs → AreChanges initial instrs begin end changes → length changes ≤ row_starts instrs

-- the rows that all FDEs of a section start are one number
abbrev pub OneRowStarts : Type 0
OneRowStarts = (target : Target) (s : List ℕ) → AreBytes s → Accepted target s → (n m : ℕ) → RowStarts target s n → RowStarts target s m → n ≡ m

-- and so do all FDEs together
abbrev pub LeastTotal : Type 0
LeastTotal = (target : Target) (s : List ℕ) → AreBytes s → Accepted target s → (fs : List Fde) (lists : List (List (ℕ × Rules))) (n : ℕ) → AreFdes target s fs → AllZip (λ f changes. ChangesOf target s f changes) fs lists
    → RowStarts target s n → total (map length lists) ≤ n

-- sections that say the same have the same changes
abbrev pub MeaningChanges : Type 0
MeaningChanges = (target : Target) (s t : List ℕ) → AreBytes s → AreBytes t → Accepted target s → Accepted target t → SameMeaning target s t
    → (fs : List Fde) (f : Fde) (changes : List (ℕ × Rules)) → AreFdes target s fs → IsAmong f fs → ChangesOf target s f changes → ChangesOf target t f changes

-- and accepted sections with the same FDEs and the same changes of each say the same
abbrev pub ChangesMean : Type 0
ChangesMean = (target : Target) (s t : List ℕ) → AreBytes s → AreBytes t → Accepted target s → Accepted target t → ((fs : List Fde) → AreFdes target s fs ↔ AreFdes target t fs)
    → ((fs : List Fde) (f : Fde) (changes : List (ℕ × Rules)) → AreFdes target s fs → IsAmong f fs → ChangesOf target s f changes → ChangesOf target t f changes) → SameMeaning target s t

-- the rules at an address are in range: registers below 65,536, offsets from -(2^63-1) to 2^63-1, expressions that have a block
abbrev pub RulesFit : Type 0
RulesFit = (target : Target) (s : List ℕ) (a : ℕ) (row : Rules) → AreBytes s → Accepted target s → RulesAt target s a row → RowFits target row

-- and the CFA has one
abbrev pub CfaIsSet : Type 0
CfaIsSet = (target : Target) (s : List ℕ) (a : ℕ) (row : Rules) → AreBytes s → Accepted target s → RulesAt target s a row → row.cfa ≡ Unset → ⊥

-- a CIE leaves one row
abbrev pub OneCieRow : Type 0
OneCieRow = (target : Target) (s : List ℕ) (at : ℕ) (x y : Rules) → AreBytes s → CieLeaves target s at x → CieLeaves target s at y → x ≡ y
