-- What a caller in C is told of an index, and of a look-up by it.
use Rattle.std.specs.Prelude.{◌≡◌, ◌⊎◌, ◌+◌, ◌-◌, ℕ, ℤ, pos, List, [], ◌∷◌, length, map, nat_le, if◌then◌else◌, Option, Some, None}
use Rattle.dw_num.specs.declared.{refusal.Refusal.Refusal, target.Target.Target}
use Rattle.dw_op.specs.Faults.{IsWithin}
use Rattle.dw_row.specs.declared.rule.RegRule.{RegRule}
use Rattle.dw_row.specs.declared.rule.RegRule.TheVariants.{Unspecified, Undefined, SameValue, Offset, ValOffset, Register, Expression, ValExpression}
use Rattle.dw_row.specs.declared.rule.CfaRule.{CfaRule}
use Rattle.dw_row.specs.Rows.{Rules}
use Rattle.dw_row.specs.declared.rule.CfaRule.TheVariants as cfa
use Rattle.dw_section.specs.{Accepted.CheckFault, Among.IsAmong, Meaning.{AreFdes, Covers, NoneCovers, RulesAt}, Ranges.{LeadsTo, Ranged, Uncovered, IsTable}}
use Rattle.dw_section.specs.{StandingFde.{LookUpFault, Misleads, Ruled, RulesOf}, declared.lookup.Fde.Fde}
use Rattle.dw_library.specs.Answers.{AreAtFront, ok, refused, out_of_memory, bad_argument, too_short, not_refused, told}
use Rattle.dw_library.specs.declared.{answer.Refused.Refused, index.Row.Row, index.Rule.Rule}

-- ---- the index

-- the index of a section has so many entries
abbrev pub HasSize : Option Target → List ℕ → ℕ → ℕ → Refused → Type 0
HasSize None s status size why = (status ≡ bad_argument) × (size ≡ 0) × (why ≡ not_refused)
HasSize (Some target) s status size why =
    ((status ≡ ok) × ((index : List Ranged) × IsTable target s index × (size ≡ length index)) × (why ≡ not_refused))
    ⊎ ((status ≡ refused) × ((r : Refusal) × CheckFault target s r × (why ≡ told 1 r)) × (size ≡ 0))
    ⊎ ((status ≡ out_of_memory) × (size ≡ 0) × (why ≡ not_refused))

-- the status, the buffer before and after, how many entries there are, and the refusal
abbrev pub IsIndexed : Option Target → List ℕ → ℕ → List Ranged → List Ranged → ℕ → Refused → Type 0
IsIndexed None s status old new count why = (status ≡ bad_argument) × (new ≡ old) × (count ≡ 0) × (why ≡ not_refused)
IsIndexed (Some target) s status old new count why =
    (((index : List Ranged) × IsTable target s index × (count ≡ length index) × AreAtFront index old status new) × (why ≡ not_refused))
    ⊎ ((status ≡ refused) × ((r : Refusal) × CheckFault target s r × (why ≡ told 1 r)) × (new ≡ old) × (count ≡ 0))
    ⊎ ((status ≡ out_of_memory) × (new ≡ old) × (count ≡ 0) × (why ≡ not_refused))

-- ---- rules as they are told

abbrev pub kind_of : RegRule → ℕ
kind_of Unspecified = 0
kind_of Undefined = 1
kind_of SameValue = 2
kind_of (Offset n) = 3
kind_of (ValOffset n) = 4
kind_of (Register r) = 5
kind_of (Expression e) = 6
kind_of (ValExpression e) = 7

abbrev pub other_of : RegRule → ℕ
other_of (Register r) = r
other_of rule = 0

abbrev pub rule_offset : RegRule → ℤ
rule_offset (Offset n) = n
rule_offset (ValOffset n) = n
rule_offset rule = pos 0

abbrev pub rule_of : ℕ × RegRule → Rule
rule_of entry = record { number = entry.0; kind = kind_of entry.1; other = other_of entry.1; reserved = 0; offset = rule_offset entry.1 }

abbrev pub cfa_kind_of : CfaRule → ℕ
cfa_kind_of cfa.Unset = 0
cfa_kind_of (cfa.Register r n) = 1
cfa_kind_of (cfa.Expression e) = 2

abbrev pub cfa_register_of : CfaRule → ℕ
cfa_register_of (cfa.Register r n) = r
cfa_register_of rule = 0

abbrev pub cfa_offset_of : CfaRule → ℤ
cfa_offset_of (cfa.Register r n) = n
cfa_offset_of rule = pos 0

-- items over the front of a buffer, as many as fit
abbrev pub over : {A : Type 0} → List A → List A → List A
over [] old = old
over (item ∷ items) [] = []
over (item ∷ items) (x ∷ old) = item ∷ over items old

abbrev pub no_row : Row
no_row = record { begin = 0; range = 0; cfa_offset = pos 0; count = 0; cfa_kind = 0; cfa_register = 0; return_register = 0 }

-- ---- a look-up

-- what a call tells
pub record Told : Type 0 where
  pub status : ℕ
  pub row : Row
  pub rules : List Rule

-- a status alone
abbrev pub says : ℕ → List Rule → Told
says status old = record { status = status; row = no_row; rules = old }

-- a row tells an FDE and the rules at an address, but for those of the registers
pub record IsTold (found : Ruled) (row : Row) : Type 0 where
  pub begin : row.begin ≡ found.fde.begin
  pub range : found.fde.end ≡ found.fde.begin + row.range
  pub return_register : row.return_register ≡ found.fde.return_register
  pub cfa_kind : row.cfa_kind ≡ cfa_kind_of found.row.cfa
  pub cfa_register : row.cfa_register ≡ cfa_register_of found.row.cfa
  pub cfa_offset : row.cfa_offset ≡ cfa_offset_of found.row.cfa
  pub count : row.count ≡ length found.row.registers

-- the row that tells them
abbrev pub row_of : Fde → Rules → Row
row_of f row = record { begin = f.begin; range = f.end - f.begin; cfa_offset = cfa_offset_of row.cfa; count = length row.registers; cfa_kind = cfa_kind_of row.cfa; cfa_register = cfa_register_of row.cfa; return_register = f.return_register }

-- a call tells them with those of the registers
pub record TellsRow (found : Ruled) (old : List Rule) (t : Told) : Type 0 where
  pub row : IsTold found t.row
  pub rules : t.rules ≡ over (map rule_of found.row.registers) old
  pub status : t.status ≡ (if nat_le (length found.row.registers) (length old) then ok else too_short)

-- it tells the FDE that covers an address with the rules that a section has there, or that none does
abbrev pub TellsRules : Target → List ℕ → ℕ → List Rule → Told → Type 0
TellsRules target s a old t =
    ((found : Ruled) × Covers a found.fde × RulesAt target s a found.row × ((fs : List Fde) → AreFdes target s fs → IsAmong found.fde fs) × TellsRow found old t)
    ⊎ (((fs : List Fde) → AreFdes target s fs → NoneCovers a fs) × (t ≡ says 5 old))

-- it tells those of the FDE that stands where an index leads, or that the index has none
abbrev pub TellsFde : Target → List ℕ → List Ranged → ℕ → List Rule → Told → Type 0
TellsFde target s index a old t =
    ((found : Ruled) × (at : ℕ) × LeadsTo index a at × RulesOf target s at a found × TellsRow found old t) ⊎ (Uncovered index a × (t ≡ says 5 old))

-- by the index of an accepted section
abbrev pub IsRow : Option Target → List ℕ → List Ranged → ℕ → List Rule → Told → Refused → Type 0
IsRow None s index a old t why = (t ≡ says bad_argument old) × (why ≡ not_refused)
IsRow (Some target) s index a old t why = IsTable target s index → (TellsRules target s a old t ⊎ (t ≡ says out_of_memory old)) × (why ≡ not_refused)

-- by any index: also that it is a bad one, or that what stands at its place is refused
abbrev pub IsAnyRow : Option Target → List ℕ → List Ranged → ℕ → List Rule → Told → Refused → Type 0
IsAnyRow None s index a old t why = (t ≡ says bad_argument old) × (why ≡ not_refused)
IsAnyRow (Some target) s index a old t why =
    ((TellsFde target s index a old t ⊎ (t ≡ says out_of_memory old) ⊎ (Misleads target s index a × (t ≡ says 10 old))) × (why ≡ not_refused))
    ⊎ ((r : Refusal) × IsWithin s r × LookUpFault target s index a r × (t ≡ says refused old) × (why ≡ told 1 r))
