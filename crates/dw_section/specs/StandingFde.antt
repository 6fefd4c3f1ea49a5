-- An FDE that stands in bytes, by its place alone: DWARF 5, 6.4.1. The bytes need be no section that is accepted.
--
-- A look-up that is led to a place judges in this order, and refuses with the first fault:
-- 1. the size of the bytes;
-- 2. what begins at the place (`ItemFault`), which has to be an FDE;
-- 3. what begins where that FDE says that its CIE stands (`ItemFault` again);
-- 4. the fields of the FDE, its pointer first, which leads to no CIE where none begins there;
-- 5. the fields of the CIE;
-- 6. the program of the CIE, and then that of the FDE up to the address.
-- Whatever stands elsewhere in the bytes is not judged. `check` judges the fields of all CIEs before those of any FDE.
use Rattle.std.specs.Prelude.{◌≡◌, ◌⊎◌, ℕ, ◌+◌, ◌<◌, ◌≤◌, List, [], ◌∷◌, ◌++◌, length, take, drop, Option, Some, None, Err}
use Rattle.dw_num.specs.{Fixed.Fixed, Span.input_of, declared.refusal.Code.TheVariants.SectionTooLarge}
use Rattle.dw_num.specs.declared.{refusal.Refusal.Refusal, target.Order.Order, target.Target.Target}
use Rattle.dw_row.specs.Rows.{Rules}
use Rattle.dw_cfa.specs.{Faults.{FaultUpTo, NoFaultUpTo}, Gives.RunsTo, RuleAt.last_at, Runs.Outcome}
use Rattle.dw_section.specs.{Cut.{Item, IsItem, Piece, id_width, item_bytes, piece_of}, Faults.item_at}
use Rattle.dw_section.specs.{Headers.{CieHead, FdeHead, Has, cie, fde, CieStuck, FdeHolds, FdeStuck}, Meaning.Covers, Programs.factors_of}
use Rattle.dw_section.specs.{Ranges.{LeadsTo, Ranged}, Stage.Then, declared.entry.Kind.Kind, declared.lookup.Fde.Fde}
use Rattle.dw_section.specs.declared.standing_fde.{LookUpError.LookUpError, LookUpError.TheVariants.{Refused, BadIndex, OutOfMemory}}
use Rattle.dw_section.specs.declared.entry.Kind.TheVariants as kind

-- an entry stands at its place
pub record StandsIn (order : Order) (s : List ℕ) (p : Piece) : Type 0 where
  pub item : Item
  pub front : List ℕ
  pub rest : List ℕ
  pub is : IsItem item
  pub whole : s ≡ front ++ (item_bytes order item ++ rest)
  pub piece : piece_of order (length front) item ≡ Some p

-- an FDE stands at its place, and the CIE that it names at that CIE's
pub record FdeStands (target : Target) (s : List ℕ) (own : FdeHead) (named : CieHead) : Type 0 where
  pub piece : Piece
  pub named_piece : Piece
  pub stands : StandsIn target.order s piece
  pub named_stands : StandsIn target.order s named_piece
  pub own_is : Has target (own.cie_at ∷ []) piece (fde own)
  pub named_is : Has target [] named_piece (cie named)
  pub names : own.cie_at ≡ named.at

-- no FDE that covers an address stands at a place
abbrev pub NoneStands : Target → List ℕ → ℕ → ℕ → Type 0
NoneStands target s at a =
    (own : FdeHead) (named : CieHead) → FdeStands target s own named → own.at ≡ at → own.begin ≤ a → a < own.begin + own.range → ⊥

-- an FDE, and the rules at an address that it covers
pub record Ruled : Type 0 where
  pub fde : Fde
  pub row : Rules

-- they are those of the FDE at a place: of the rows that its programs give, the last that starts at or below the address; and no
-- fault of these programs comes up to it
pub record RulesOf (target : Target) (s : List ℕ) (at a : ℕ) (found : Ruled) : Type 0 where
  pub own : FdeHead
  pub named : CieHead
  pub stands : FdeStands target s own named
  pub place : own.at ≡ at
  pub begin : found.fde.begin ≡ own.begin
  pub end : found.fde.end ≡ own.begin + own.range
  pub return_register : found.fde.return_register ≡ named.return_register
  pub covers : Covers a found.fde
  pub outcome : Outcome
  pub runs : RunsTo (factors_of named) (input_of target named.program) (input_of target own.program) own.begin outcome
  pub row : last_at a outcome.rows ≡ Some found.row
  pub unfaulted : NoFaultUpTo (factors_of named) (input_of target named.program) (input_of target own.program) own.begin a

-- an FDE that covers an address, at its place in bytes
pub record Indexed : Type 0 where
  pub target : Target
  pub bytes : List ℕ
  pub at : ℕ
  pub address : ℕ
  pub fde : Fde

-- ---- what a look-up refuses

-- an entry of this kind stands at a place
abbrev pub StandsAs : Target → List ℕ → Kind → ℕ → Piece → Type 0
StandsAs target s k at p = StandsIn target.order s p × (p.kind ≡ k) × (p.at ≡ at)

-- the place lies within the bytes, and what begins there can't be read as an entry or a gap
abbrev pub ItemFault : Target → List ℕ → ℕ → Refusal → Type 0
ItemFault target s at r = (at < length s) × (item_at (record { at = at; bytes = drop at s; target = target }) ≡ Err r)

-- the CIE at a place, or none where something else stands or the bytes end
abbrev pub CieAt : Target → List ℕ → ℕ → Option Piece → Type 0
CieAt target s at (Some p) = StandsAs target s kind.Cie at p
CieAt target s at None = ((p : Piece) → StandsAs target s kind.Cie at p → ⊥) × ((r : Refusal) → ItemFault target s at r → ⊥)

-- the first field of an FDE is the place of its CIE
abbrev pub NamesCieAt : Target → Piece → ℕ → Type 0
NamesCieAt target own at = Fixed target.order (id_width own.form) at (take (id_width own.form) own.contents.bytes)

-- Step 4 and then step 5. Where no CIE stands, the FDE is refused at its pointer. Where one stands, the FDE's fields are stuck, or
-- they hold and the CIE's are stuck.
abbrev pub BothStuck : Target → Piece → Option Piece → Refusal → Type 0
BothStuck target own None r = FdeStuck target [] own r
BothStuck target own (Some named) r = FdeStuck target (named.at ∷ []) own r ⊎ (FdeHolds target (named.at ∷ []) own × CieStuck target named r)

-- Steps 3 to 5: of what begins where the FDE says, or where that is no fault, of the fields of both. What stands there may be a CIE
-- or not.
abbrev pub PairFault : Target → List ℕ → Piece → Refusal → Type 0
PairFault target s own r = (at : ℕ) × NamesCieAt target own at × Then (ItemFault target s at) (CieAt target s at) (BothStuck target own) r

-- Step 6: the first fault of the programs of both, where it comes up to an address that the FDE covers.
abbrev pub ProgramsFault : Target → List ℕ → ℕ → ℕ → Refusal → Type 0
ProgramsFault target s at a r =
    (own : FdeHead) × (named : CieHead) × FdeStands target s own named × (own.at ≡ at) × (own.begin ≤ a) × (a < own.begin + own.range)
    × FaultUpTo (factors_of named) (input_of target named.program) (input_of target own.program) own.begin a r

-- Steps 2 to 6: of what begins at the place, or where that is an FDE, of the FDE and its CIE; or of their programs. The last is
-- no part of `Then`, for it speaks of an FDE that stands there whole, so that no step before has a fault.
abbrev pub StandingFault : Target → List ℕ → ℕ → ℕ → Refusal → Type 0
StandingFault target s at a r = Then (ItemFault target s at) (StandsAs target s kind.Fde at) (PairFault target s) r ⊎ ProgramsFault target s at a r

-- All steps: of the size, or at a place where the index leads.
abbrev pub LookUpFault : Target → List ℕ → List Ranged → ℕ → Refusal → Type 0
LookUpFault target s index a r =
    ((2147483647 < length s) × (r ≡ record { code = SectionTooLarge; at = 0 })) ⊎ ((length s ≤ 2147483647) × ((at : ℕ) × LeadsTo index a at × StandingFault target s at a r))

-- an index leads to a place where nothing is refused, and no FDE stands that covers the address
abbrev pub Misleads : Target → List ℕ → List Ranged → ℕ → Type 0
Misleads target s index a =
    (at : ℕ) × LeadsTo index a at × NoneStands target s at a × ((r : Refusal) → StandingFault target s at a r → ⊥)

-- an error refuses with such a fault, unless it is no refusal
abbrev pub RefusesAs : (Refusal → Type 0) → LookUpError → Type 0
RefusesAs Fault (Refused r) = Fault r
RefusesAs Fault BadIndex = Unit {0}
RefusesAs Fault OutOfMemory = Unit {0}
