-- What is known of a table: of the FDEs that it lists, and of the CIEs of its normal form.
use Rattle.std.specs.Prelude.{◌≡◌, ℕ, ◌<◌, List, length, slice_index_or}
use Rattle.dw_num.specs.declared.target.Target.{Target}
use Rattle.dw_row.specs.Rows.{Rules}
use Rattle.dw_section.specs.{Meaning.AreFdes, Table.Section, declared.lookup.Fde.Fde}
use Rattle.dw_canon.specs.Members.{Member, AreMembers}
use Rattle.dw_normal.specs.Inner.{Groups.initial_rows, Places.{place_in, cie_place}}

-- it lists an FDE at a place
abbrev pub IsListed : Section → ℕ → Type 0
IsListed table place = (fs : List Fde) → AreFdes table.target table.bytes fs → place < length fs

-- it lists so many
abbrev pub AreListed : Section → ℕ → Type 0
AreListed table count = (fs : List Fde) → AreFdes table.target table.bytes fs → count ≡ length fs

-- this is so of the FDE at a place
abbrev pub OfFde : Section → ℕ → (Fde → Type 0) → Type 0
OfFde table place P = (fs : List Fde) → AreFdes table.target table.bytes fs → (d : Fde) → P (slice_index_or fs place d)

-- with its changes
abbrev pub OfMember : Section → ℕ → (Member → Type 0) → Type 0
OfMember table place P = (ms : List Member) → AreMembers table.target table.bytes ms → (d : Member) → P (slice_index_or ms place d)

-- this is so of all of them
abbrev pub OfMembers : Section → (List Member → Type 0) → Type 0
OfMembers table P = (ms : List Member) → AreMembers table.target table.bytes ms → P ms

-- and of those of another table
abbrev pub OfBoth : Section → Section → (List Member → List Member → Type 0) → Type 0
OfBoth one two P = (ms ns : List Member) → AreMembers one.target one.bytes ms → AreMembers two.target two.bytes ns → P ms ns

-- these are the initial rows of its groups
abbrev pub AreInitial : Section → List (ℕ × Rules) → Type 0
AreInitial table rows = (ms : List Member) → AreMembers table.target table.bytes ms → rows ≡ initial_rows ms

-- and at these places stand the CIEs with such rows
abbrev pub ArePlaces : Target → List (ℕ × Rules) → List (ℕ × ℕ) → Type 0
ArePlaces target rows places = (register : ℕ) → place_in places register ≡ cie_place target 0 rows register
