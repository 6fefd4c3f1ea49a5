-- What a section says: DWARF 5, 6.4.1. Its nonempty FDEs, and the rules at each address that they cover.
use Rattle.std.specs.{Prelude.{◌≡◌, ℕ, ◌+◌, ◌<◌, ◌≤◌, List, [], ◌∷◌, length}, List.{AllByRecursion, AllZip}}
use Rattle.dw_num.specs.declared.target.Target.{Target}
use Rattle.dw_row.specs.Rows.{Rules}
use Rattle.dw_cfa.specs.{InitialRules.HoldsAfter, Location.{Counts, row_starts}, declared.instr.Instr.Instr}
use Rattle.dw_section.specs.{Among.IsAmong, Changes.AreChanges, Headers.{CieHead, FdeHead, Head, cie, fde, Headers}}
use Rattle.dw_section.specs.{Overlap.{Range, range_of, IsIndex, end_of}, Programs.Instrs, declared.lookup.Fde.Fde}

-- ---- the FDEs

-- the FDE of a range names a CIE of this return address register
pub record Returns (hs : List Head) (a : Range) (register : ℕ) : Type 0 where
  pub own : FdeHead
  pub named : CieHead
  pub own_among : IsAmong (fde own) hs
  pub named_among : IsAmong (cie named) hs
  pub covers : range_of own ≡ a
  pub names : own.cie_at ≡ named.at
  pub is : register ≡ named.return_register

-- an FDE as it is listed
pub record Lists (hs : List Head) (a : Range) (f : Fde) : Type 0 where
  pub begin : f.begin ≡ a.begin
  pub end : f.end ≡ end_of a
  pub returns : Returns hs a f.return_register

-- these are the nonempty FDEs of a section by begin
pub record AreFdes (target : Target) (s : List ℕ) (fs : List Fde) : Type 0 where
  pub headers : List Head
  pub are : Headers target s headers
  pub index : List Range
  pub is_index : IsIndex headers index
  pub each : AllZip (Lists headers) index fs

-- an FDE covers an address
abbrev pub Covers : ℕ → Fde → Type 0
Covers a f = (f.begin ≤ a) × (a < f.end)

-- none does
abbrev pub NoneCovers : ℕ → List Fde → Type 0
NoneCovers a fs = AllByRecursion (λ f. Covers a f → ⊥) fs

-- ---- what is said of an FDE

-- an FDE of these addresses, with the instructions of its CIE and of its own program
pub record FdeSays (target : Target) (s : List ℕ) (begin end : ℕ) (initial instrs : List Instr) : Type 0 where
  pub headers : List Head
  pub are : Headers target s headers
  pub head : FdeHead
  pub among : IsAmong (fde head) headers
  pub begin_is : begin ≡ head.begin
  pub end_is : end ≡ head.begin + head.range
  pub spelled : Instrs target headers head.cie_at head.program initial instrs

-- an FDE covers a, and a row has in each column the rule after the instructions that count there
pub record RulesAt (target : Target) (s : List ℕ) (a : ℕ) (row : Rules) : Type 0 where
  pub begin : ℕ
  pub end : ℕ
  pub initial : List Instr
  pub instrs : List Instr
  pub says : FdeSays target s begin end initial instrs
  pub from : begin ≤ a
  pub below : a < end
  pub k : ℕ
  pub counts : Counts begin instrs a k
  pub holds : HoldsAfter initial instrs k row

-- at these addresses the rules of an FDE change, each with the rules there
pub record ChangesOf (target : Target) (s : List ℕ) (f : Fde) (changes : List (ℕ × Rules)) : Type 0 where
  pub initial : List Instr
  pub instrs : List Instr
  pub says : FdeSays target s f.begin f.end initial instrs
  pub change : AreChanges initial instrs f.begin f.end changes

-- the program of an FDE has so many bytes, and that of its CIE so many
pub record HasLengths (target : Target) (s : List ℕ) (f : Fde) (own cie : ℕ) : Type 0 where
  pub initial : List Instr
  pub instrs : List Instr
  pub says : FdeSays target s f.begin f.end initial instrs
  pub own_is : own ≡ length says.head.program.bytes
  pub cie_is : cie ≡ length says.spelled.head.program.bytes

-- ---- the rows

-- the program of the FDE of a range starts n rows
abbrev pub Starts : Target → List ℕ → Range → ℕ → Type 0
Starts target s a n = (initial : List Instr) × (instrs : List Instr) × (says : FdeSays target s a.begin (end_of a) initial instrs) × (says.head.at ≡ a.at) × (n ≡ row_starts instrs)

abbrev pub total : List ℕ → ℕ
total [] = 0
total (n ∷ ns) = n + total ns

-- the programs of all nonempty FDEs together start n rows
pub record RowStarts (target : Target) (s : List ℕ) (n : ℕ) : Type 0 where
  pub headers : List Head
  pub are : Headers target s headers
  pub index : List Range
  pub is_index : IsIndex headers index
  pub counts : List ℕ
  pub each : AllZip (Starts target s) index counts
  pub sum : n ≡ total counts
