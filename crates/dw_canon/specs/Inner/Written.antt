-- Sections as they are written, entry by entry, each with the instructions that its program spells.
use Rattle.std.specs.{Prelude.{◌≡◌, ◌⊎◌, ℕ, ◌+◌, ◌<◌, ◌≤◌, negsuc, List, [], ◌∷◌, ◌++◌, length, map, replicate}, List.AllByRecursion}
use Rattle.dw_num.specs.{Fixed.fixed_bytes, Shortest.shortest_uleb, Span.Span, Target.{address_limit, byte_count}}
use Rattle.dw_num.specs.declared.target.{Form.TheVariants.Dwarf32, Size.Size, Target.Target}
use Rattle.dw_cfa.specs.{InitialRules.initial_cfa, InstrSpells.ProgramSpells, Kept.{CieKept, FdeKept}}
use Rattle.dw_cfa.specs.declared.instr.{Factors.Factors, Instr.Instr}
use Rattle.dw_section.specs.{Cut.{Item, entry, item_bytes, all_bytes}, Headers.Head, Overlap.{Range, AreApart}, Programs.HasCfa, declared.lookup.Fde.Fde}
use Rattle.dw_section.specs.Headers as head
use Rattle.dw_canon.specs.Written.{missing, cie_field_bytes, fde_field_bytes}

-- the factors of each CIE: what the operands of offsets and advances are multiplied by
abbrev pub factors : Factors
factors = record { code_factor = 1; data_factor = negsuc 0 }

-- an entry to be written: a CIE by its return address register, or an FDE by the place of its CIE, its begin and its range; then
-- its instructions and the bytes that spell them, without nops
pub data Written : Type 0 where
  cie : ℕ → List Instr → List ℕ → Written
  fde : ℕ → ℕ → ℕ → List Instr → List ℕ → Written

-- the nops behind these fields and this program, with four bytes of length before them
abbrev pub nop_count : Size → List ℕ → List ℕ → ℕ
nop_count size fields program = missing size (4 + (length fields + length program))

-- a program with n nops behind it
abbrev pub filled : ℕ → List ℕ → List ℕ
filled n program = program ++ replicate n 0

abbrev pub cie_id : Target → List ℕ
cie_id target = fixed_bytes target.order 4 0xffffffff

-- version 4, no augmentation, the sizes, the factors, the register
abbrev pub cie_spelling : Target → ℕ → List ℕ
cie_spelling target register = (4 ∷ []) ++ ((0 ∷ []) ++ ((byte_count target.size ∷ 0 ∷ []) ++ ((1 ∷ []) ++ ((127 ∷ []) ++ shortest_uleb register))))

abbrev pub fields_of : Target → Written → List ℕ
fields_of target (cie register instrs program) = cie_field_bytes target register
fields_of target (fde cie_at begin range instrs program) = fde_field_bytes target cie_at begin range

abbrev pub program_of : Written → List ℕ
program_of (cie register instrs program) = program
program_of (fde cie_at begin range instrs program) = program

abbrev pub nops_of : Target → Written → ℕ
nops_of target w = nop_count target.size (fields_of target w) (program_of w)

-- what stands behind the length
abbrev pub contents : Target → Written → List ℕ
contents target w = fields_of target w ++ filled (nops_of target w) (program_of w)

abbrev pub item_of : Target → Written → Item
item_of target w = entry Dwarf32 (contents target w)

-- the bytes of an entry
abbrev pub entry_bytes : Target → Written → List ℕ
entry_bytes target w = item_bytes target.order (item_of target w)

-- the bytes of entries, one after the other
abbrev pub section_bytes : Target → List Written → List ℕ
section_bytes target ws = all_bytes target.order (map (item_of target) ws)

-- ---- what is asked of them

-- the program as it stands in an entry at a place
abbrev pub span_of : Target → ℕ → Written → Span
span_of target at w = record { at = at + (4 + length (fields_of target w)); bytes = filled (nops_of target w) (program_of w) }

abbrev pub head_of : Target → ℕ → Written → Head
head_of target at (cie register instrs program) = head.cie (record { at = at; form = Dwarf32; code_factor = 1; data_factor = negsuc 0; return_register = register; program = span_of target at (cie register instrs program) })
head_of target at (fde cie_at begin range instrs program) = head.fde (record { at = at; form = Dwarf32; cie_at = cie_at; begin = begin; range = range; program = span_of target at (fde cie_at begin range instrs program) })

-- the headers of entries of which the first stands at a place
abbrev pub heads_at : Target → ℕ → List Written → List Head
heads_at target at [] = []
heads_at target at (w ∷ ws) = head_of target at w ∷ heads_at target (at + length (entry_bytes target w)) ws

-- the places of the CIEs among them
abbrev pub cies_at : Target → ℕ → List Written → List ℕ
cies_at target at [] = []
cies_at target at (cie register instrs program ∷ ws) = at ∷ cies_at target (at + length (entry_bytes target (cie register instrs program))) ws
cies_at target at (fde cie_at begin range instrs program ∷ ws) = cies_at target (at + length (entry_bytes target (fde cie_at begin range instrs program))) ws

-- the ranges of the FDEs among them
abbrev pub ranges_at : Target → ℕ → List Written → List Range
ranges_at target at [] = []
ranges_at target at (cie register instrs program ∷ ws) = ranges_at target (at + length (entry_bytes target (cie register instrs program))) ws
ranges_at target at (fde cie_at begin range instrs program ∷ ws) =
    record { at = at; begin = begin; range = range } ∷ ranges_at target (at + length (entry_bytes target (fde cie_at begin range instrs program))) ws

-- at a place stands a CIE of this return address register and these instructions
abbrev pub StandsAt : Target → ℕ → List Written → ℕ → ℕ → List Instr → Type 0
StandsAt target at [] place register initial = ⊥
StandsAt target at (cie r instrs program ∷ ws) place register initial =
    ((place ≡ at) × (register ≡ r) × (initial ≡ instrs)) ⊎ StandsAt target (at + length (entry_bytes target (cie r instrs program))) ws place register initial
StandsAt target at (fde cie_at begin range instrs program ∷ ws) place register initial = StandsAt target (at + length (entry_bytes target (fde cie_at begin range instrs program))) ws place register initial

-- its fields can be spelled: a pointer names a CIE, and a range lies in the address space and is not empty
abbrev pub Fits : Target → List Written → Written → Type 0
Fits target all (cie register instrs program) = register < 65536
Fits target all (fde cie_at begin range instrs program) =
    (0 < range) × (range < address_limit target.size) × (begin < address_limit target.size) × (begin + range ≤ address_limit target.size)
    × ((register : ℕ) × (initial : List Instr) × StandsAt target 0 all cie_at register initial)

-- its program spells its instructions, and these keep what they have to; an FDE's give the CFA a rule at each address
abbrev pub Runs : Target → List Written → Written → Type 0
Runs target all (cie register instrs program) = ProgramSpells target factors instrs program × CieKept instrs
Runs target all (fde cie_at begin range instrs program) =
    ProgramSpells target factors instrs program
    × ((register : ℕ) (initial : List Instr) → StandsAt target 0 all cie_at register initial
    → FdeKept (address_limit target.size) begin (initial_cfa initial) instrs × ((a : ℕ) → begin ≤ a → a < begin + range → HasCfa initial instrs begin a))

-- these are its FDEs, in order
abbrev pub SaysFdes : Target → List Written → List Written → List Fde → Type 0
SaysFdes target all [] fs = fs ≡ []
SaysFdes target all (cie register instrs program ∷ ws) fs = SaysFdes target all ws fs
SaysFdes target all (fde cie_at begin range instrs program ∷ ws) [] = ⊥
SaysFdes target all (fde cie_at begin range instrs program ∷ ws) (f ∷ fs) =
    (f.begin ≡ begin) × (f.end ≡ begin + range) × ((initial : List Instr) × StandsAt target 0 all cie_at f.return_register initial) × SaysFdes target all ws fs

abbrev pub IsOne : Written → List Written → Type 0
IsOne w [] = ⊥
IsOne w (other ∷ ws) = (w ≡ other) ⊎ IsOne w ws

-- it is what a section may be written of
pub record IsSection (target : Target) (ws : List Written) : Type 0 where
  pub small : length (section_bytes target ws) ≤ 2147483647
  pub fits : AllByRecursion (Fits target ws) ws
  pub runs : AllByRecursion (Runs target ws) ws
  pub apart : AreApart (ranges_at target 0 ws)
