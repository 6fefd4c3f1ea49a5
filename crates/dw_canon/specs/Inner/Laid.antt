-- How a normal form is laid out: first a CIE for each return address register, ascending, then the FDEs by begin; and what is asked
-- of them.
use Rattle.std.specs.{Prelude.{◌≡◌, ◌⊎◌, ◌==◌, ℕ, suc, ◌+◌, ◌-◌, ◌<◌, ◌≤◌, List, [], ◌∷◌, ◌++◌, length, map, if◌then◌else◌}, List.AllByRecursion}
use Rattle.dw_num.specs.{Target.address_limit, declared.target.Target.Target}
use Rattle.dw_cfa.specs.{InitialRules.initial_cfa, InstrSpells.ProgramSpells, Kept.{CieKept, FdeKept}, declared.instr.Instr.Instr}
use Rattle.dw_section.specs.{Programs.HasCfa, declared.lookup.Fde.Fde}
use Rattle.dw_canon.specs.{Canon.return_registers, Members.Member, Inner.Canon.{initial_of, cie_instrs, fde_instrs}}
use Rattle.dw_canon.specs.Inner.{Spelling.program_bytes, Written.{Written, cie, fde, factors, entry_bytes, section_bytes}}

-- the CIE of a return address register: its instructions, and the bytes that spell them
pub record Group : Type 0 where
  pub register : ℕ
  pub instrs : List Instr
  pub program : List ℕ

-- an FDE: the return address register of its CIE, its range, its instructions, and the bytes that spell them
pub record Part : Type 0 where
  pub register : ℕ
  pub begin : ℕ
  pub range : ℕ
  pub instrs : List Instr
  pub program : List ℕ

abbrev pub cie_of : Group → Written
cie_of g = cie g.register g.instrs g.program

-- where the CIE of a return address register stands
abbrev pub place_of : Target → ℕ → List Group → ℕ → ℕ
place_of target at [] register = at
place_of target at (g ∷ gs) register = if g.register == register then at else place_of target (at + length (entry_bytes target (cie_of g))) gs register

abbrev pub fde_of : Target → List Group → Part → Written
fde_of target gs p = fde (place_of target 0 gs p.register) p.begin p.range p.instrs p.program

-- the entries
abbrev pub laid : Target → List Group → List Part → List Written
laid target gs ps = map cie_of gs ++ map (fde_of target gs) ps

-- ---- the groups and FDEs of a section

abbrev pub group_of : Target → List Member → ℕ → Group
group_of t ms register = record { register = register; instrs = cie_instrs (initial_of ms register); program = program_bytes t (cie_instrs (initial_of ms register)) }

abbrev pub part_of : Target → List Member → Member → Part
part_of t ms m = record {
  register = m.register;
  begin = m.begin;
  range = m.end - m.begin;
  instrs = fde_instrs (initial_of ms m.register) m;
  program = program_bytes t (fde_instrs (initial_of ms m.register) m);
}

abbrev pub groups_of : Target → List Member → List Group
groups_of t ms = map (group_of t ms) (return_registers ms)

abbrev pub parts_of : Target → List Member → List Part
parts_of t ms = map (part_of t ms) ms

-- an FDE as a table lists it
abbrev pub fde_in : Part → Fde
fde_in p = record { begin = p.begin; end = p.begin + p.range; return_register = p.register }

-- the CIE of a return address register has these instructions
abbrev pub HasGroup : List Group → ℕ → List Instr → Type 0
HasGroup [] register initial = ⊥
HasGroup (g ∷ gs) register initial = ((register ≡ g.register) × (initial ≡ g.instrs)) ⊎ HasGroup gs register initial

-- registers from low on, ascending
abbrev pub GroupsRise : ℕ → List Group → Type 0
GroupsRise low [] = Unit {0}
GroupsRise low (g ∷ gs) = (low ≤ g.register) × GroupsRise (suc g.register) gs

abbrev pub IsGroup : Target → Group → Type 0
IsGroup target g = (g.register < 65536) × ProgramSpells target factors g.instrs g.program × CieKept g.instrs

pub record IsPart (target : Target) (gs : List Group) (p : Part) : Type 0 where
  pub some : 0 < p.range
  pub range_fits : p.range < address_limit target.size
  pub begin_fits : p.begin < address_limit target.size
  pub in_space : p.begin + p.range ≤ address_limit target.size
  pub spelled : ProgramSpells target factors p.instrs p.program
  pub initial : List Instr
  pub group : HasGroup gs p.register initial
  pub kept : FdeKept (address_limit target.size) p.begin (initial_cfa initial) p.instrs
  pub has_cfa : (a : ℕ) → p.begin ≤ a → a < p.begin + p.range → HasCfa initial p.instrs p.begin a

-- none begins below the end of one before it
abbrev pub PartsApart : List Part → Type 0
PartsApart [] = Unit {0}
PartsApart (p ∷ ps) = AllByRecursion (λ (q : Part). p.begin + p.range ≤ q.begin) ps × PartsApart ps

pub record IsLaid (target : Target) (gs : List Group) (ps : List Part) : Type 0 where
  pub small : length (section_bytes target (laid target gs ps)) ≤ 2147483647
  pub rise : GroupsRise 0 gs
  pub groups : AllByRecursion (IsGroup target) gs
  pub parts : AllByRecursion (IsPart target gs) ps
  pub apart : PartsApart ps

abbrev pub IsPartOf : Part → List Part → Type 0
IsPartOf p [] = ⊥
IsPartOf p (q ∷ ps) = (p ≡ q) ⊎ IsPartOf p ps
