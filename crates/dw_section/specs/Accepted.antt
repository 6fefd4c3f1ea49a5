-- Which sections are accepted, and the first fault of one that is not.
use Rattle.std.specs.{Prelude.{ℕ, List}, List.AllByRecursion}
use Rattle.dw_num.specs.declared.{refusal.Refusal.Refusal, target.Target.Target}
use Rattle.dw_section.specs.{Headers.{Head, Headers, HeadersFault}, Overlap.{Range, IsIndex, AreApart, FirstOverlap}}
use Rattle.dw_section.specs.{Programs.{CieRuns, CieBroken, FdeRuns, FdeBroken, HasRules, LacksRule}, Stage.{FirstStuck, Then}}

-- ---- the stages, each behind those before

-- the headers, where the program of each CIE runs
abbrev pub CiesRun : Target → List ℕ → List Head → Type 0
CiesRun target s hs = Headers target s hs × AllByRecursion (CieRuns target) hs

-- the program of each FDE runs too
abbrev pub FdesRun : Target → List ℕ → List Head → Type 0
FdesRun target s hs = CiesRun target s hs × AllByRecursion (FdeRuns target hs) hs

-- the CFA has a rule at each address too
abbrev pub RulesHold : Target → List ℕ → List Head → Type 0
RulesHold target s hs = FdesRun target s hs × AllByRecursion (HasRules target hs) hs

-- this is the order of its nonempty FDEs
abbrev pub Indexed : Target → List ℕ → List Range → Type 0
Indexed target s index = (hs : List Head) × RulesHold target s hs × IsIndex hs index

-- programs run, the CFA has a rule at each address of an FDE, and no two FDEs share an address
abbrev pub Accepted : Target → List ℕ → Type 0
Accepted target s = (index : List Range) × Indexed target s index × AreApart index

-- ---- the first fault up to each stage

abbrev pub CieProgramsFault : Target → List ℕ → Refusal → Type 0
CieProgramsFault target s = Then (HeadersFault target s) (Headers target s) (FirstStuck (CieRuns target) (CieBroken target))

abbrev pub FdeProgramsFault : Target → List ℕ → Refusal → Type 0
FdeProgramsFault target s = Then (CieProgramsFault target s) (CiesRun target s) (λ hs. FirstStuck (FdeRuns target hs) (FdeBroken target hs) hs)

abbrev pub RulesFault : Target → List ℕ → Refusal → Type 0
RulesFault target s = Then (FdeProgramsFault target s) (FdesRun target s) (λ hs. FirstStuck (HasRules target hs) (LacksRule target hs) hs)

-- the first fault of a section
abbrev pub CheckFault : Target → List ℕ → Refusal → Type 0
CheckFault target s = Then (RulesFault target s) (Indexed target s) FirstOverlap
