-- What the code keeps of nonempty FDEs.
use Rattle.std.specs.{Prelude.{◌≡◌, ℕ, List, [], ◌∷◌, ◌++◌, map, Option, Result, IfErr, OnOk}, List.AllByRecursion}
use Rattle.dw_num.specs.{Refusals.Refuses, declared.{error.ReadError.ReadError, target.Target.Target}}
use Rattle.dw_section.specs.{Accepted.{CiesRun}, Among.IsAmong, Counts.AreCounts, Cut.Piece, Headers.{Head, Headers}, Inner.Initials.{AreAmong, AreOf}}
use Rattle.dw_section.specs.{Inner.{Initials.FirstLacking, PieceHeader.{entry_in, initial_in}, Places.RiseBy, Walks.AreLed}, Overlap.{Range, nonempty}}
use Rattle.dw_section.specs.{Pieces.Pieces, Programs.{CieRuns, FdeBroken, FdeRuns}, Ranges.{IsRanged, Ranged, range_in}, declared.entry.EntryCounts.EntryCounts}
use Rattle.dw_section.specs.declared.{fde_range.Judged.Judged, header.Initial.Initial, listed_fde.FoundFde.FoundFde, walks.Walks.Walks}

-- an FDE and the CIE that it names are among the headers
pub record IsFound (hs : List Head) (e : FoundFde) : Type 0 where
  pub own : IsAmong (entry_in e.own) hs
  pub named : IsAmong (initial_in e.cie) hs
  pub names : e.own.cie_at ≡ e.cie.at

-- places from low on, ascending
abbrev pub PlacesRise : ℕ → List Range → Type 0
PlacesRise low rs = RiseBy (λ (a : Range). a.at) low rs

-- where what is listed is of headers, with this CIE and this FDE among them, it still is
abbrev pub ListsOf : {T E : Type 0} → Head → Head → List Ranged → Result T E → List Ranged → Type 0
ListsOf named own old result new = (hs : List Head) → IsAmong named hs → IsAmong own hs → AllByRecursion (IsRanged hs) old
    → OnOk result (AllByRecursion (IsRanged hs) new)

-- the programs of these run, the first among them that lacks a rule is this one, and their nonempty FDEs are these
pub record AreJudged (target : Target) (hs front : List Head) (lacking : Option ℕ) (list : List Ranged) : Type 0 where
  pub run : AllByRecursion (FdeRuns target hs) front
  pub first : FirstLacking target hs front lacking
  pub are : map range_in list ≡ nonempty front
  pub each : AllByRecursion (IsRanged hs) list

-- those of a section were judged, whose CIEs' programs run
abbrev pub AreAllJudged : Target → List ℕ → Judged → Type 0
AreAllJudged target s judged = (hs : List Head) × CiesRun target s hs × AreJudged target hs hs judged.lacking judged.list.items

-- one entry more is judged, behind a CIE that was read
abbrev pub JudgesOne : {T E : Type 0} → Target → List Initial → Walks → Head → Judged → Result T E → Judged → Type 0
JudgesOne target cs walks h old result new =
    (hs front : List Head) → AreAmong hs cs → AllByRecursion (CieRuns target) hs → AreLed target hs walks → IsAmong h hs → AreJudged target hs front old.lacking old.list.items
    → OnOk result (AreJudged target hs (front ++ h ∷ []) new.lacking new.list.items)

abbrev pub BreaksOne : {T : Type 0} → Target → List Initial → Walks → Head → Result T ReadError → Type 0
BreaksOne target cs walks h result = (hs : List Head) → AreAmong hs cs → AllByRecursion (CieRuns target) hs → AreLed target hs walks → IfErr result (Refuses (FdeBroken target hs h))

-- how many entries a section has, and what its FDEs begin with
abbrev pub IsKept : Target → List ℕ → EntryCounts → List Initial → Type 0
IsKept target s counts cs = ((ps : List Piece) → Pieces target s ps → AreCounts ps counts) × ((hs : List Head) → Headers target s hs → AreOf hs cs)
