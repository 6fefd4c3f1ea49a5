-- What the code keeps of CIEs, and what it finds out about FDEs.
use Rattle.std.specs.{Prelude.{◌≡◌, ℕ, List, [], ◌∷◌, Bool, true, false, Option, Some, None}, List.{AllByRecursion, AllZip, filter_map}}
use Rattle.dw_num.specs.declared.{refusal.Code.TheVariants.NoCfaRule, target.Target.Target}
use Rattle.dw_section.specs.{Among.IsAmong, Cut.Piece, Headers.{Head, cie, fde, Has, CieHolds}, Places.cie_places, Programs.{HasRules, LacksRule}}
use Rattle.dw_section.specs.{Stage.FirstStuck, declared.entry.Kind.Kind, declared.header.Initial.Initial, Inner.Heads.head_at, Inner.PieceHeader.{initial_head, initial_in}}
use Rattle.dw_section.specs.declared.entry.Kind.TheVariants as kind

abbrev pub place_of : Initial → ℕ
place_of c = c.at

-- the pieces that are CIEs
abbrev pub if_cie : Kind → Piece → Option Piece
if_cie kind.Cie p = Some p
if_cie kind.Fde p = None

abbrev pub cie_pieces : List Piece → List Piece
cie_pieces ps = filter_map (λ (p : Piece). if_cie p.kind p) ps

-- the fields of a piece that is a CIE
abbrev pub IsRead : Target → Piece → Initial → Type 0
IsRead target p c = (places : List ℕ) → Has target places p (initial_in c)

-- the CIEs among these pieces hold, stand at these places, and say this
pub record AreCies (target : Target) (ps : List Piece) (at : List ℕ) (cs : List Initial) : Type 0 where
  pub hold : AllByRecursion (CieHolds target) ps
  pub are : at ≡ cie_places ps
  pub read : AllZip (IsRead target) (cie_pieces ps) cs

-- this is what the CIEs among headers say
abbrev pub AreOf : List Head → List Initial → Type 0
AreOf [] cs = cs ≡ []
AreOf (cie c ∷ hs) cs = (first : Initial) × (more : List Initial) × (cs ≡ first ∷ more) × (c ≡ initial_head first) × AreOf hs more
AreOf (fde f ∷ hs) cs = AreOf hs cs

-- each is of a CIE among the headers
abbrev pub AreAmong : List Head → List Initial → Type 0
AreAmong hs cs = AllByRecursion (λ (c : Initial). IsAmong (initial_in c) hs) cs

-- whether an address of an FDE has no rule for the CFA
abbrev pub HasOrLacks : Target → List Head → Head → Bool → Type 0
HasOrLacks target hs h false = HasRules target hs h
HasOrLacks target hs h true = LacksRule target hs h (record { code = NoCfaRule; at = head_at h })

-- the first FDE with such an address
abbrev pub FirstLacking : Target → List Head → List Head → Option ℕ → Type 0
FirstLacking target hs front None = AllByRecursion (HasRules target hs) front
FirstLacking target hs front (Some at) = FirstStuck (HasRules target hs) (LacksRule target hs) front (record { code = NoCfaRule; at = at })
