-- What is kept of CIEs as they are read, and what running their programs tells.
use Rattle.dw_section.proofs.Words.{◌≡◌, ◌≤◌, ℕ, List, [], ◌∷◌, length, refl, sym, ap, ◌∙◌, subst, arith, inl, inr, map, cons_option, AllByRecursion, AllZip, Target, Refusal, Kind, Piece, CieHead, Head, cie, fde, Has, Headers, Pieces}
use Rattle.dw_section.proofs.Words.{cie_places, place_if, place_of, CieHolds, CieStuck, CieRuns, CieBroken, FirstStuck, IsAmong, Initial, initial_in, cie_pieces, if_cie, IsRead, AreAmong, AreCies, AreOf, cie_ats, StandsIn}
use Rattle.dw_section.proofs.{Between.{Between, between_among}, Items.one_pieces, Lent.{HeaderLaws.{has_cie, has_one}, Heads.has_at}, Stages.{all_from_zip, here_or_later, stuck_here, later, none_first}, StandLaws.stands_in}
use Rattle.dw_section.specs.declared.entry.Kind.TheVariants as kind

-- ---- as they are read

-- the CIEs among pieces and their places, by what the first piece is
by_kind : (k : Kind) (p : Piece) → p.kind ≡ k → (P : List Piece → List ℕ → Type 0) (ps : List Piece) (at : List ℕ) → (p.kind ≡ kind.Cie → P (p ∷ ps) (p.at ∷ at)) → (p.kind ≡ kind.Fde → P ps at) → P (cons_option (if_cie k p) ps) (cons_option (place_if k p.at) at)
by_kind kind.Cie p is P ps at of_cie of_fde = of_cie is
by_kind kind.Fde p is P ps at of_cie of_fde = of_fde is

module _ (target : Target) where
  -- they are pieces, and stand at these places
  pub cie_among : (ps : List Piece) (q : Piece) → IsAmong q (cie_pieces ps) → IsAmong q ps × (q.kind ≡ kind.Cie)
  cie_among [] q i = absurd i
  cie_among (p ∷ ps) q i = by_kind p.kind p refl (λ xs at. IsAmong q xs → IsAmong q (p ∷ ps) × (q.kind ≡ kind.Cie)) (cie_pieces ps) []
      (λ is i. elim i [ inl e ↦ (inl e, rw e is) | inr j ↦ (let w = cie_among ps q j in (inr w.0, w.1)) ]) (λ is i. let w = cie_among ps q i in (inr w.0, w.1)) i

  pub piece_places : (ps : List Piece) → map (λ (q : Piece). q.at) (cie_pieces ps) ≡ cie_places ps
  piece_places [] = refl
  piece_places (p ∷ ps) = by_kind p.kind p refl (λ xs at. map (λ (q : Piece). q.at) xs ≡ at) (cie_pieces ps) (cie_places ps) (λ is. ap (λ (l : List ℕ). p.at ∷ l) (piece_places ps)) (λ is. piece_places ps)

  -- where these hold, all pieces do
  pub all_hold : (ps : List Piece) → AllByRecursion (CieHolds target) (cie_pieces ps) → AllByRecursion (CieHolds target) ps
  all_hold [] hold = tt
  all_hold (p ∷ ps) hold = by_kind p.kind p refl (λ xs at. AllByRecursion (CieHolds target) xs → AllByRecursion (CieHolds target) (p ∷ ps)) (cie_pieces ps) [] (λ is hold. (hold.0, all_hold ps hold.1)) (λ is hold. ((λ e. absurd cc), all_hold ps hold)) hold

  -- and the first of them that is stuck is the first of all
  pub first_cie : (ps : List Piece) (r : Refusal) → FirstStuck (CieHolds target) (CieStuck target) (cie_pieces ps) r → FirstStuck (CieHolds target) (CieStuck target) ps r
  first_cie [] r w = w
  first_cie (p ∷ ps) r w = by_kind p.kind p refl (λ xs at. FirstStuck (CieHolds target) (CieStuck target) xs r → FirstStuck (CieHolds target) (CieStuck target) (p ∷ ps) r) (cie_pieces ps) []
      (λ is w. elim (here_or_later (CieHolds target) (CieStuck target) _ r w p (cie_pieces ps) refl) [
        | inl stuck ↦ stuck_here (CieHolds target) (CieStuck target) p ps r stuck
        | inr rest ↦ later (CieHolds target) (CieStuck target) p ps r rest.0 (first_cie ps r rest.1)
      ])
      (λ is w. later (CieHolds target) (CieStuck target) p ps r (λ e. absurd cc) (first_cie ps r w)) w

  -- what is read holds
  pub read_holds : (ps : List Piece) (cs : List Initial) → AllZip (IsRead target) ps cs → AllByRecursion (CieHolds target) ps
  read_holds ps cs read = all_from_zip (IsRead target) (CieHolds target) (λ p c is. has_cie target [] p (initial_in c) (is [])) ps cs read

-- the next of them, where the places are known that are left
next_of : (ps : List Piece) (at : ℕ) (more : List ℕ) → map (λ (q : Piece). q.at) ps ≡ at ∷ more → (p : Piece) × (rest : List Piece) × (ps ≡ p ∷ rest) × (p.at ≡ at) × (map (λ (q : Piece). q.at) rest ≡ more)
next_of [] at more e = absurd cc
next_of (p ∷ ps) at more e = (p, ps, refl, cc, cc)

pub next_cie : {Left Front : List Piece → Type 0} (target : Target) (s : List ℕ) (ps : List Piece) (at : ℕ) (more : List ℕ) → Pieces target s ps → (w : Between Left Front (cie_pieces ps)) → map (λ (q : Piece). q.at) w.rest ≡ at ∷ more
    → (p : Piece) × (rest : List Piece) × (w.rest ≡ p ∷ rest) × (p.at ≡ at) × (map (λ (q : Piece). q.at) rest ≡ more) × StandsIn target.order s p × (p.kind ≡ kind.Cie)
next_cie target s ps at more cut w e =
    let n = next_of w.rest at more e in
    let among = cie_among target ps n.0 (between_among (cie_pieces ps) w n.0 n.1 n.2) in
    (n.0, n.1, n.2, n.3, n.4, stands_in target s ps n.0 cut among.0, among.1)

pub none_of : {left : List ℕ} (ps : List Piece) → map (λ (q : Piece). q.at) ps ≡ left → length left ≤ 0 → ps ≡ []
none_of [] e none = refl
none_of (p ∷ ps) e none = absurd (omega (arith, ap length e, none))

-- ---- among headers

module _ (target : Target) (places : List ℕ) where
  of_cie : (p : Piece) (ps : List Piece) (h : Head) (hs : List Head) (cs : List Initial) → Has target places p h → AllZip (IsRead target) (p ∷ ps) cs → ((more : List Initial) → AllZip (IsRead target) ps more → AreOf hs more) → AreOf (h ∷ hs) cs
  of_cie p ps h hs [] has read rest = absurd read
  of_cie p ps h hs (c ∷ cs) has read rest = rw (has_one target places p h (initial_in c) has (read.0 places)) (c, cs, refl, refl, rest cs read.1)

  pub are_of : (ps : List Piece) (hs : List Head) (cs : List Initial) → AllZip (Has target places) ps hs → AllZip (IsRead target) (cie_pieces ps) cs → AreOf hs cs
  are_of [] [] [] z read = refl
  are_of (p ∷ ps) (h ∷ hs) cs z read = by_kind p.kind p refl (λ xs at. AllZip (IsRead target) xs cs → AreOf (h ∷ hs) cs) (cie_pieces ps) [] (λ is each. of_cie p (cie_pieces ps) h hs cs z.0 each (λ more. are_of ps hs more z.1))
      (λ is each. elim z.0 [ inl c ↦ (let a = c.2.0 in absurd cc) | inr f ↦ rw f.3 (are_of ps hs cs z.1 each) ]) read
  are_of ps hs cs z read = absurd assumption

pub of_headers : (target : Target) (s : List ℕ) (ps : List Piece) (at : List ℕ) (cs : List Initial) → Pieces target s ps → AreCies target ps at cs → (hs : List Head) → Headers target s hs → AreOf hs cs
of_headers target s ps at cs cut w hs headers =
    are_of target (cie_places headers.entries) headers.entries hs cs headers.each (subst (λ (qs : List Piece). AllZip (IsRead target) (cie_pieces qs) cs) (one_pieces target s ps headers.entries cut headers.cut) w.read)

-- some headers say this
pub some_headers : (cs : List Initial) → AreOf (map initial_in cs) cs
some_headers [] = refl
some_headers (c ∷ cs) = (c, cs, refl, refl, some_headers cs)

-- ---- where they stand

at_each : (target : Target) (ps : List Piece) (cs : List Initial) → AllZip (IsRead target) ps cs → map place_of cs ≡ map (λ (p : Piece). p.at) ps
at_each target [] [] read = refl
at_each target (p ∷ ps) (c ∷ cs) read = let at : c.at ≡ p.at = has_at target [] p (initial_in c) (read.0 []) in rw (at, at_each target ps cs read.1) refl
at_each target ps cs read = absurd read

pub places_are : (target : Target) (ps : List Piece) (at : List ℕ) (cs : List Initial) → AreCies target ps at cs → map place_of cs ≡ at
places_are target ps at cs w = at_each target (cie_pieces ps) cs w.read ∙ piece_places target ps ∙ sym w.are

-- each is among all headers
of_among : (all hs : List Head) (cs : List Initial) → ((h : Head) → IsAmong h hs → IsAmong h all) → AreOf hs cs → AreAmong all cs
of_among all [] cs in_all of = rw of tt
of_among all (fde f ∷ hs) cs in_all of = of_among all hs cs (λ h i. in_all h (inr i)) of
of_among all (cie c ∷ hs) cs in_all of = rw of.2 (subst (λ (x : CieHead). IsAmong (cie x) all) of.3 (in_all (cie c) (inl refl)), of_among all hs of.1 (λ h i. in_all h (inr i)) of.4)

pub all_among : (hs : List Head) (cs : List Initial) → AreOf hs cs → AreAmong hs cs
all_among hs cs of = of_among hs hs cs (λ h i. i) of

pub places_among : (hs : List Head) (cs : List Initial) → AreOf hs cs → map place_of cs ≡ cie_ats hs
places_among [] cs of = rw of refl
places_among (fde f ∷ hs) cs of = places_among hs cs of
places_among (cie c ∷ hs) cs of =
    let at = ap (λ (x : CieHead). x.at) of.3 in
    let places = places_among hs of.1 of.4 in
    rw of.2 cc

-- ---- as they run

-- where the programs of all of them run, the CIEs among the headers do
pub all_ran : (target : Target) (hs : List Head) (cs : List Initial) → AreOf hs cs → AllByRecursion (λ (c : Initial). CieRuns target (initial_in c)) cs → AllByRecursion (CieRuns target) hs
all_ran target [] cs of ran = tt
all_ran target (fde f ∷ hs) cs of ran = (tt, all_ran target hs cs of ran)
all_ran target (cie c ∷ hs) cs of ran = let each = rw of.2 at ran in (subst (λ (x : CieHead). CieRuns target (cie x)) (sym of.3) each.0, all_ran target hs of.1 of.4 each.1)

-- and the first of them that does not run is the first CIE that does not
pub first_broken : (target : Target) (hs : List Head) (cs : List Initial) (r : Refusal) → AreOf hs cs → FirstStuck (λ (c : Initial). CieRuns target (initial_in c)) (λ (c : Initial). CieBroken target (initial_in c)) cs r
    → FirstStuck (CieRuns target) (CieBroken target) hs r
first_broken target [] cs r of w = absurd (none_first _ _ r (rw of at w))
first_broken target (fde f ∷ hs) cs r of w = later (CieRuns target) (CieBroken target) (fde f) hs r tt (first_broken target hs cs r of w)
first_broken target (cie d ∷ hs) cs r of w = elim (here_or_later (λ (c : Initial). CieRuns target (initial_in c)) (λ (c : Initial). CieBroken target (initial_in c)) cs r w of.0 of.1 of.2) [
  | inl broken ↦ stuck_here (CieRuns target) (CieBroken target) (cie d) hs r (subst (λ (x : CieHead). CieBroken target (cie x) r) (sym of.3) broken)
  | inr rest ↦ later (CieRuns target) (CieBroken target) (cie d) hs r (subst (λ (x : CieHead). CieRuns target (cie x)) (sym of.3) rest.0) (first_broken target hs of.1 r of.4 rest.1)
]
