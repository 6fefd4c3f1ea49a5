-- The walk that reads the fields of FDEs and runs their programs.
use Rattle.dw_section.proofs.Words.{◌<◌, ◌≤◌, ℕ, List, Option, Some, None, sym, subst, inl, inr, IfSome, AllByRecursion, Target, address_limit, Refusal, Piece, Pieces, FirstStuck, Head, Has, Headers, HeadersFault}
use Rattle.dw_section.proofs.{Words.{FdeHolds, FdeStuck, IsAt, FdeEntry, SaysFde, Tells, entry_in, Initial, AreCies}, Left.headers_so, Lent.HeaderLaws.{has_fde, has_one, heads_of}, Lent.Heads.{has_at, has_fits}}

-- ---- a piece

module _ (target : Target) (places : List ℕ) (p : Piece) where
  pub says_holds : (e : Option FdeEntry) → SaysFde target places p e → FdeHolds target places p
  says_holds None says = λ is. absurd cc
  says_holds (Some e) says = has_fde target places p (entry_in e) says

  pub says_tells : (e : Option FdeEntry) (h : Head) → SaysFde target places p e → Has target places p h → Tells e h
  says_tells None h says (inl c) = subst (Tells None) (sym c.3) tt
  says_tells None h says (inr f) = let is = f.2.0 in absurd cc
  says_tells (Some e) h says has = has_one target places p h (entry_in e) has says

  pub says_fits : (e : Option FdeEntry) (found : ℕ) → p.at ≤ 2147483647 → SaysFde target places p e → IfSome e (λ f. IsAt places found f.cie_at)
      → IfSome e (λ f. (f.at ≤ 2147483647) × (f.begin < address_limit target.size) × IsAt places found f.cie_at)
  says_fits None found le says at = tt
  says_fits (Some e) found le says at = (subst (λ (n : ℕ). n ≤ 2147483647) (sym (has_at target places p (entry_in e) says)) le, (has_fits target places p (entry_in e) says).0, at)

-- ---- a section whose CIEs hold

module _ (target : Target) (s : List ℕ) (ps : List Piece) (at : List ℕ) (cs : List Initial) (cut : Pieces target s ps) (w : AreCies target ps at cs) where
  pub headers_exist : AllByRecursion (FdeHolds target at) ps → (hs : List Head) × Headers target s hs
  headers_exist fdes = let heads = heads_of target at ps w.hold fdes in (heads.0, headers_so target s ps at heads.0 cut w.are heads.1)

  pub fields_fault : (r : Refusal) → FirstStuck (FdeHolds target at) (FdeStuck target at) ps r → HeadersFault target s r
  fields_fault r stuck = inr (ps, (cut, w.hold), subst (λ (l : List ℕ). FirstStuck (FdeHolds target l) (FdeStuck target l) ps r) w.are stuck)
