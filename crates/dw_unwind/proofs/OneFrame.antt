-- A frame, or the first fault in its way, is one.
use Rattle.dw_section.specs.{Accepted.Accepted, Headers.Head, Overlap.{Range, AreApart, IsIndex, end_of}}
use Rattle.dw_unwind.proofs.Words.{◌≡◌, ℕ, ◌≤◌, List, [], ◌∷◌, sym, ap, subst, ◌∙◌, arith, inl, inr, AllByRecursion, AllZip, Target, Rules, Fde, OneFdes, OneHeaders, OneRules, IsAmong, Lists, Covers, NoneCovers}
use Rattle.dw_unwind.proofs.Words.{FrameIs, OneOfRow, IsCovered, IsUncovered, OneFrame}

-- ---- the FDE

module _ (hs : List Head) where
  -- what begins behind the others
  later : (x : Range) (index : List Range) (fs : List Fde) (g : Fde) → AllByRecursion (λ (b : Range). end_of x ≤ b.begin) index → AllZip (Lists hs) index fs → IsAmong g fs → end_of x ≤ g.begin
  later x [] [] g h z i = absurd i
  later x [] (f ∷ fs) g h z i = absurd z
  later x (b ∷ index) [] g h z i = absurd i
  later x (b ∷ index) (f ∷ fs) g h z (inl is) = subst (λ (d : Fde). end_of x ≤ d.begin) (sym is) (omega (arith, h.0, z.0.begin))
  later x (b ∷ index) (f ∷ fs) g h z (inr i) = later x index fs g h.1 z.1 i

  -- at most one FDE covers an address
  one_fde : (a : ℕ) (index : List Range) (fs : List Fde) (f g : Fde) → AreApart index → AllZip (Lists hs) index fs → IsAmong f fs → IsAmong g fs → Covers a f → Covers a g → f ≡ g
  one_fde a [] [] f g apart z i j cf cg = absurd i
  one_fde a [] (d ∷ fs) f g apart z i j cf cg = absurd z
  one_fde a (x ∷ index) [] f g apart z i j cf cg = absurd i
  one_fde a (x ∷ index) (d ∷ fs) f g apart z (inl is) (inl same) cf cg = is ∙ sym same
  one_fde a (x ∷ index) (d ∷ fs) f g apart z (inl is) (inr j) cf cg = grind (arith, later x index fs g apart.0 z.1 j)
  one_fde a (x ∷ index) (d ∷ fs) f g apart z (inr i) (inl same) cf cg = grind (arith, later x index fs f apart.0 z.1 i)
  one_fde a (x ∷ index) (d ∷ fs) f g apart z (inr i) (inr j) cf cg = one_fde a index fs f g apart.1 z.1 i j cf cg

none_there : (a : ℕ) (fs : List Fde) (f : Fde) → NoneCovers a fs → IsAmong f fs → Covers a f → ⊥
none_there a [] f none i covers = absurd i
none_there a (d ∷ fs) f none (inl is) covers = none.0 (subst (Covers a) is covers)
none_there a (d ∷ fs) f none (inr i) covers = none_there a fs f none.1 i covers

-- ranges have one order
abbrev OneOrder : Type 0
OneOrder = (hs : List Head) (index other : List Range) → IsIndex hs index → IsIndex hs other → index ≡ other

-- by the laws of sections
module _ (one_of_row : OneOfRow) (one_headers : OneHeaders) (one_order : OneOrder) (one_fdes : OneFdes) (one_rules : OneRules) where
  apart : (target : Target) (s : List ℕ) (a register : ℕ) (row : Rules) → IsUncovered target s a → IsCovered target s a register row → ⊥
  apart target s a register row v w = grind (arith, one_fdes target s v.0 w.fdes v.1 w.are, none_there)

  one_returns : (target : Target) (s : List ℕ) (a register other : ℕ) (row another : Rules) → Accepted target s → IsCovered target s a register row → IsCovered target s a other another → register ≡ other
  one_returns target s a register other row another accepted v w =
      let same : w.fdes ≡ v.fdes = one_fdes target s w.fdes v.fdes w.are v.are in
      let among = subst (λ (l : List Fde). IsAmong w.fde l) same w.among in
      let heads = one_headers target s v.are.headers accepted.1.0 v.are.are accepted.1.1.0.0.0 in
      let index : v.are.index ≡ accepted.0 = one_order accepted.1.0 v.are.index accepted.0 (subst (λ (l : List Head). IsIndex l v.are.index) heads v.are.is_index) accepted.1.2 in
      let fde = one_fde v.are.headers a v.are.index v.fdes v.fde w.fde (subst AreApart (sym index) accepted.2) v.are.each v.among among v.covers w.covers in
      v.returns ∙ ap (λ (d : Fde). d.return_register) fde ∙ sym w.returns

  pub one_frame : OneFrame
  one_frame target s pc c policy limit answer other bytes accepted (inl v) (inl w) = v.0 ∙ sym w.0
  one_frame target s pc c policy limit answer other bytes accepted (inl v) (inr w) = absurd (apart target s pc w.0 w.1 v.1 w.2)
  one_frame target s pc c policy limit answer other bytes accepted (inr v) (inl w) = absurd (apart target s pc v.0 v.1 w.1 v.2)
  one_frame target s pc c policy limit answer other bytes accepted (inr v) (inr w) =
      let register : w.0 ≡ v.0 = sym (one_returns target s pc v.0 w.0 v.1 w.1 accepted v.2 w.2) in
      let row = one_rules target s bytes accepted pc v.1 w.1 v.2.rules w.2.rules in
      let moved : FrameIs c limit policy w.1 v.0 other = subst (λ (n : ℕ). FrameIs c limit policy w.1 n other) register w.3 in
      one_of_row c limit policy v.1 v.0 answer other v.3 (subst (λ (r : Rules). FrameIs c limit policy r v.0 other) (sym row) moved)
