-- The frame of a row, or the first fault in its way, is one.
use Rattle.dw_eval.proofs.Lent.Results.{same_value}
use Rattle.dw_row.specs.declared.rule.CfaRule.TheVariants as cfa
use Rattle.dw_row.specs.declared.rule.RegRule.TheVariants as rules
use Rattle.dw_frame.proofs.Words.{◌≡◌, ℕ, suc, ◌≤◌, List, [], ◌∷◌, Option, Result, Ok, Err, refl, sym, ap, subst, ◌∙◌, arith, inl, inr, AllByRecursion, Expression, CfaRule, RegRule}
use Rattle.dw_frame.proofs.Words.{Rules, rule, Context, IsAmong, Column, Frame, Policy, UnwindError, in_column, recovered, on_value, saved_at, on_cfa}
use Rattle.dw_frame.proofs.{Words.{ValueIs, SavedBy, CfaIs, RegisterIs, IsListed, Recovers, AreRegisters, RegistersAre, FrameIs, Rise}, Elements.all_among, FrameLaws.pairs_rise}

-- ---- columns

module _ (c : Context) (limit : ℕ) where
  one_value : (column : Column) (e : Expression) (first : List ℕ) (a b : Result ℕ UnwindError) → ValueIs c limit column e first a → ValueIs c limit column e first b → a ≡ b
  one_value column e first a b v w = v.is ∙ ap (in_column column) (same_value e.ops c first limit v.evaluated w.evaluated v.evaluates w.evaluates) ∙ sym w.is

  one_cfa : (rule : CfaRule) (a b : Result ℕ UnwindError) → CfaIs c limit rule a → CfaIs c limit rule b → a ≡ b
  one_cfa cfa.Unset a b v w = absurd v
  one_cfa (cfa.Register r n) a b v w = v ∙ sym w
  one_cfa (cfa.Expression e) a b v w = one_value _ e [] a b v w

  one_saved : (column : Column) (cfa : ℕ) (e : Expression) (a b : Result ℕ UnwindError) → SavedBy c limit column cfa e a → SavedBy c limit column cfa e b → a ≡ b
  one_saved column cfa e a b v w = v.2 ∙ ap (λ (r : Result ℕ UnwindError). on_value r (saved_at c limit column)) (one_value column e (on_cfa c limit cfa) v.0 w.0 v.1 w.1) ∙ sym w.2

  one_register : (policy : Policy) (cfa r : ℕ) (rule : RegRule) (a b : Result (Option ℕ) UnwindError) → RegisterIs c limit policy cfa r rule a → RegisterIs c limit policy cfa r rule b → a ≡ b
  one_register policy cfa r (rules.Expression e) a b v w = v.2 ∙ ap recovered (one_saved _ cfa e v.0 w.0 v.1 w.1) ∙ sym w.2
  one_register policy cfa r (rules.ValExpression e) a b v w = v.2 ∙ ap recovered (one_value _ e (on_cfa c limit cfa) v.0 w.0 v.1 w.1) ∙ sym w.2
  one_register policy cfa r rule a b v w = v ∙ sym w

-- ---- registers

abbrev Entry : Type 0
Entry = ℕ × Option ℕ

above : (low : ℕ) (x : Entry) (es : List Entry) → Rise low es → IsAmong x es → low ≤ x.0
above low x [] up i = absurd i
above low x (e ∷ es) up (inl is) = let same : x.0 ≡ e.0 = ap (λ (y : Entry). y.0) is in omega (arith, up.0, same)
above low x (e ∷ es) up (inr i) = let p = above (suc e.0) x es up.1 i in omega (arith, up.0, p)

same_entry : (x y : Entry) → x.0 ≡ y.0 → x.1 ≡ y.1 → x ≡ y
same_entry x y e f = let p : (x.0, x.1) ≡ (y.0, x.1) = ap (λ (n : ℕ). let z : Entry = (n, x.1) in z) e in let q : (y.0, x.1) ≡ (y.0, y.1) = ap (λ (v : Option ℕ). let z : Entry = (y.0, v) in z) f in p ∙ q

-- lists of the same registers with one value each are the same
module _ (Listed : ℕ → Type 0) (P : ℕ → Option ℕ → Type 0) (one : (r : ℕ) (v w : Option ℕ) → P r v → P r w → v ≡ w) where
  abbrev Each : List Entry → Type 0
  Each es = AllByRecursion (λ (e : Entry). Listed e.0 × P e.0 e.1) es

  abbrev All : ℕ → List Entry → Type 0
  All low es = (r : ℕ) → low ≤ r → Listed r → (v : Option ℕ) × IsAmong (r, v) es

  rest_has : (x : Entry) (es : List Entry) (low : ℕ) → low ≤ x.0 → All low (x ∷ es) → All (suc x.0) es
  rest_has x es low le all = grind arith

  same_list : (low : ℕ) (es fs : List Entry) → Rise low es → Rise low fs → Each es → Each fs → All low es → All low fs → es ≡ fs
  same_list low [] [] up down each every all others = refl
  same_list low [] (y ∷ fs) up down each every all others = absurd (all y.0 down.0 every.0.0).1
  same_list low (x ∷ es) [] up down each every all others = absurd (others x.0 up.0 each.0.0).1
  same_list low (x ∷ es) (y ∷ fs) up down each every all others =
      let low_x : Rise x.0 (x ∷ es) = (omega arith, up.1) in
      let low_y : Rise y.0 (y ∷ fs) = (omega arith, down.1) in
      let xy : x.0 ≤ y.0 = let i = all y.0 down.0 every.0.0 in above x.0 (y.0, i.0) (x ∷ es) low_x i.1 in
      let yx : y.0 ≤ x.0 = let i = others x.0 up.0 each.0.0 in above y.0 (x.0, i.0) (y ∷ fs) low_y i.1 in
      let same : x.0 ≡ y.0 = omega (arith, xy, yx) in
      let values : x.1 ≡ y.1 = one y.0 x.1 y.1 (subst (λ (n : ℕ). P n x.1) same each.0.1) every.0.1 in
      let rest = same_list (suc y.0) es fs (subst (λ (n : ℕ). Rise (suc n) es) same up.1) down.1 each.1 every.1
      (subst (λ (n : ℕ). All (suc n) es) same (rest_has x es low up.0 all)) (rest_has y fs low down.0 others) in
      ap (λ (e : Entry). e ∷ es) (same_entry x y same values) ∙ ap (λ (l : List Entry). y ∷ l) rest

module _ (c : Context) (limit : ℕ) (policy : Policy) (row : Rules) (register : ℕ) where
  abbrev Listed : ℕ → Type 0
  Listed r = IsListed c limit policy row register r

  abbrev Is : ℕ → ℕ → Result (Option ℕ) UnwindError → Type 0
  Is cfa r answer = Recovers c limit policy row register cfa r answer

  one_recovered : (cfa r : ℕ) (a b : Result (Option ℕ) UnwindError) → Is cfa r a → Is cfa r b → a ≡ b
  one_recovered cfa r a b v w = one_register c limit policy cfa r (rule row r) a b v w

  one_ok : (cfa r : ℕ) (a b : Option ℕ) → Is cfa r (Ok a) → Is cfa r (Ok b) → a ≡ b
  one_ok cfa r a b v w = let same = one_recovered cfa r (Ok a) (Ok b) v w in cc

  ok_apart : (cfa r : ℕ) (a : Option ℕ) (e : UnwindError) → Is cfa r (Ok a) → Is cfa r (Err e) → ⊥
  ok_apart cfa r a e v w = let same = one_recovered cfa r (Ok a) (Err e) v w in absurd cc

  one_error : (cfa r : ℕ) (e f : UnwindError) → Is cfa r (Err e) → Is cfa r (Err f) → e ≡ f
  one_error cfa r e f v w = let same = one_recovered cfa r (Err e) (Err f) v w in cc

  same_registers : (cfa : ℕ) (es fs : List Entry) → AreRegisters c limit policy row register cfa es → AreRegisters c limit policy row register cfa fs → es ≡ fs
  same_registers cfa es fs v w =
      same_list Listed (λ r a. Is cfa r (Ok a)) (one_ok cfa) 0 es fs (pairs_rise 0 es (λ i d lt. omega arith) v.rise) (pairs_rise 0 fs (λ i d lt. omega arith) w.rise) v.each w.each (λ r le is. v.all r is) (λ r le is. w.all r is)

  registers_apart : (cfa : ℕ) (es : List Entry) (e : UnwindError) → AreRegisters c limit policy row register cfa es → RegistersAre c limit policy row register cfa (Err e) → ⊥
  registers_apart cfa es e v w = grind (arith, all_among, ok_apart)

  registers_error : (cfa : ℕ) (e f : UnwindError) → RegistersAre c limit policy row register cfa (Err e) → RegistersAre c limit policy row register cfa (Err f) → e ≡ f
  registers_error cfa e f v w = grind (arith, ok_apart, one_error)

  abbrev Cfa : Result ℕ UnwindError → Type 0
  Cfa answer = CfaIs c limit row.cfa answer

  cfa_same : (a b : ℕ) → Cfa (Ok a) → Cfa (Ok b) → b ≡ a
  cfa_same a b v w = let same = one_cfa c limit row.cfa (Ok a) (Ok b) v w in cc

  cfa_apart : (a : ℕ) (e : UnwindError) → Cfa (Ok a) → Cfa (Err e) → ⊥
  cfa_apart a e v w = let same = one_cfa c limit row.cfa (Ok a) (Err e) v w in absurd cc

  frame_apart : (a : Frame) (e : UnwindError) → FrameIs c limit policy row register (Ok a) → FrameIs c limit policy row register (Err e) → ⊥
  frame_apart a e v (inl w) = cfa_apart a.cfa e v.0 w
  frame_apart a e v (inr w) = registers_apart a.cfa a.registers e v.2 (subst (λ (n : ℕ). RegistersAre c limit policy row register n (Err e)) (cfa_same a.cfa w.0 v.0 w.1) w.2)

  same_frame : (a b : Frame) → FrameIs c limit policy row register (Ok a) → FrameIs c limit policy row register (Ok b) → a ≡ b
  same_frame a b v w = grind (arith, cfa_same, same_registers)

  frame_error : (e f : UnwindError) → FrameIs c limit policy row register (Err e) → FrameIs c limit policy row register (Err f) → e ≡ f
  frame_error e f (inl v) (inl w) = let same = one_cfa c limit row.cfa (Err e) (Err f) v w in cc
  frame_error e f (inl v) (inr w) = absurd (cfa_apart w.0 e w.1 v)
  frame_error e f (inr v) (inl w) = absurd (cfa_apart v.0 f v.1 w)
  frame_error e f (inr v) (inr w) = registers_error v.0 e f v.2 (subst (λ (n : ℕ). RegistersAre c limit policy row register n (Err f)) (cfa_same v.0 w.0 v.1 w.1) w.2)

  pub one_of_row : (a b : Result Frame UnwindError) → FrameIs c limit policy row register a → FrameIs c limit policy row register b → a ≡ b
  one_of_row (Ok a) (Ok b) v w = ap Ok (same_frame a b v w)
  one_of_row (Ok a) (Err f) v w = absurd (frame_apart a f v w)
  one_of_row (Err e) (Ok b) v w = absurd (frame_apart b e w v)
  one_of_row (Err e) (Err f) v w = ap Err (frame_error e f v w)
