-- What is read is spelled so.
use Rattle.std.specs.Int.{cast_signed}
use Rattle.dw_op.proofs.Words.{◌≡◌, ℕ, ◌-◌, ◌%◌, ◌<◌, ◌≤◌, Bool, true, false, eqb, List, [], ◌∷◌, ◌++◌, length, Option, Some, None, refl, sym, ap, subst, ◌∙◌, arith, inl, inr, ℤ, nat_le, ◌&&◌, byte_len, nat_tests, cases_Bool, eqb-true, le-leb, lt-ltb}
use Rattle.dw_op.proofs.Words.{le-ltb, bind_ok, cond_ok, Takes-then, take_found, BadDerefSize, NotInFrame, Target, Size, byte_count, address_limit, Input, AreBytes, Takes, IsWidth, Fixed, FixedSigned, Uleb, fixed_at, uleb_at}
use Rattle.dw_op.proofs.Words.{done, ok_is, uleb_found, register_found, sleb_found, taken_bytes, fixed_found, address_found, byte_found, Op, Const, Reg, Breg, Profile, Frame, Location, Step, Plain, Jump, branch_target, in_frame}
use Rattle.dw_op.proofs.Words.{FieldSpells, OpFormSpells, StepSpells, branch_code, step_in_frame, step_allowed, Field, FieldValue, OpForm, op_form_table, form_of, look_up, in_range, blank, form_in_frame, allows, signed_in, sized_in, counted_in}
use Rattle.dw_op.proofs.{Words.{value_at, with_op, with_jump, then_value, branch_in, step_of, judged, after_code, step_at}, Signed.signed_spelled}
use Rattle.dw_num.specs.declared.target.Size.TheVariants as sizes
use Rattle.dw_op.specs.Operands as fields

-- ---- tables

pub some_is : {A : Type 0} (a b : A) → Some a ≡ Some b → a ≡ b
some_is a b e = cc

-- P of each entry of a table
abbrev pub EachEntry : {A : Type 0} → (A → ℕ → Type 0) → List (ℕ × A) → Type 0
EachEntry P [] = Unit {0}
EachEntry P (entry ∷ table) = P entry.1 entry.0 × EachEntry P table

pub looked_up : {A : Type 0} (P : A → ℕ → Type 0) (table : List (ℕ × A)) (code : ℕ) (a : A) → EachEntry P table → look_up table code ≡ Some a → P a code
looked_up P [] code a h e = absurd cc
looked_up {A} P (entry ∷ table) code a h e = elim (cases_Bool (eqb code entry.0)) [
  | inl y ↦
      let k : Some entry.1 ≡ Some a = rw y at e in
      subst (λ (x : A). P x code) (some_is entry.1 a k) (subst (λ (c : ℕ). P entry.1 c) (sym (eqb-true code entry.0 y)) h.0)
  | inr n ↦ looked_up P table code a h.1 (rw n at e)
]

infixr 2 ◌&◌
pub ◌&◌ : {A B : Type 0} → A → B → A × B
a & b = (a, b)

pub range_is : (low high code : ℕ) → in_range low high code ≡ true → (low ≤ code) × (code < high)
range_is low high code e = (grind (arith, nat_tests), grind (arith, nat_tests))

pub within : (low high code : ℕ) → low ≤ code → code < high → in_range low high code ≡ true
within low high code from to = rw (le-leb low code from, lt-ltb code high to) refl

pub above : (low high code : ℕ) → low ≤ high → high ≤ code → in_range low high code ≡ false
above low high code le from = rw (le-leb low code (omega arith), le-ltb code high from) refl

-- the codes of DW_OP_breg0 to DW_OP_breg31
pub breg_form : (t : Target) (code : ℕ) → 0x70 ≤ code → code < 0x90 → form_of t code ≡ Some (fields.one fields.signed (Breg (code - 0x70)))
unfolding form_of
breg_form t code from to = rw (above 0x30 0x50 code (omega arith) (omega arith), above 0x50 0x70 code (omega arith) (omega arith), within 0x70 0x90 code from to) refl

pub small_const : (s : Size) (n : ℕ) → n < 256 → n ≡ n % address_limit s
small_const sizes.Four n lt = omega arith
small_const sizes.Eight n lt = omega arith

-- ---- what is known of the forms of the table

-- the widths that numbers have
abbrev pub Wide : Field → Type 0
Wide (fields.fixed n) = IsWidth n
Wide (fields.twos w) = IsWidth (byte_len w)
Wide other = Unit {0}

abbrev pub FormWide : OpForm → Type 0
FormWide (fields.one o make) = Wide o
FormWide (fields.two o p make) = Wide o × Wide p
FormWide other = Unit {0}

-- an operation that is no branch, which a frame's expression may hold or not
abbrev Quiet : Bool → Op → Type 0
Quiet framed op = (branch_target op ≡ None) × (in_frame op ≡ framed)

-- what the operations of a form are
abbrev pub Makes : OpForm → ℕ → Type 0
Makes (fields.none op) code = branch_target op ≡ None
Makes (fields.one o make) code = (x : FieldValue o) → Quiet (in_frame (make (blank o))) (make x)
Makes (fields.two o p make) code = (x : FieldValue o) (y : FieldValue p) → Quiet (in_frame (make (blank o) (blank p))) (make x y)
Makes (fields.branch to) code = ((i : ℕ) → (branch_target (to i) ≡ Some i) × (in_frame (to i) ≡ true)) × (code ≡ branch_code (branch_in to))

abbrev pub Known : OpForm → ℕ → Type 0
Known form code = FormWide form × Makes form code

module _ (t : Target) where
  known_entries : EachEntry Known (op_form_table t)
  known_entries =
      (tt, λ x. (refl, refl)) & (tt, refl)
      & (inl refl, λ x. (refl, refl)) & (inl refl, λ x. (refl, refl)) & (inr (inl refl), λ x. (refl, refl)) & (inr (inl refl), λ x. (refl, refl))
      & (inr (inr (inl refl)), λ x. (refl, refl)) & (inr (inr (inl refl)), λ x. (refl, refl)) & (inr (inr (inr refl)), λ x. (refl, refl)) & (inr (inr (inr refl)), λ x. (refl, refl))
      & (tt, λ x. (refl, refl)) & (tt, λ x. (refl, refl)) & (tt, refl) & (tt, refl) & (tt, refl) & (inl refl, λ x. (refl, refl))
      & (tt, refl) & (tt, refl) & (tt, refl) & (tt, refl) & (tt, refl) & (tt, refl) & (tt, refl) & (tt, refl) & (tt, refl) & (tt, refl) & (tt, refl) & (tt, refl)
      & (tt, λ x. (refl, refl)) & (tt, refl) & (tt, refl) & (tt, refl) & (tt, refl)
      & (tt, ((λ i. (refl, refl)), refl)) & (tt, refl) & (tt, refl) & (tt, refl) & (tt, refl) & (tt, refl) & (tt, refl) & (tt, ((λ i. (refl, refl)), refl))
      & (tt, λ x. (refl, refl)) & (tt, λ x. (refl, refl)) & ((tt, tt), λ x y. (refl, refl)) & (tt, λ x. (refl, refl)) & (tt, λ x. (refl, refl))
      & (tt, refl) & (tt, refl) & (tt, refl) & ((tt, tt), λ x y. (refl, refl)) & (tt, λ x. (refl, refl)) & (tt, refl) & tt

  pub form_known : (code : ℕ) (form : OpForm) → form_of t code ≡ Some form → Known form code
  unfolding form_of
  form_known code form e = elim (cases_Bool (in_range 0x30 0x50 code)) [
    | inl y ↦ subst (λ (f : OpForm). Known f code) (some_is (fields.none (Const (code - 0x30))) form (rw y at e)) (tt, refl)
    | inr n ↦ let e1 = rw n at e in elim (cases_Bool (in_range 0x50 0x70 code)) [
      | inl y ↦ subst (λ (f : OpForm). Known f code) (some_is (fields.none (Reg (code - 0x50))) form (rw y at e1)) (tt, refl)
      | inr m ↦ let e2 = rw m at e1 in elim (cases_Bool (in_range 0x70 0x90 code)) [
        | inl y ↦ subst (λ (f : OpForm). Known f code) (some_is (fields.one fields.signed (Breg (code - 0x70))) form (rw y at e2)) (tt, λ z. (refl, refl))
        | inr k ↦ looked_up Known (op_form_table t) code form known_entries (rw k at e2)
      ]
    ]
  ]

-- ---- what is read of a form is spelled so

sized_so : (most n : ℕ) → (nat_le 1 n && nat_le n most) ≡ true → (1 ≤ n) × (n ≤ most)
sized_so most n e = (grind (arith, nat_tests), grind (arith, nat_tests))

value_found : (o : Field) (i new : Input) (x : FieldValue o) → Wide o → AreBytes i.bytes → value_at o i ≡ done (x, new) → (b : List ℕ) × FieldSpells i.target o x b × Takes i b new
value_found (fields.fixed n) i new x w h e = fixed_found n i new x w h e
value_found (fields.twos w) i new x w' h e =
    let p = bind_ok (fixed_at (byte_len w) i) (signed_in w) (x, new) e in
    let q = fixed_found (byte_len w) i p.0.1 p.0.0 w' h p.1 in
    subst (λ (y : ℤ × Input). (b : List ℕ) × FixedSigned i.target.order w y.0 b × Takes i b y.1) (ok_is (cast_signed w p.0.0, p.0.1) (x, new) p.2) (q.0, signed_spelled w i.target.order p.0.0 q.0 q.1, q.2)
value_found fields.address i new x w h e = address_found i new x h e
value_found fields.unsigned i new x w h e = uleb_found i new x h e
value_found fields.signed i new x w h e = sleb_found i new x h e
value_found fields.register i new x w h e = register_found i new x h e
value_found fields.size i new x w h e =
    let most = byte_count i.target.size in
    let p = bind_ok (fixed_at 1 i) (sized_in most i.at) (x, new) e in
    let q = fixed_found 1 i p.0.1 p.0.0 (inl refl) h p.1 in
    let k = cond_ok (nat_le 1 p.0.0 && nat_le p.0.0 most) (done p.0) (record { code = BadDerefSize; at = i.at }) (x, new) p.2 in
    subst (λ (y : ℕ × Input). (b : List ℕ) × FieldSpells i.target fields.size y.0 b × Takes i b y.1) (ok_is p.0 (x, new) k.1)
    (q.0, (q.1, (sized_so most p.0.0 k.0).0, (sized_so most p.0.0 k.0).1), q.2)
value_found fields.block i new x w h e =
    let p = bind_ok (uleb_at i) counted_in (x, new) e in
    let q = uleb_found i p.0.1 p.0.0 h p.1 in
    let u = take_found p.0.0 p.0.1 new x p.2 in
    (q.0 ++ x, record { front = q.0; back = x; first = subst (λ (n : ℕ). Uleb n q.0) (sym u.1) q.1; second = refl; whole = refl }, Takes-then i p.0.1 new q.0 x q.2 u.0)

-- bytes spell the fields of a form, which make the step
abbrev pub StepForm : Target → OpForm → Step → List ℕ → Type 0
StepForm t (fields.branch to) step b = (n : ℕ) × (step ≡ Jump (branch_in to) n) × Fixed t.order 2 n b
StepForm t form step b = (op : Op) × (step ≡ Plain op) × OpFormSpells t form op b

abbrev Found : OpForm → Input → Step × Input → Type 0
Found form i x = (b : List ℕ) × StepForm i.target form x.0 b × Takes i b x.1

form_found : (form : OpForm) (i : Input) (x : Step × Input) → FormWide form → AreBytes i.bytes → step_of form i ≡ done x → Found form i x
form_found (fields.none made) i x w h e = subst (Found (fields.none made) i) (ok_is (Plain made, i) x e) ([], (made, refl, (refl, refl)), record { bytes = refl; at = omega arith; target = refl })
form_found (fields.one o make) i x w h e =
    let p = bind_ok (value_at o i) (with_op make) x e in
    let q = value_found o i p.0.1 p.0.0 w h p.1 in
    subst (Found (fields.one o make) i) (ok_is (Plain (make p.0.0), p.0.1) x p.2) (q.0, (make p.0.0, refl, (p.0.0, refl, q.1)), q.2)
form_found (fields.two o p make) i x w h e =
    let one = bind_ok (value_at o i) (then_value p make) x e in
    let q = value_found o i one.0.1 one.0.0 w.0 h one.1 in
    let two = bind_ok (value_at p one.0.1) (with_op (make one.0.0)) x one.2 in
    let u = value_found p one.0.1 two.0.1 two.0.0 w.1 (taken_bytes i one.0.1 q.0 q.2 h) two.1 in
    let spelled = subst (λ (t : Target). FieldSpells t p two.0.0 u.0) q.2.target u.1 in
    subst (Found (fields.two o p make) i) (ok_is (Plain (make one.0.0 two.0.0), two.0.1) x two.2)
    (q.0 ++ u.0, (make one.0.0 two.0.0, refl, (one.0.0, two.0.0, refl, record { front = q.0; back = u.0; first = q.1; second = spelled; whole = refl {a = q.0 ++ u.0} })), Takes-then i one.0.1 two.0.1 q.0 u.0 q.2 u.2)
form_found (fields.branch to) i x w h e =
    let p = bind_ok (fixed_at 2 i) (with_jump (branch_in to)) x e in
    let q = fixed_found 2 i p.0.1 p.0.0 (inr (inl refl)) h p.1 in
    subst (Found (fields.branch to) i) (ok_is (Jump (branch_in to) p.0.0, p.0.1) x p.2) (q.0, (p.0.0, refl, q.1), q.2)

-- ---- the operations of a form

-- whether a frame's expression may hold them
pub form_framed : (t : Target) (code : ℕ) (form : OpForm) (op : Op) (b : List ℕ) → Makes form code → OpFormSpells t form op b → in_frame op ≡ form_in_frame form
form_framed t code (fields.none made) op b m (same, nil) = ap in_frame same
form_framed t code (fields.one o make) op b m (x, same, s) = ap in_frame same ∙ (m x).1
form_framed t code (fields.two o p make) op b m (x, y, same, s) = ap in_frame same ∙ (m x y).1
form_framed t code (fields.branch to) op b m (i, same, s) = ap in_frame same ∙ (m.0 i).1

module _ (t : Target) (code : ℕ) where
  -- a step by the fields of the code's form is a step by its spelling
  abbrev Spelled : OpForm → List ℕ → Step → Type 0
  Spelled form b step = StepSpells t step (code ∷ b) × (step_in_frame step ≡ form_in_frame form)

  plain_spelled : (form : OpForm) (step : Step) (op : Op) (b : List ℕ) → form_of t code ≡ Some form → Makes form code → step ≡ Plain op → OpFormSpells t form op b → branch_target op ≡ None → Spelled form b step
  plain_spelled form step op b known m is s none = subst (Spelled form b) (sym is) ((record { code = code; form = form; rest = b; known = known; whole = refl; operands = s }, none), form_framed t code form op b m s)

  form_spelled : (form : OpForm) (step : Step) (b : List ℕ) → form_of t code ≡ Some form → Makes form code → StepForm t form step b → Spelled form b step
  form_spelled (fields.none made) step b known m (op, is, s) = plain_spelled (fields.none made) step op b known m is s (ap branch_target s.0 ∙ m)
  form_spelled (fields.one o make) step b known m (op, is, s) = plain_spelled (fields.one o make) step op b known m is s (ap branch_target s.1 ∙ (m s.0).0)
  form_spelled (fields.two o p make) step b known m (op, is, s) = plain_spelled (fields.two o p make) step op b known m is s (ap branch_target s.2 ∙ (m s.0 s.1).0)
  form_spelled (fields.branch to) step b known m (n, is, f) = subst (Spelled (fields.branch to) b) (sym is) (record { rest = b; operands = f; whole = ap (λ (c : ℕ). c ∷ b) m.1 }, refl)

-- ---- which profile allows it

pub allowed_by : (profile : Profile) (form : OpForm) (step : Step) → step_in_frame step ≡ form_in_frame form → allows profile form ≡ step_allowed profile step
allowed_by Frame form step same = sym same
allowed_by Location form step same = refl

-- ---- a whole operation

-- the part that a step was read from
pub record StepTaken (profile : Profile) (i : Input) (step : Step) (new : Input) : Type 0 where
  pub part : List ℕ
  pub spells : StepSpells i.target step part
  pub taken : Takes i part new
  pub allowed : step_allowed profile step ≡ true
  pub some : 0 < length part

judged_found : (profile : Profile) (at code : ℕ) (o : Option OpForm) (i new : Input) (step : Step) → form_of i.target code ≡ o → AreBytes i.bytes → judged profile at o i ≡ done (step, new)
    → ((b : List ℕ) × StepSpells i.target step (code ∷ b) × Takes i b new) × (step_allowed profile step ≡ true)
judged_found profile at code None i new step known h e = absurd cc
judged_found profile at code (Some form) i new step known h e =
    let k = cond_ok (allows profile form) (step_of form i) (record { code = NotInFrame; at = at }) (step, new) e in
    let c = form_known i.target code form known in
    let q = form_found form i (step, new) c.0 h k.1 in
    let s = form_spelled i.target code form step q.0 known c.1 q.1 in
    ((q.0, s.0, q.2), sym (allowed_by profile form step s.1) ∙ k.0)

pub step_found : (profile : Profile) (i new : Input) (step : Step) → AreBytes i.bytes → step_at profile i ≡ done (step, new) → StepTaken profile i step new
unfolding step_at
step_found profile i new step h e =
    let p = bind_ok (fixed_at 1 i) (after_code profile i.at) (step, new) e in
    let first = byte_found i p.0.1 p.0.0 p.1 in
    let q = judged_found profile i.at p.0.0 (form_of p.0.1.target p.0.0) p.0.1 new step refl (taken_bytes i p.0.1 (p.0.0 ∷ []) first h) p.2 in
    record {
      part = p.0.0 ∷ q.0.0;
      spells = subst (λ (t : Target). StepSpells t step (p.0.0 ∷ q.0.0)) first.target q.0.1;
      taken = Takes-then i p.0.1 new (p.0.0 ∷ []) q.0.0 first q.0.2;
      allowed = q.1;
      some = omega arith;
    }
