-- What reading an operation refuses is the fault of its code, or of the first operand field that has one.
use Rattle.dw_num.specs.declared.target.Size.TheVariants as sizes
use Rattle.dw_op.specs.Operands as fields
use Rattle.std.specs.Int.{cast_signed}
use Rattle.dw_op.proofs.Words.{◌≡◌, ℕ, ◌+◌, ◌≤◌, true, List, [], ◌∷◌, ◌++◌, Option, Some, None, Result, Ok, Err, refl, sym, ap, subst, ◌∙◌, arith, inl, inr, byte_len, pos, ints, cases_Bool, nat_tests, NotInFrame, Refusal, Order, Target, Size}
use Rattle.dw_op.proofs.Words.{byte_count, Input, Fixed, fixed_bytes, Uleb, Sleb, Read, fault, fixed_at, take_at, uleb_at, address_at, ◌>>=◌, fixed_below, byte_again, Op, Profile, Location, Plain, Step, FieldSpells, OpFormSpells, Field}
use Rattle.dw_op.proofs.Words.{FieldValue, OpForm, form_of, form_at, field_at, past, sized, counted, HasCode, OpFault, allows, with_op, with_jump, branch_in, signed_in, sized_in, counted_in, value_at, then_value, step_of, judged, step_at}
use Rattle.dw_op.proofs.{Lent.ReadingLaws.{form_known, allowed_by, form_framed}, ResolvedSteps.plain_allows, Signed.signed_spelled, Splits.input}

-- ---- fields are read as operands are

same_end : (n : ℕ) (i : Input) → past (fixed_at n i) ≡ past (take_at n i)
unfolding fixed_at take_at
same_end n i = grind (arith, nat_tests)

-- what is read further, with the fault of what follows
next_end : {X Y : Type 0} (read : Read X) (next : X × Input → Read Y) (more : Input → Result Input Refusal) → ((x : X × Input) → past (next x) ≡ more x.1) → past (read >>= next) ≡ past read >>= more
next_end (Ok x) next more h = h x
next_end (Err r) next more h = refl

same_past : {X Y : Type 0} (read : Read X) (next : X × Input → Read Y) → ((x : X × Input) → past (next x) ≡ Ok x.1) → past (read >>= next) ≡ past read
same_past (Ok x) next h = h x
same_past (Err r) next h = refl

size_end : (most at : ℕ) (read : Read ℕ) → past (read >>= sized_in most at) ≡ read >>= sized most at
size_end most at (Err r) = refl
size_end most at (Ok k) = grind (arith, nat_tests)

block_end : (read : Read ℕ) → past (read >>= counted_in) ≡ read >>= counted
block_end (Err r) = refl
block_end (Ok n) = refl

value_end : (o : Field) (i : Input) → past (value_at o i) ≡ field_at o i
unfolding address_at
value_end (fields.fixed n) i = same_end n i
value_end (fields.twos w) i = same_past (fixed_at (byte_len w) i) (signed_in w) (λ x. refl) ∙ same_end (byte_len w) i
value_end fields.address i = same_end (byte_count i.target.size) i
value_end fields.size i = size_end (byte_count i.target.size) i.at (fixed_at 1 i)
value_end fields.block i = block_end (uleb_at i)
value_end o i = refl

form_end : (form : OpForm) (i : Input) → past (step_of form i) ≡ form_at form i
form_end (fields.none made) i = refl
form_end (fields.one o make) i = same_past (value_at o i) (with_op make) (λ x. refl) ∙ value_end o i
form_end (fields.two o p make) i =
    next_end (value_at o i) (then_value p make) (field_at p) (λ x. same_past (value_at p x.1) (with_op (make x.0)) (λ y. refl) ∙ value_end p x.1)
    ∙ ap (λ (r : Result Input Refusal). r >>= field_at p) (value_end o i)
form_end (fields.branch to) i = same_past (fixed_at 2 i) (with_jump (branch_in to)) (λ x. refl) ∙ same_end 2 i

-- ---- what a code says is what begins so

zeros : (order : Order) (n : ℕ) → Fixed order n 0 (fixed_bytes order n 0)
zeros order n = record { bytes = refl; fits = omega (arith, fixed_below order n [] (λ k. omega arith)) }

zero_uleb : Uleb 0 (0 ∷ [])
zero_uleb = record { shape = omega arith; value = refl; fits = omega arith }

zero_sleb : Sleb (pos 0) (0 ∷ [])
zero_sleb = record { shape = omega arith; value = refl; fits = omega (arith, ints) }

one_fits : (s : Size) → 1 ≤ byte_count s
one_fits sizes.Four = omega arith
one_fits sizes.Eight = omega arith

module _ (t : Target) where
  -- bytes that spell a field, and the fields of a form
  field_example : (o : Field) → (x : FieldValue o) × (b : List ℕ) × FieldSpells t o x b
  field_example (fields.fixed n) = (0, fixed_bytes t.order n 0, zeros t.order n)
  field_example (fields.twos w) = (cast_signed w 0, fixed_bytes t.order (byte_len w) 0, signed_spelled w t.order 0 _ (zeros t.order (byte_len w)))
  field_example fields.address = (0, fixed_bytes t.order (byte_count t.size) 0, zeros t.order (byte_count t.size))
  field_example fields.unsigned = (0, 0 ∷ [], zero_uleb)
  field_example fields.signed = (pos 0, 0 ∷ [], zero_sleb)
  field_example fields.register = (0, 0 ∷ [], (zero_uleb, omega arith))
  field_example fields.size = (1, fixed_bytes t.order 1 1, (record { bytes = refl; fits = omega arith }, omega arith, one_fits t.size))
  field_example fields.block = ([], 0 ∷ [], record { front = 0 ∷ []; back = []; first = zero_uleb; second = refl; whole = refl })

  form_example : (form : OpForm) → (op : Op) × (b : List ℕ) × OpFormSpells t form op b
  form_example (fields.none made) = (made, [], (refl, refl))
  form_example (fields.one o make) = let x = field_example o in (make x.0, x.1, (x.0, refl, x.2))
  form_example (fields.two o p make) =
      let x = field_example o in
      let y = field_example p in
      (make x.0 y.0, x.1 ++ y.1, (x.0, y.0, refl, record { front = x.1; back = y.1; first = x.2; second = y.2; whole = refl }))
  form_example (fields.branch to) = (to 0, 0 ∷ 0 ∷ [], (0, refl, (0, 0, omega arith, omega arith, refl)))

-- a code that the profile allows begins an operation of the profile
begun : (profile : Profile) (t : Target) (code : ℕ) (form : OpForm) → form_of t code ≡ Some form → allows profile form ≡ true → HasCode profile t code
begun profile t code form is ok =
    let e = form_example t form in
    let framed = form_framed t code form e.0 e.1 (form_known t code form is).1 e.2 in
    (e.1, (e.0, record { code = code; form = form; rest = e.1; known = is; whole = refl; operands = e.2 }, sym (allowed_by profile form (Plain e.0) framed ∙ plain_allows profile e.0) ∙ ok))

-- and back: the code of an operation of the profile is known, and allowed
known : (profile : Profile) (t : Target) (code : ℕ) → HasCode profile t code → (form : OpForm) × (form_of t code ≡ Some form) × (allows profile form ≡ true)
known profile t code (operands, (op, s, allowed)) =
    let same : s.code ≡ code = let e = s.whole in cc in
    let framed = form_framed t s.code s.form op s.rest (form_known t s.code s.form s.known).1 s.operands in
    (s.form, subst (λ (c : ℕ). form_of t c ≡ Some s.form) same s.known, allowed_by profile s.form (Plain op) framed ∙ plain_allows profile op ∙ allowed)

errs : {X : Type 0} (read : Read X) (r : Refusal) → past read ≡ Err r → read ≡ Err r
errs (Ok x) r e = absurd cc
errs (Err q) r e = let same : q ≡ r = cc in ap (λ (x : Refusal). Err x) same

module _ (profile : Profile) (t : Target) (at code : ℕ) (operands : List ℕ) (r : Refusal) where
  abbrev behind : Input
  behind = input (at + 1) operands t

  -- the reading of an operation by its code
  read_code : step_at profile (input at (code ∷ operands) t) ≡ judged profile at (form_of t code) behind
  unfolding step_at
  read_code = let one = byte_again t code at operands in rw one refl

  -- what reading refuses is the operation's fault
  pub stuck_fault : step_at profile (input at (code ∷ operands) t) ≡ Err r → OpFault profile at code behind r
  stuck_fault e = of (form_of t code) refl (sym read_code ∙ e)
    where
      of : (o : Option OpForm) → form_of t code ≡ o → judged profile at o behind ≡ Err r → OpFault profile at code behind r
      of None is e = inl ((λ h. let k = known Location t code h in absurd cc), cc)
      of (Some form) is e = elim (cases_Bool (allows profile form)) [
        | inl y ↦ let e1 : step_of form behind ≡ Err r = rw y at e in inr (inr (begun profile t code form is y, form, is, sym (form_end form behind) ∙ ap past e1))
        | inr n ↦
            let e1 : fault {A = Step × Input} NotInFrame at ≡ Err r = rw n at e in
            inr (inl (begun Location t code form is refl, (λ h. let k = known profile t code h in absurd cc), cc))
      ]

  -- and the operation's fault is what reading refuses
  pub fault_stuck : OpFault profile at code behind r → step_at profile (input at (code ∷ operands) t) ≡ Err r
  fault_stuck h = read_code ∙ of (form_of t code) refl h
    where
      of : (o : Option OpForm) → form_of t code ≡ o → OpFault profile at code behind r → judged profile at o behind ≡ Err r
      of None is (inl u) = ap (λ (x : Refusal). Err x) (sym u.1)
      of None is (inr (inl u)) = let k = known Location t code u.0 in absurd cc
      of None is (inr (inr u)) = absurd cc
      of (Some form) is (inl u) = absurd (u.0 (begun Location t code form is refl))
      of (Some form) is (inr (inl u)) = elim (cases_Bool (allows profile form)) [
        | inl y ↦ absurd (u.1 (begun profile t code form is y))
        | inr n ↦ rw n (ap (λ (x : Refusal). Err x) (sym u.2))
      ]
      of (Some form) is (inr (inr u)) =
          let k = known profile t code u.0 in
          let same : k.0 ≡ form = cc in
          let other : form ≡ u.1 = cc in
          rw (rw same at k.2) (errs (step_of form behind) r (form_end form behind ∙ ap (λ (x : OpForm). form_at x behind) other ∙ u.3))
