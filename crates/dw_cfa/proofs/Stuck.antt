-- What can't be read as an instruction has the fault that the table of operands gives it.
use Rattle.dw_cfa.proofs.Words.{◌≡◌, ℕ, ◌+◌, ◌^◌, List, ◌∷◌, Option, Some, None, Result, Ok, Err, refl, sym, ap, subst, ◌∙◌, ◌⊎◌, arith, inl, inr, option_map, unsigned_abs, cases_lt, lt-ltb, le-ltb, OffsetTooLarge, AreBytes, Factors, Input}
use Rattle.dw_cfa.proofs.Words.{Instr, Op, Opcode, Read, Refusal, Target, Takes, fault, take_at, uleb_at, ◌>>=◌, Again, take_again, take_found, byte_again, done, uleb_found, uleb_again, taken_bytes, Frame, BlockFault, block_input}
use Rattle.dw_cfa.proofs.Words.{decode_at, fault_found, opcode_of, form_of, Operand, expression, InstrForm, none, one, two, form_for, offset_of, leaving, expression_of, expression_in, block_in, after_length, block_at, operand_at}
use Rattle.dw_cfa.proofs.Words.{with_instr, then_operand, form_at, judged, instr_at, known_at, taken_is}
use Rattle.dw_cfa.specs.InstrFaults.{ContentsFault, OperandFault, FormFault, CodeFault}
use Rattle.dw_cfa.proofs.{CodeForms.form_known, Divided.input, Expressions.expression_refused, Lent.InstrLaws.{FormWide, operand_finds, form_wide, form_finds, front_bytes}, InstrAgain.{operand_again, form_again}}

-- what is spelled at the front is read
read_taken : {X : Type 0} (read : Input → Read X) (x : X) (front : List ℕ) (i new : Input) → Takes i front new → Again i.target read x front → read i ≡ done (x, new)
read_taken read x front i new t again = ap (λ (l : List ℕ). read (input i.at l i.target)) t.bytes ∙ again i.at new.bytes ∙ ap (λ (j : Input). done (x, j)) (taken_is i new front t)

-- ---- operands

-- it, or what comes behind it, cannot be read
bind_err : {A B : Type 0} (read : Result A Refusal) (go : A → Result B Refusal) (r : Refusal) → read >>= go ≡ Err r → (read ≡ Err r) ⊎ ((x : A) × (read ≡ Ok x) × (go x ≡ Err r))
bind_err (Ok x) go r e = inr (x, refl, e)
bind_err (Err q) go r e = let same : q ≡ r = cc in inl (ap Err same)

expression_stuck : (place : ℕ) (t : Target) (o : Result (List Op) Refusal) (i : Input) (r : Refusal) → leaving i (expression_of place t o) ≡ Err r
    → (q : Refusal) × (o ≡ Err q) × (r ≡ record { code = q.code; at = place + q.at })
expression_stuck place t (Ok ops) i r e = absurd cc
expression_stuck place t (Err q) i r e = (q, refl, cc)

contents_fault : (n : ℕ) (i : Input) (r : Refusal) → AreBytes i.bytes → take_at n i >>= block_in i.at ≡ Err r → ContentsFault n i r
unfolding expression_in
contents_fault n i r h e = elim (bind_err (take_at n i) (block_in i.at) r e) [
  | inl bad ↦ inl bad
  | inr b ↦
      let new = b.0.1 in
      let u = take_found n i new b.0.0 b.1 in
      let s = expression_stuck i.at new.target (decode_at Frame (block_input new.target b.0.0)) new r b.2 in
      let fault = fault_found Frame new.target b.0.0 s.0 (front_bytes b.0.0 new.bytes (subst AreBytes u.0.bytes h)) s.1 in
      inr (b.0.0, new.bytes, s.0, u.0.bytes, u.1, subst (λ (t : Target). BlockFault Frame t b.0.0 s.0) u.0.target fault, s.2)
]

fault_contents : (n : ℕ) (i : Input) (r : Refusal) → ContentsFault n i r → take_at n i >>= block_in i.at ≡ Err r
fault_contents n i r (inl e) = rw e refl
fault_contents n i r (inr (block, rest, q, whole, len, bad, is)) =
    let one = ap (λ (l : List ℕ). take_at n (input i.at l i.target)) whole ∙ take_again i.target n block len i.at rest in
    let read = expression_refused i.at i.target block q bad in
    rw (one, read, is) refl

operand_fault : (o : Operand) (i : Input) (r : Refusal) → AreBytes i.bytes → operand_at o i ≡ Err r → OperandFault o i r
unfolding block_at
operand_fault expression i r h e = elim (bind_err (uleb_at i) after_length r e) [
  | inl bad ↦ inl bad
  | inr n ↦ let u = uleb_found i n.0.1 n.0.0 h n.1 in inr (n.0.0, u.0, n.0.1, u.1, u.2, contents_fault n.0.0 n.0.1 r (taken_bytes i n.0.1 u.0 u.2 h) n.2)
]
operand_fault o i r h e = e

fault_operand : (o : Operand) (i : Input) (r : Refusal) → OperandFault o i r → operand_at o i ≡ Err r
unfolding block_at
fault_operand expression i r (inl e) = rw e refl
fault_operand expression i r (inr (n, front, new, spelled, takes, bad)) =
    let one = read_taken uleb_at n front i new takes (λ at rest. uleb_again at i.target n front rest spelled) in
    rw one (fault_contents n new r bad)
fault_operand o i r e = e

-- ---- the operands of a form

made_stuck : {X : Type 0} (read : Read X) (make : X → Instr) (r : Refusal) → read >>= with_instr make ≡ Err r → read ≡ Err r
made_stuck read make r e = elim (bind_err read (with_instr make) r e) [ inl bad ↦ bad | inr x ↦ absurd cc ]

form_fault : (form : InstrForm) (i : Input) (r : Refusal) → FormWide form → AreBytes i.bytes → form_at form i ≡ Err r → FormFault form i r
form_fault (none made) i r w h e = absurd cc
form_fault (one o make) i r w h e = operand_fault o i r h (made_stuck (operand_at o i) make r e)
form_fault (two o p make) i r w h e = elim (bind_err (operand_at o i) (then_operand p make) r e) [
  | inl bad ↦ inl (operand_fault o i r h bad)
  | inr x ↦
      let u = operand_finds o w.0 i x.0.1 x.0.0 h x.1 in
      inr (x.0.0, u.0, x.0.1, u.1, u.2, operand_fault p x.0.1 r (taken_bytes i x.0.1 u.0 u.2 h) (made_stuck (operand_at p x.0.1) (make x.0.0) r x.2))
]

fault_form : (f : Factors) (form : InstrForm) (i : Input) (r : Refusal) → FormFault form i r → form_at form i ≡ Err r
fault_form f (none made) i r h = absurd h
fault_form f (one o make) i r h = rw (fault_operand o i r h) refl
fault_form f (two o p make) i r (inl h) = rw (fault_operand o i r h) refl
fault_form f (two o p make) i r (inr (x, front, new, spelled, takes, bad)) =
    let one = read_taken (operand_at o) x front i new takes (operand_again i.target f o x front spelled) in
    rw (one, fault_operand p new r bad) refl

-- ---- an instruction

module _ (f : Factors) (t : Target) (at code : ℕ) (operands : List ℕ) where
  abbrev behind : Input
  behind = input (at + 1) operands t

  read_code : instr_at f (input at (code ∷ operands) t) ≡ known_at f at (opcode_of code) behind
  unfolding instr_at
  read_code = let one = byte_again t code at operands in rw one refl

  pub stuck_fault : (r : Refusal) → AreBytes operands → instr_at f (input at (code ∷ operands) t) ≡ Err r → CodeFault at (form_for f code) behind r
  stuck_fault r h e = subst (λ (o : Option InstrForm). CodeFault at o behind r) (sym (form_known f code)) (of (opcode_of code) refl (sym read_code ∙ e))
    where
      of : (o : Option Opcode) → opcode_of code ≡ o → known_at f at o behind ≡ Err r → CodeFault at (option_map (form_of f) o) behind r
      of None is bad = cc
      of (Some opcode) is bad = elim (bind_err (form_at (form_of f opcode) behind) (judged at) r bad) [
        | inl stuck ↦ inl (form_fault (form_of f opcode) behind r (form_wide f code opcode is) h stuck)
        | inr x ↦ elim (cases_lt (unsigned_abs (offset_of x.0.0)) (2 ^ 63)) [
          | inl small ↦ let no : done x.0 ≡ Err r = rw (lt-ltb (unsigned_abs (offset_of x.0.0)) (2 ^ 63) small) at x.2 in absurd cc
          | inr big ↦
              let no : fault {A = Instr × Input} OffsetTooLarge at ≡ Err r = rw (le-ltb (unsigned_abs (offset_of x.0.0)) (2 ^ 63) big) at x.2 in
              let u = form_finds (form_of f opcode) (form_wide f code opcode is) behind x.0.1 x.0.0 h x.1 in
              inr (x.0.0, u.0, x.0.1.bytes, u.2.bytes, u.1, (λ range. omega (arith, range, big)), cc)
        ]
      ]

  pub fault_stuck : (r : Refusal) → CodeFault at (form_for f code) behind r → instr_at f (input at (code ∷ operands) t) ≡ Err r
  fault_stuck r h = read_code ∙ of (opcode_of code) (subst (λ (o : Option InstrForm). CodeFault at o behind r) (form_known f code) h)
    where
      of : (o : Option Opcode) → CodeFault at (option_map (form_of f) o) behind r → known_at f at o behind ≡ Err r
      of None is = ap (λ (x : Refusal). Err x) (sym is)
      of (Some opcode) (inl bad) = rw (fault_form f (form_of f opcode) behind r bad) refl
      of (Some opcode) (inr (instr, front, rest, whole, spelled, big, is)) =
          let one = ap (λ (l : List ℕ). form_at (form_of f opcode) (input (at + 1) l t)) whole ∙ form_again t f (form_of f opcode) instr front spelled (at + 1) rest in
          elim (cases_lt (unsigned_abs (offset_of instr)) (2 ^ 63)) [
            | inl small ↦ absurd (big small)
            | inr large ↦ rw (one, le-ltb (unsigned_abs (offset_of instr)) (2 ^ 63) large) (ap (λ (x : Refusal). Err x) (sym is))
          ]
