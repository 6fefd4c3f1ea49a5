-- What is read is spelled so.
use Rattle.dw_cfa.proofs.Words.{◌≡◌, ℕ, zero, suc, ◌^◌, List, [], ◌∷◌, ◌++◌, Option, Some, None, Result, Ok, Err, refl, subst, ◌∙◌, arith, inl, inr, unsigned_abs, cases_lt, lt-ltb, le-ltb, AreBytes, Factors}
use Rattle.dw_cfa.proofs.Words.{Input, Instr, Op, Opcode, Read, Refusal, Target, OffsetTooLarge, Takes, IsWidth, fault, fixed_at, take_at, uleb_at, bind_ok, Takes-then, take_found, done, ok_is, uleb_found}
use Rattle.dw_cfa.proofs.Words.{register_found, sleb_found, taken_bytes, fixed_found, address_found, byte_found, Frame, Expression, block_input, decode_at, block_found, BlockSpells, OperandSpells, InstrFormSpells}
use Rattle.dw_cfa.proofs.Words.{InstrSpells, EachEntry, opcode_table, opcode_of, form_of, Operand, address, fixed, register, unsigned, signed, expression, InstrForm, none, one, two, offset_of, leaving, expression_of}
use Rattle.dw_cfa.proofs.{Words.{expression_in, block_in, after_length, block_at, operand_at, with_instr, then_operand, form_at, judged, known_at, after_code, instr_at}, CodeForms.form_is, Codes.{opcode_known, ◌&◌}}

-- ---- operands

-- what a reader finds is spelled by the bytes that it took
abbrev pub Finds : {X : Type 0} → (Input → Read X) → (Target → X → List ℕ → Type 0) → Type 0
Finds {X} read Spells = (i new : Input) (x : X) → AreBytes i.bytes → read i ≡ done (x, new) → (b : List ℕ) × Spells i.target x b × Takes i b new

-- ---- blocks

pub front_bytes : (front rest : List ℕ) → AreBytes (front ++ rest) → AreBytes front
front_bytes [] rest h k = omega arith
front_bytes (x ∷ front) rest h zero = h 0
front_bytes (x ∷ front) rest h (suc k) = front_bytes front rest (λ j. h (suc j)) k

-- the block's operations, and nothing else but the target
expression_kept : (place : ℕ) (t : Target) (o : Result (List Op) Refusal) (i new : Input) (e : Expression) → leaving i (expression_of place t o) ≡ done (e, new)
    → (ops : List Op) × (o ≡ Ok ops) × (done {A = Expression × Input} (record { target = t; ops = ops }, i) ≡ done (e, new))
expression_kept place t (Ok ops) i new e is = (ops, refl, is)
expression_kept place t (Err r) i new e is = absurd cc

pub block_finds : Finds block_at BlockSpells
unfolding block_at expression_in
block_finds i new e h is =
    let p = bind_ok (uleb_at i) after_length (e, new) is in
    let q = uleb_found i p.0.1 p.0.0 h p.1 in
    let s = bind_ok (take_at p.0.0 p.0.1) (block_in p.0.1.at) (e, new) p.2 in
    let block = s.0.0 in
    let u = take_found p.0.0 p.0.1 s.0.1 block s.1 in
    let t = s.0.1.target in
    let same : t ≡ i.target = u.0.target ∙ q.2.target in
    let k = expression_kept p.0.1.at t (decode_at Frame (block_input t block)) s.0.1 new e s.2 in
    let operations = block_found Frame t block k.0 (front_bytes block s.0.1.bytes (subst AreBytes u.0.bytes (taken_bytes i p.0.1 q.0 q.2 h))) k.1 in
    let spelled : BlockSpells t (record { target = t; ops = k.0 }) (q.0 ++ block) =
    record { length_bytes = q.0; block = block; counted = rw u.1 q.1; operations = operations; same_target = refl; whole = refl } in
    subst (λ (z : Expression × Input). (b : List ℕ) × BlockSpells i.target z.0 b × Takes i b z.1) (ok_is (record { target = t; ops = k.0 }, s.0.1) (e, new) k.2)
    (q.0 ++ block, subst (λ (x : Target). BlockSpells x (record { target = t; ops = k.0 }) (q.0 ++ block)) same spelled, Takes-then i p.0.1 s.0.1 q.0 block q.2 u.0)

-- ---- operands and forms

abbrev pub Wide : Operand → Type 0
Wide (fixed n) = IsWidth n
Wide other = Unit {0}

pub operand_finds : (o : Operand) → Wide o → Finds (operand_at o) (λ t x b. OperandSpells t o x b)
operand_finds address w i new x h e = address_found i new x h e
operand_finds (fixed n) w i new x h e = fixed_found n i new x w h e
operand_finds register w i new x h e = register_found i new x h e
operand_finds unsigned w i new x h e = uleb_found i new x h e
operand_finds signed w i new x h e = sleb_found i new x h e
operand_finds expression w i new x h e = block_finds i new x h e

abbrev pub FormWide : InstrForm → Type 0
FormWide (none made) = Unit {0}
FormWide (one o make) = Wide o
FormWide (two o p make) = Wide o × Wide p

wide_entries : (f : Factors) → EachEntry (λ opcode code. FormWide (form_of f opcode)) opcode_table
wide_entries f =
    tt & tt & inl refl & inr (inl refl) & inr (inr (inl refl)) & (tt, tt) & tt & tt & tt & (tt, tt) & tt & tt & (tt, tt) & tt & tt & tt & (tt, tt) & (tt, tt) & (tt, tt) & tt & (tt, tt) & (tt, tt) & (tt, tt) & tt

pub form_wide : (f : Factors) (code : ℕ) (opcode : Opcode) → opcode_of code ≡ Some opcode → FormWide (form_of f opcode)
form_wide f code opcode is = opcode_known (λ o n. FormWide (form_of f o)) (wide_entries f) (λ n lt. (tt, tt, tt)) code opcode is

pub form_finds : (form : InstrForm) → FormWide form → Finds (form_at form) (λ t instr b. InstrFormSpells t form instr b)
form_finds (none made) w i new instr h e =
    subst (λ (z : Instr × Input). (b : List ℕ) × InstrFormSpells i.target (none made) z.0 b × Takes i b z.1) (ok_is (made, i) (instr, new) e) ([], (refl, refl), record { bytes = refl; at = omega arith; target = refl })
form_finds (one o make) w i new instr h e =
    let p = bind_ok (operand_at o i) (with_instr make) (instr, new) e in
    let q = operand_finds o w i p.0.1 p.0.0 h p.1 in
    subst (λ (z : Instr × Input). (b : List ℕ) × InstrFormSpells i.target (one o make) z.0 b × Takes i b z.1) (ok_is (make p.0.0, p.0.1) (instr, new) p.2) (q.0, (p.0.0, refl, q.1), q.2)
form_finds (two o p make) w i new instr h e =
    let first = bind_ok (operand_at o i) (then_operand p make) (instr, new) e in
    let q = operand_finds o w.0 i first.0.1 first.0.0 h first.1 in
    let second = bind_ok (operand_at p first.0.1) (with_instr (make first.0.0)) (instr, new) first.2 in
    let u = operand_finds p w.1 first.0.1 second.0.1 second.0.0 (taken_bytes i first.0.1 q.0 q.2 h) second.1 in
    let spelled = subst (λ (t : Target). OperandSpells t p second.0.0 u.0) q.2.target u.1 in
    subst (λ (z : Instr × Input). (b : List ℕ) × InstrFormSpells i.target (two o p make) z.0 b × Takes i b z.1) (ok_is (make first.0.0 second.0.0, second.0.1) (instr, new) second.2)
    (q.0 ++ u.0, (first.0.0, second.0.0, refl, record { front = q.0; back = u.0; first = q.1; second = spelled; whole = refl }), Takes-then i first.0.1 second.0.1 q.0 u.0 q.2 u.2)

-- ---- instructions

module _ (f : Factors) (at code : ℕ) where
  known_finds : (o : Option Opcode) → opcode_of code ≡ o → Finds (known_at f at o) (λ t instr b. InstrSpells t f instr (code ∷ b))
  known_finds None is i new instr h e = absurd cc
  known_finds (Some opcode) is i new instr h e =
      let p = bind_ok (form_at (form_of f opcode) i) (judged at) (instr, new) e in
      let q = form_finds (form_of f opcode) (form_wide f code opcode is) i p.0.1 p.0.0 h p.1 in
      elim (cases_lt (unsigned_abs (offset_of p.0.0)) (2 ^ 63)) [
        | inl small ↦
            subst (λ (z : Instr × Input). (b : List ℕ) × InstrSpells i.target f z.0 (code ∷ b) × Takes i b z.1) (ok_is p.0 (instr, new) (rw (lt-ltb (unsigned_abs (offset_of p.0.0)) (2 ^ 63) small) at p.2))
            (q.0, record { code = code; form = form_of f opcode; rest = q.0; known = form_is f code opcode is; whole = refl; operands = q.1; range = small }, q.2)
        | inr big ↦ let no : fault {A = Instr × Input} OffsetTooLarge at ≡ done (instr, new) = rw (le-ltb (unsigned_abs (offset_of p.0.0)) (2 ^ 63) big) at p.2 in absurd cc
      ]

-- an instruction that is read is spelled by the bytes that were taken
pub instr_found : (f : Factors) (i new : Input) (instr : Instr) → AreBytes i.bytes → instr_at f i ≡ done (instr, new) → (b : List ℕ) × InstrSpells i.target f instr b × Takes i b new
unfolding instr_at
instr_found f i new instr h e =
    let p = bind_ok (fixed_at 1 i) (after_code f i.at) (instr, new) e in
    let q = byte_found i p.0.1 p.0.0 p.1 in
    let u = known_finds f i.at p.0.0 (opcode_of p.0.0) refl p.0.1 new instr (taken_bytes i p.0.1 (p.0.0 ∷ []) q h) p.2 in
    (p.0.0 ∷ u.0, subst (λ (t : Target). InstrSpells t f instr (p.0.0 ∷ u.0)) q.target u.1, Takes-then i p.0.1 new (p.0.0 ∷ []) u.0 q u.2)
