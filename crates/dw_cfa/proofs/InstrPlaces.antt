-- The faults of a program have places in it or at its end.
use Rattle.dw_cfa.proofs.Words.{◌≡◌, ℕ, ◌^◌, List, [], ◌∷◌, length, Option, Some, None, Result, Ok, Err, refl, ap, subst, arith, inl, inr, unsigned_abs, nat_lt, cases_Bool, length-append, AreBytes, Factors, Input, Instr, Op, Opcode, Read}
use Rattle.dw_cfa.proofs.Words.{Refusal, Takes, fixed_at, take_at, register_at, uleb_at, sleb_at, address_at, ◌>>=◌, uleb_found, taken_bytes, byte_found, take_found, Inside, Stays, stays_in, stays-then, fixed_stays, address_stays}
use Rattle.dw_cfa.proofs.Words.{take_stays, uleb_stays, sleb_stays, register_stays, Frame, block_input, decode_at, fault_found, opcode_of, form_of, Operand, address, fixed, register, unsigned, signed, expression, InstrForm, none, one, two}
use Rattle.dw_cfa.proofs.Words.{offset_of, leaving, expression_of, expression_in, block_in, after_length, block_at, operand_at, with_instr, then_operand, form_at, judged, known_at, after_code, instr_at}
use Rattle.dw_op.proofs.Lent.FaultPlaces.{fault_within}
use Rattle.dw_cfa.proofs.Lent.InstrLaws.{FormWide, operand_finds, form_wide, front_bytes}

made_stays : {X : Type 0} (i : Input) (read : Read X) (make : X → Instr) → Stays i read → Stays i (read >>= with_instr make)
made_stays i (Ok x) make h = h
made_stays i (Err r) make h = h

-- a block's fault, shifted to where the block stands
expression_stays : (n new : Input) (block : List ℕ) (o : Result (List Op) Refusal) → AreBytes n.bytes → Takes n block new → decode_at Frame (block_input new.target block) ≡ o → Stays n (leaving new (expression_of n.at new.target o))
expression_stays n new block (Ok ops) h t e = (omega (arith, t.at), omega (arith, t.at, ap length t.bytes, length-append block new.bytes))
expression_stays n new block (Err r) h t e =
    let are : AreBytes block = front_bytes block new.bytes (subst AreBytes t.bytes h) in
    let within = fault_within Frame new.target block r (fault_found Frame new.target block r are e) in
    (omega arith, omega (arith, within, ap length t.bytes, length-append block new.bytes))

block_stays : (i : Input) → AreBytes i.bytes → Stays i (block_at i)
unfolding block_at expression_in
block_stays i h = stays-then i (uleb_at i) after_length (uleb_stays i) (λ n e k.
    let q = uleb_found i n.1 n.0 h e in
    let are = taken_bytes i n.1 q.0 q.2 h in
    stays_in i n.1 (after_length n) k (stays-then n.1 (take_at n.0 n.1) (block_in n.1.at) (take_stays n.0 n.1) (λ b e2 k2.
    expression_stays n.1 b.1 b.0 (decode_at Frame (block_input b.1.target b.0)) are (take_found n.0 n.1 b.1 b.0 e2).0 refl)))

operand_stays : (o : Operand) (i j : Input) → AreBytes j.bytes → Inside i j → Stays i (operand_at o j)
operand_stays address i j are h = stays_in i j (address_at j) h (address_stays j)
operand_stays (fixed n) i j are h = stays_in i j (fixed_at n j) h (fixed_stays n j)
operand_stays register i j are h = stays_in i j (register_at j) h (register_stays j)
operand_stays unsigned i j are h = stays_in i j (uleb_at j) h (uleb_stays j)
operand_stays signed i j are h = stays_in i j (sleb_at j) h (sleb_stays j)
operand_stays expression i j are h = stays_in i j (block_at j) h (block_stays j are)

form_stays : (form : InstrForm) (i j : Input) → FormWide form → AreBytes j.bytes → Inside i j → Stays i (form_at form j)
form_stays (none made) i j w are h = h
form_stays (one o make) i j w are h = made_stays i (operand_at o j) make (operand_stays o i j are h)
form_stays (two o p make) i j w are h = stays-then i (operand_at o j) (then_operand p make) (operand_stays o i j are h) (λ x e k.
    let q = operand_finds o w.0 j x.1 x.0 are e in
    made_stays i (operand_at p x.1) (make x.0) (operand_stays p i x.1 (taken_bytes j x.1 q.0 q.2 are) k))

judged_stays : (i : Input) (x : Instr × Input) → Inside i x.1 → Stays i (judged i.at x)
judged_stays i x h = elim (cases_Bool (nat_lt (unsigned_abs (offset_of x.0)) (2 ^ 63))) [ inl e ↦ rw e h | inr e ↦ rw e (omega arith, omega arith) ]

known_stays : (f : Factors) (code : ℕ) (o : Option Opcode) (i j : Input) → opcode_of code ≡ o → AreBytes j.bytes → Inside i j → Stays i (known_at f i.at o j)
known_stays f code None i j is are h = (omega arith, omega arith)
known_stays f code (Some opcode) i j is are h = stays-then i (form_at (form_of f opcode) j) (judged i.at) (form_stays (form_of f opcode) i j (form_wide f code opcode is) are h) (λ x e k. judged_stays i x k)

-- an instruction's fault has a place from its opcode to the program's end
pub instr_stays : (f : Factors) (i : Input) → AreBytes i.bytes → Stays i (instr_at f i)
unfolding instr_at
instr_stays f i h = stays-then i (fixed_at 1 i) (after_code f i.at) (fixed_stays 1 i) (λ code e k.
    known_stays f code.0 (opcode_of code.0) i code.1 refl (taken_bytes i code.1 (code.0 ∷ []) (byte_found i code.1 code.0 e) h) k)
