-- The faults of a block have places in it or at its end.
use Rattle.dw_op.proofs.Words.{ℕ, zero, suc, ◌≤◌, List, [], ◌∷◌, length, Option, Some, None, Err, ap, subst, arith, inl, inr, nat_le, ◌&&◌, length-append, byte_len, Refusal, Target, Input, byte_count, Read, fixed_at, uleb_at, address_at}
use Rattle.dw_op.proofs.Words.{◌>>=◌, Profile, Step, start, joined, BlockFault, Field, OpForm, form_of, allows, with_op, with_jump, branch_in, signed_in, sized_in, counted_in, value_at, then_value, step_of, judged, after_code, step_at}
use Rattle.dw_num.proofs.Lent.Stays.{Inside, Stays, inside_all, stays_in, stays-then, either_stays, fixed_stays, take_stays, uleb_stays, sleb_stays, register_stays}
use Rattle.dw_op.proofs.OperandLaws.{fault_stuck}
use Rattle.dw_op.specs.Operands as fields

next_stays : {X Y : Type 0} (i : Input) (read : Read X) (next : X × Input → Read Y) → Stays i read → ((x : X × Input) → Stays x.1 (next x)) → Stays i (read >>= next)
next_stays i read next h more = stays-then i read next h (λ x e k. stays_in i x.1 (next x) k (more x))

value_stays : (o : Field) (i : Input) → Stays i (value_at o i)
unfolding address_at
value_stays (fields.fixed n) i = fixed_stays n i
value_stays (fields.twos w) i = next_stays i (fixed_at (byte_len w) i) (signed_in w) (fixed_stays (byte_len w) i) (λ x. inside_all x.1)
value_stays fields.address i = fixed_stays (byte_count i.target.size) i
value_stays fields.unsigned i = uleb_stays i
value_stays fields.signed i = sleb_stays i
value_stays fields.register i = register_stays i
value_stays fields.size i = stays-then i (fixed_at 1 i) (sized_in (byte_count i.target.size) i.at) (fixed_stays 1 i)
    (λ x e inside. either_stays (nat_le 1 x.0 && nat_le x.0 (byte_count i.target.size)) i _ _ inside (omega arith, omega arith))
value_stays fields.block i = next_stays i (uleb_at i) counted_in (uleb_stays i) (λ x. take_stays x.0 x.1)

form_stays : (form : OpForm) (i : Input) → Stays i (step_of form i)
form_stays (fields.none made) i = inside_all i
form_stays (fields.one o make) i = next_stays i (value_at o i) (with_op make) (value_stays o i) (λ x. inside_all x.1)
form_stays (fields.two o p make) i = next_stays i (value_at o i) (then_value p make) (value_stays o i) (λ x. next_stays x.1 (value_at p x.1) (with_op (make x.0)) (value_stays p x.1) (λ y. inside_all y.1))
form_stays (fields.branch to) i = next_stays i (fixed_at 2 i) (with_jump (branch_in to)) (fixed_stays 2 i) (λ x. inside_all x.1)

step_stays : (profile : Profile) (i : Input) → Stays i (step_at profile i)
unfolding step_at
step_stays profile i = stays-then i (fixed_at 1 i) (after_code profile i.at) (fixed_stays 1 i) (λ x e inside. known (form_of x.1.target x.0) x.1 inside)
  where
    known : (o : Option OpForm) (j : Input) → Inside i j → Stays i (judged profile i.at o j)
    known None j e = (omega arith, omega arith)
    known (Some form) j e = either_stays (allows profile form) i _ _ (stays_in i j (step_of form j) e (form_stays form j)) (omega arith, omega arith)

start_within : (parts : List (List ℕ)) (k : ℕ) → start parts k ≤ length (joined parts)
start_within parts zero = omega arith
start_within [] (suc k) = omega arith
start_within (part ∷ parts) (suc k) = omega (arith, start_within parts k, length-append part (joined parts))

pub fault_within : (profile : Profile) (t : Target) (bytes : List ℕ) (r : Refusal) → BlockFault profile t bytes r → r.at ≤ length bytes
fault_within profile t bytes r (inl f) =
    let here : Input = record { at = length (joined f.parts); bytes = f.code ∷ f.operands; target = t } in
    let stuck = fault_stuck profile t (length (joined f.parts)) f.code f.operands r f.fault in
    let stays : Stays {X = Step} here (Err r) = subst (λ (x : Read Step). Stays here x) stuck (step_stays profile here) in
    omega (arith, stays.1, ap length f.whole, length-append (joined f.parts) (f.code ∷ f.operands))
fault_within profile t bytes r (inr f) = omega (arith, ap (λ (x : Refusal). x.at) f.is, ap length f.whole, start_within f.parts f.bad)
