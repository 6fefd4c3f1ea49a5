-- The instructions of a program are listed up to its first fault.
use Rattle.dw_cfa.proofs.Words.{◌≡◌, ℕ, suc, ◌+◌, ◌<◌, ◌≤◌, false, List, [], ◌∷◌, ◌++◌, length, Option, Some, None, Err, refl, sym, ap, subst, ◌∙◌, arith, ◌↔◌, IfSome, length-append, append-nil, AreBytes, Factors, Input, Instr, Read}
use Rattle.dw_cfa.proofs.Words.{Refusal, Target, done, taken_bytes, Stays, ProgramSpells, instr_at, Listing, complete, faulty, ProgramFault, Placing, placed, ended}
use Rattle.dw_cfa.specs.Inner.Listing.{listing, left_of, plain_of}
use Rattle.dw_op.specs.Inner.Walks.{put}
use Rattle.dw_cfa.proofs.{Divided.{input, placing, behind_all, left_behind, joined_at}, Lent.RowsAt.instrs_of, InstrPlaces.instr_stays, Placings.{reads, placed_end, placed_step, placed_stuck}, Stuck.{stuck_fault, fault_stuck}}
pub use Rattle.dw_cfa.proofs.Placings.{some_spelled}

-- ---- what is placed is spelled, and what is spelled is placed

-- behind a program's instructions nothing is left, or what cannot be read
placed_to : (f : Factors) (i : Input) (instrs : List Instr) (front rest : List ℕ) (fault : Option Refusal) → AreBytes i.bytes → i.bytes ≡ front ++ rest → ProgramSpells i.target f instrs front
    → placed f (input (i.at + length front) rest i.target) ≡ ended fault → (instrs_of (placed f i).items ≡ instrs) × ((placed f i).fault ≡ fault)
placed_to f i instrs front rest fault h whole p end =
    let j = joined_at f i instrs front rest h whole p in
    let all : placed f i ≡ placing (j.before ++ []) fault = j.whole ∙ ap (λ (l : Placing). placing (j.before ++ l.items) l.fault) end in
    (ap (λ (l : Placing). instrs_of l.items) all ∙ ap instrs_of (append-nil j.before) ∙ j.are, ap (λ (l : Placing). l.fault) all)

pub program_placed : (f : Factors) (i : Input) (instrs : List Instr) → AreBytes i.bytes → ProgramSpells i.target f instrs i.bytes → (instrs_of (placed f i).items ≡ instrs) × ((placed f i).fault ≡ None)
program_placed f i instrs h p = placed_to f i instrs i.bytes [] None h (sym (append-nil i.bytes)) p (placed_end f (input (i.at + length i.bytes) [] i.target) refl)

pub placed_program : (f : Factors) (i : Input) → AreBytes i.bytes → (placed f i).fault ≡ None → ProgramSpells i.target f (instrs_of (placed f i).items) i.bytes
placed_program f i h none =
    let items = (placed f i).items in
    let d = behind_all f i None h none in
    let all : d.front ≡ i.bytes = sym (append-nil d.front) ∙ ap (λ (r : List ℕ). d.front ++ r) (sym (left_behind f i items [] None d)) ∙ sym d.whole in
    subst (λ (b : List ℕ). ProgramSpells i.target f (instrs_of items) b) all d.read

pub fault_placed : (f : Factors) (i : Input) (instrs : List Instr) (r : Refusal) → AreBytes i.bytes → ProgramFault i.target f i.at i.bytes instrs r → (instrs_of (placed f i).items ≡ instrs) × ((placed f i).fault ≡ Some r)
fault_placed f i instrs r h p =
    let here = input (i.at + length p.front) (p.code ∷ p.operands) i.target in
    placed_to f i instrs p.front (p.code ∷ p.operands) (Some r) h p.whole p.read (placed_stuck f here r (omega arith) (fault_stuck f i.target here.at p.code p.operands r p.fault))

pub stuck_program : (f : Factors) (i : Input) (instrs : List Instr) (r : Refusal) (front rest : List ℕ) → AreBytes rest → i.bytes ≡ front ++ rest → ProgramSpells i.target f instrs front
    → 0 < length rest → instr_at f (input (i.at + length front) rest i.target) ≡ Err r → ProgramFault i.target f i.at i.bytes instrs r
stuck_program f i instrs r front [] h whole read some stuck = absurd (omega (arith, some))
stuck_program f i instrs r front (code ∷ operands) h whole read some stuck = record {
  front = front;
  code = code;
  operands = operands;
  whole = whole;
  read = read;
  fault = stuck_fault f i.target (i.at + length front) code operands r (λ k. h (suc k)) stuck;
}

pub placed_fault : (f : Factors) (i : Input) (r : Refusal) → AreBytes i.bytes → (placed f i).fault ≡ Some r → ProgramFault i.target f i.at i.bytes (instrs_of (placed f i).items) r
placed_fault f i r h e =
    let items = (placed f i).items in
    let d = behind_all f i (Some r) h e in
    let left = left_behind f i items [] (Some r) d in
    stuck_program f i (instrs_of items) r d.front d.rest d.bytes d.whole d.read left.0 left.1

-- ---- an iterator

lists : (f : Factors) (i : Input) (instrs : List Instr) (fault : Option Refusal) → ((instrs_of (placed f i).items ≡ instrs) × ((placed f i).fault ≡ fault)) ↔ listing f i ≡ record { items = instrs; fault = fault }
unfolding listing
lists f i instrs fault = ((λ so. rw (so.0, so.1) refl), λ e. (ap (λ (l : Listing). l.items) e, ap (λ (l : Listing). l.fault) e))

-- one that is made at the front of a program
pub made_program : (f : Factors) (t : Target) (at : ℕ) (bytes : List ℕ) (made : Input) → made ≡ input at bytes t → AreBytes bytes → (instrs : List Instr) → ProgramSpells t f instrs bytes ↔ left_of false f made ≡ complete instrs
unfolding left_of
made_program f t at bytes made is h instrs =
    let here = input at bytes t in
    let so = lists f here instrs None in
    rw is ((λ p. so.0 (program_placed f here instrs h p)), λ e. subst (λ (l : List Instr). ProgramSpells t f l bytes) (so.1 e).0 (placed_program f here h (so.1 e).1))

pub made_fault : (f : Factors) (t : Target) (at : ℕ) (bytes : List ℕ) (made : Input) → made ≡ input at bytes t → AreBytes bytes → (instrs : List Instr) (r : Refusal) → ProgramFault t f at bytes instrs r ↔ left_of false f made ≡ faulty instrs r
unfolding left_of
made_fault f t at bytes made is h instrs r =
    let here = input at bytes t in
    let so = lists f here instrs (Some r) in
    rw is ((λ p. so.0 (fault_placed f here instrs r h p)), λ e. subst (λ (l : List Instr). ProgramFault t f at bytes l r) (so.1 e).0 (placed_fault f here r h (so.1 e).1))

-- what it answers, and what is left then
pub yields_end : (f : Factors) (i : Input) → length i.bytes ≡ 0 → left_of false f i ≡ ended None
unfolding left_of listing
yields_end f i e = ap plain_of (placed_end f i e)

pub yields_instr : (f : Factors) (i new : Input) (instr : Instr) → AreBytes i.bytes → instr_at f i ≡ done (instr, new) → left_of false f i ≡ put instr (left_of false f new)
unfolding left_of listing
yields_instr f i new instr h e = ap plain_of (placed_step f i (instr, new) h (omega (arith, (reads f i (instr, new) h e).shorter)) e)

pub yields_fault : (f : Factors) (i : Input) (r : Refusal) → 0 < length i.bytes → instr_at f i ≡ Err r → left_of false f i ≡ ended (Some r)
unfolding left_of listing
yields_fault f i r some e = ap plain_of (placed_stuck f i r some e)

-- ---- places

-- what cannot be read behind a front has its fault in the program or at its end
pub stuck_within : (f : Factors) (i : Input) (front rest : List ℕ) (r : Refusal) → AreBytes i.bytes → i.bytes ≡ front ++ rest → instr_at f (input (i.at + length front) rest i.target) ≡ Err r
    → (i.at ≤ r.at) × (r.at ≤ i.at + length i.bytes)
stuck_within f i front rest r h whole stuck =
    let here = input (i.at + length front) rest i.target in
    let are : AreBytes rest = taken_bytes i here front (record { bytes = whole; at = refl; target = refl }) h in
    let stays : Stays {X = Instr} here (Err r) = subst (λ (x : Read Instr). Stays here x) stuck (instr_stays f here are) in
    (omega (arith, stays.0), omega (arith, stays.1, ap length whole, length-append front rest))

fault_place : (f : Factors) (i : Input) → AreBytes i.bytes → (o : Option Refusal) → (placed f i).fault ≡ o → IfSome o (λ r. (i.at ≤ r.at) × (r.at ≤ i.at + length i.bytes))
fault_place f i h None e = tt
fault_place f i h (Some r) e = let d = behind_all f i (Some r) h e in stuck_within f i d.front d.rest r h d.whole (left_behind f i (placed f i).items [] (Some r) d).1

pub made_place : (f : Factors) (t : Target) (at : ℕ) (bytes : List ℕ) (made : Input) → made ≡ input at bytes t → AreBytes bytes → IfSome (left_of false f made).fault (λ r. (at ≤ r.at) × (r.at ≤ at + length bytes))
unfolding left_of listing
made_place f t at bytes made is h = rw is (fault_place f (input at bytes t) h (placed f (input at bytes t)).fault refl)

pub ruleset yields = (yields_end, yields_instr, yields_fault)
