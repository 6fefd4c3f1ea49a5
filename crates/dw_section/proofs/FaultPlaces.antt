-- The first fault of a section lies in it or at its end.
use Rattle.dw_section.proofs.Words.{◌≡◌, ℕ, ◌+◌, ◌≤◌, List, length, Result, Err, ap, subst, arith, inl, inr, ◌⊎◌, ◌==◌, ◌&&◌, nat_lt, IfErr, length-append, length-drop, AllByRecursion, Refusal, Order, Target, Input, AreBytes, Read}
use Rattle.dw_section.proofs.Words.{input_of, ReadError, CheckFault, Item, Piece, all_bytes, id_width, IsWithin, Refuses, CutFault, Head, cie, fde, Has, Headers, CieStuck, FdeStuck, HeadersFault, contents_of, HasBytes, head_at, Range}
use Rattle.dw_section.proofs.Words.{nonempty, IsAmong, cie_places, CieBroken, FdeBroken, LacksRule, factors_of, Fields, cie_fields, CieHolds, FdeHolds, CieRuns, FdeRuns, HasRules, fde_fields, FieldsFault, StandsIn, cases_lt, lt-ltb, le-ltb}
use Rattle.dw_section.proofs.Words.{unit_length_at, stays-then, either_stays, unit_length_stays, cie_within, fde_within, is_32, body_at, item_at, head_program, IfErr-weaker, refuses_by, UnitLength}
use Rattle.dw_num.proofs.Lent.Stays.{Stays}
use Rattle.dw_section.proofs.{Lent.HeaderLaws.fields_end, Lent.Heads.{heads_bytes, all_in}, FieldLaws.{fault_is, fields_stay}, Stages.{holds_at, stuck_among}, Lent.Sections.range_head, StandLaws.{piece_ends, stands_in, stands_of}}

-- ---- items

body_stays : (i : Input) (u : UnitLength) (j : Input) → (i.at ≤ j.at) × (j.at + length j.bytes ≡ i.at + length i.bytes) → Stays i (body_at i.at u j)
body_stays i u j h =
    either_stays (u.length == 0 && is_32 u.form) i _ _ h
    (elim (cases_lt (length j.bytes) u.length) [
      | inl short ↦ rw (lt-ltb (length j.bytes) u.length short) (omega arith, omega arith)
      | inr long ↦ rw (le-ltb (length j.bytes) u.length long) (either_stays (nat_lt u.length (id_width u.form)) i _ _ (omega (arith, h.0), omega (arith, h.1)) (omega (arith, h.0), omega (arith, h.1, length-drop u.length j.bytes)))
    ])

pub item_stays : (i : Input) → Stays i (item_at i)
unfolding item_at
item_stays i = stays-then i (unit_length_at i) (λ u. body_at i.at u.0 u.1) (unit_length_stays i) (λ u e k. body_stays i u.0 u.1 k)

pub cut_within : (target : Target) (s : List ℕ) (r : Refusal) → CutFault target s r → IsWithin s r
cut_within target s r (inl h) = let zero_at : r.at ≡ 0 = ap (λ (x : Refusal). x.at) h.1 in omega (arith, zero_at)
cut_within target s r (inr (small, w)) =
    let i : Input = record { at = length (all_bytes target.order w.items); bytes = w.rest; target = target } in
    let stays : Stays {X = Item} i (Err r) = subst (λ (read : Read Item). Stays i read) w.stuck (item_stays i) in
    omega (arith, stays.1, ap length w.whole, length-append (all_bytes target.order w.items) w.rest)

-- ---- entries

abbrev pub EndsBy : ℕ → Piece → Type 0
EndsBy end p = (p.at ≤ end) × (p.contents.at + length p.contents.bytes ≤ end)

-- an entry ends in the bytes
pub stand_ends : (order : Order) (s : List ℕ) (p : Piece) → StandsIn order s p → EndsBy (length s) p
stand_ends order s p w =
    let e = piece_ends order (length w.front) w.item p w.piece in
    let len = simp length-append at (ap length w.whole) in
    (omega (arith, e.0, len), omega (arith, e.1, len))

-- what is wrong with the fields of an entry that stands
pub stuck_within : {X : Type 0} (fs : Fields X) (target : Target) (s : List ℕ) (p : Piece) (r : Refusal) → StandsIn target.order s p → FieldsFault fs (contents_of target p) r → IsWithin s r
stuck_within {X} fs target s p r stands fault =
    let stays : Stays {X = X} (contents_of target p) (Err r) = subst (λ (read : Read X). Stays (contents_of target p) read) ((fault_is fs (contents_of target p) r).0 fault) (fields_stay fs (contents_of target p)) in
    omega (arith, stays.1, (stand_ends target.order s p stands).1)

pub headers_within : (target : Target) (s : List ℕ) (r : Refusal) → HeadersFault target s r → IsWithin s r
headers_within target s r (inl (inl h)) = cut_within target s r h
headers_within target s r (inl (inr (ps, cut, w))) = stuck_within (cie_fields target.size w.it.form) target s w.it r (stands_in target s ps w.it cut (stuck_among (CieHolds target) (CieStuck target) ps r w)) w.stuck.1
headers_within target s r (inr (ps, cies, w)) =
    stuck_within (fde_fields target.size (cie_places ps) w.it.form) target s w.it r (stands_in target s ps w.it cies.0 (stuck_among (FdeHolds target (cie_places ps)) (FdeStuck target (cie_places ps)) ps r w)) w.stuck.1

-- ---- headers

abbrev pub Good : ℕ → Head → Type 0
Good end h = ((head_at h ≤ end) × ((head_program h).at + length (head_program h).bytes ≤ end)) × HasBytes h

pub has_good : (target : Target) (places : List ℕ) (end : ℕ) (p : Piece) (h : Head) → EndsBy end p → HasBytes h → Has target places p h → Good end h
has_good target places end p h ends bytes (inl c) = let e = fields_end target p _ c.0 c.1 c.2.1 in (rw (c.3) (ends.0, omega (arith, e, ends.1)), bytes)
has_good target places end p h ends bytes (inr c) = let e = fields_end target p _ c.0 c.1 c.2.1 in (rw (c.3) (ends.0, omega (arith, e, ends.1)), bytes)

good : (target : Target) (s : List ℕ) (hs : List Head) (h : Head) → AreBytes s → Headers target s hs → IsAmong h hs → Good (length s) h
good target s hs h bytes p i =
    let w = stands_of target s hs h p i in
    has_good target (cie_places p.entries) (length s) w.0 h (stand_ends target.order s w.0 w.1) (all_in HasBytes hs h (heads_bytes target s hs bytes p) i) w.2

-- what is wrong with a program, or with the rules of an FDE
own_within : (target : Target) (hs : List Head) (s : List ℕ) (r : Refusal) (h : Head) → Good (length s) h → CieBroken target h r ⊎ (FdeBroken target hs h r ⊎ LacksRule target hs h r) → IsWithin s r
own_within target hs s r (cie c) good (inl broken) = let within = cie_within _ (input_of target c.program) r good.1 broken in omega (arith, within.1, good.0.1)
own_within target hs s r (fde f) good (inr (inl broken)) = let within = fde_within (factors_of broken.0) _ (input_of target f.program) f.begin r good.1 broken.3 in omega (arith, within.1, good.0.1)
own_within target hs s r (fde f) good (inr (inr lacks)) = omega (arith, ap (λ (x : Refusal). x.at) lacks.0, good.0.0)
own_within target hs s r (cie c) good (inr none) = absurd (elim none [ inl broken ↦ broken | inr lacks ↦ lacks ])
own_within target hs s r (fde f) good (inl none) = absurd none

-- ---- stages

-- an FDE's range has the FDE's place
pub check_within : (target : Target) (s : List ℕ) → AreBytes s → (r : Refusal) → CheckFault target s r → IsWithin s r
check_within target s bytes r (inl (inl (inl (inl h)))) = headers_within target s r h
check_within target s bytes r (inl (inl (inl (inr (hs, p, w))))) = own_within target hs s r w.it (good target s hs w.it bytes p (stuck_among (CieRuns target) (CieBroken target) hs r w)) (inl w.stuck)
check_within target s bytes r (inl (inl (inr (hs, p, w)))) = own_within target hs s r w.it (good target s hs w.it bytes p.0 (stuck_among (FdeRuns target hs) (FdeBroken target hs) hs r w)) (inr (inl w.stuck))
check_within target s bytes r (inl (inr (hs, p, w))) = own_within target hs s r w.it (good target s hs w.it bytes p.0.0 (stuck_among (HasRules target hs) (LacksRule target hs) hs r w)) (inr (inr w.stuck))
check_within target s bytes r (inr (index, (hs, hold, is), w)) =
    let from = holds_at (λ (x : Range). IsAmong x (nonempty hs)) w.before w.it w.after (subst (AllByRecursion (λ (x : Range). IsAmong x (nonempty hs))) w.whole is.from) in
    let o = range_head hs w.it from in
    omega (arith, ap (λ (x : Refusal). x.at) w.is, ap (λ (x : Range). x.at) o.covers, (good target s hs (fde o.head) bytes hold.0.0.0 o.among).0.0)

pub errors_within : {V : Type 0} (s : List ℕ) (result : Result V ReadError) (Fault : Refusal → Type 0) → ((r : Refusal) → Fault r → IsWithin s r) → IfErr result (Refuses Fault) → IfErr result (Refuses (IsWithin s))
errors_within s result Fault within h = IfErr-weaker result (Refuses Fault) (Refuses (IsWithin s)) (λ e. refuses_by e Fault (IsWithin s) within) h
