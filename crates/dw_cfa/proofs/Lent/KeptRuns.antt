-- Programs that keep their rules are run to their end, and others are not.
use Rattle.dw_cfa.proofs.Words.{◌≡◌, ℕ, zero, suc, ◌+◌, ◌<◌, ◌≤◌, true, cond, List, [], ◌∷◌, length, Some, None, refl, sym, subst, arith, IsTrue, slice_get, nat_lt, sum_by-cons, nat_tests, lt-ltb, le-ltb, cases_Bool, inl, inr}
use Rattle.dw_cfa.proofs.Words.{LocationTooLarge, StateStackFull, CfaRule, Instr, LocatedRow, Placed, Rules, State, SetLoc, Advance, DefCfaRegister, DefCfaOffset, RememberState, RestoreState, onto, location_back, look_back, cfa_change}
use Rattle.dw_cfa.proofs.Words.{is_remember, is_restore, keeps_half, IsRegisterRule, remembered, restored, after, half_fault, fde_fault, InLimit}
use Rattle.dw_cfa.proofs.{Lent.{Forward.{Follows, after_follows}, RowsAt.{instrs_of, Gives, gives_run, forwards, stays}}, Stops.{AllRun, ends}}
use Rattle.dw_row.specs.declared.rule.CfaRule.TheVariants as cfa

-- what a state has to do with the instructions that led to it
pub record Stands (limit begin : ℕ) (initial : Rules) (earlier : List Instr) (s : State) : Type 0 where
  pub follows : Follows initial begin earlier s
  pub balance : length s.stack + restored earlier ≡ remembered earlier
  pub room : length s.stack ≤ 64
  pub within : s.location ≤ limit

-- the rules that an FDE's program keeps, behind instructions that came earlier
pub record KeptFrom (limit begin : ℕ) (initial : CfaRule) (earlier instrs : List Instr) : Type 0 where
  pub halves : (k : ℕ) (i : Instr) → slice_get instrs k ≡ Some i → IsTrue (keeps_half i) → IsRegisterRule (look_back cfa_change initial 0 (onto earlier instrs k))
  pub forwards : (k : ℕ) → k < length instrs → location_back begin (onto earlier instrs k) ≤ location_back begin (onto earlier instrs (suc k))
  pub in_space : (k : ℕ) → k ≤ length instrs → location_back begin (onto earlier instrs k) ≤ limit
  pub matched : (k : ℕ) → k ≤ length instrs → restored (onto earlier instrs k) ≤ remembered (onto earlier instrs k)
  pub room : (k : ℕ) → k ≤ length instrs → remembered (onto earlier instrs k) ≤ restored (onto earlier instrs k) + 64

-- every address is within the limit
abbrev pub AllInLimit : ℕ → List Instr → Type 0
AllInLimit limit [] = Unit {0}
AllInLimit limit (i ∷ instrs) = InLimit limit i × AllInLimit limit instrs

pub more_remembered : (i : Instr) (earlier : List Instr) → remembered (i ∷ earlier) ≡ cond (is_remember i) 1 0 + remembered earlier
more_remembered i earlier = sum_by-cons (λ (x : Instr). cond (is_remember x) 1 0) i earlier

pub more_restored : (i : Instr) (earlier : List Instr) → restored (i ∷ earlier) ≡ cond (is_restore i) 1 0 + restored earlier
more_restored i earlier = sum_by-cons (λ (x : Instr). cond (is_restore x) 1 0) i earlier

-- ---- one instruction

within_after : (limit : ℕ) (initial : Rules) (i : Instr) (s : State) → InLimit limit i → s.location ≤ limit → fde_fault limit i s ≡ None → (after initial i s).location ≤ limit
within_after limit initial (SetLoc a) s address le e = address
within_after limit initial (Advance d) s address le e = let told : cond (nat_lt limit (s.location + d)) (Some LocationTooLarge) None ≡ None = e in grind (arith, nat_tests)
within_after limit initial RestoreState s address le e = let same = stays initial RestoreState s refl in omega arith
within_after limit initial i s address le e = le

stack_after : (limit : ℕ) (initial : Rules) (i : Instr) (earlier : List Instr) (row : Rules) (stack : List Rules) (location : ℕ)
    → length stack + restored earlier ≡ remembered earlier → length stack ≤ 64 → fde_fault limit i (record { row = row; stack = stack; location = location }) ≡ None
    → (length (after initial i (record { row = row; stack = stack; location = location })).stack + restored (i ∷ earlier) ≡ remembered (i ∷ earlier))
    × (length (after initial i (record { row = row; stack = stack; location = location })).stack ≤ 64)
stack_after limit initial RememberState earlier row stack location b r e =
    let told : cond (nat_lt (length stack) 64) None (Some StateStackFull) ≡ None = e in
    (omega (arith, more_remembered RememberState earlier, more_restored RememberState earlier), grind (arith, nat_tests))
stack_after limit initial RestoreState earlier row [] location b r e = absurd cc
stack_after limit initial RestoreState earlier row (top ∷ stack) location b r e = (omega (arith, more_remembered RestoreState earlier, more_restored RestoreState earlier), omega arith)
stack_after limit initial i earlier row stack location b r e = (b, r)

pub stands_after : (limit begin : ℕ) (initial : Rules) (i : Instr) (earlier : List Instr) (s : State) → Stands limit begin initial earlier s → InLimit limit i
    → fde_fault limit i s ≡ None → Stands limit begin initial (i ∷ earlier) (after initial i s)
stands_after limit begin initial i earlier s h address e =
    let stack = stack_after limit initial i earlier s.row s.stack s.location h.balance h.room e in
    record {
      follows = after_follows initial begin i earlier s limit h.follows e;
      balance = stack.0;
      room = stack.1;
      within = within_after limit initial i s address h.within e;
    }

-- half of the CFA's rule is kept only of a register and an offset
pub half_kept : (i : Instr) (c : CfaRule) → half_fault i c ≡ None → IsTrue (keeps_half i) → IsRegisterRule c
half_kept i (cfa.Register r n) e keeps = (r, n, refl)
half_kept i c e keeps = let not : keeps_half i ≡ true = keeps in let f = rw not at e in absurd cc

halves_kept : (limit : ℕ) (i : Instr) (s : State) → fde_fault limit i s ≡ None → IsTrue (keeps_half i) → IsRegisterRule s.row.cfa
halves_kept limit (DefCfaRegister r) s e keeps = half_kept (DefCfaRegister r) s.row.cfa e keeps
halves_kept limit (DefCfaOffset n) s e keeps = half_kept (DefCfaOffset n) s.row.cfa e keeps
halves_kept limit i s e keeps = absurd cc

-- ---- a program that is run keeps the rules

-- the state behind the first k instructions, and behind the next one there
behind : (limit begin : ℕ) (initial : Rules) (items : List Placed) (earlier : List Instr) (s : State) (k : ℕ) → Stands limit begin initial earlier s → AllInLimit limit (instrs_of items) → AllRun (fde_fault limit) (after initial) items s
    → (t : State) × Stands limit begin initial (onto earlier (instrs_of items) k) t
    × ((i : Instr) → slice_get (instrs_of items) k ≡ Some i → (fde_fault limit i t ≡ None) × Stands limit begin initial (onto earlier (instrs_of items) (suc k)) (after initial i t))
behind limit begin initial [] earlier s zero h all run = (s, h, λ i is. absurd cc)
behind limit begin initial [] earlier s (suc k) h all run = (s, h, λ i is. absurd cc)
behind limit begin initial (item ∷ items) earlier s zero h all run =
    let next = stands_after limit begin initial item.instr earlier s h all.0 run.0 in
    (s, h, λ i is. let same : item.instr ≡ i = cc in subst (λ (j : Instr). (fde_fault limit j s ≡ None) × Stands limit begin initial (item.instr ∷ earlier) (after initial j s)) same (run.0, next))
behind limit begin initial (item ∷ items) earlier s (suc k) h all run =
    behind limit begin initial items (item.instr ∷ earlier) (after initial item.instr s) k (stands_after limit begin initial item.instr earlier s h all.0 run.0) all.1 run.1

some_at : (instrs : List Instr) (k : ℕ) → k < length instrs → (i : Instr) × (slice_get instrs k ≡ Some i)
some_at [] k lt = absurd (omega arith)
some_at (i ∷ instrs) zero lt = (i, refl)
some_at (i ∷ instrs) (suc k) lt = some_at instrs k (omega arith)

pub kept_run : (limit begin : ℕ) (initial : Rules) (items : List Placed) (earlier : List Instr) (s : State) → Stands limit begin initial earlier s
    → AllInLimit limit (instrs_of items) → AllRun (fde_fault limit) (after initial) items s → KeptFrom limit begin initial.cfa earlier (instrs_of items)
kept_run limit begin initial items earlier s h all run = record {
  halves = λ k i is keeps. let t = behind limit begin initial items earlier s k h all run in subst IsRegisterRule t.1.follows.row.cfa (halves_kept limit i t.0 (t.2 i is).0 keeps);
  forwards = λ k lt.
      let some = some_at (instrs_of items) k lt in
      let t = behind limit begin initial items earlier s k h all run in
      let next = t.2 some.0 some.1 in
      omega (arith, t.1.follows.location, next.1.follows.location, forwards limit initial some.0 t.0 next.0);
  in_space = λ k le. let t = (behind limit begin initial items earlier s k h all run).1 in omega (arith, t.within, t.follows.location);
  matched = λ k le. let t = (behind limit begin initial items earlier s k h all run).1 in omega (arith, t.balance);
  room = λ k le. let t = (behind limit begin initial items earlier s k h all run).1 in omega (arith, t.balance, t.room);
}

pub kept_from : (limit begin : ℕ) (initial : Rules) (items : List Placed) (earlier : List Instr) (s : State) (rows : List LocatedRow) → Stands limit begin initial earlier s
    → AllInLimit limit (instrs_of items) → Gives limit initial items s rows → KeptFrom limit begin initial.cfa earlier (instrs_of items)
kept_from limit begin initial items earlier s rows h all e = kept_run limit begin initial items earlier s h all (gives_run limit initial items s rows e)

-- the state behind all of them
pub ended_stands : (limit begin : ℕ) (initial : Rules) (items : List Placed) (earlier : List Instr) (s : State) → Stands limit begin initial earlier s → AllInLimit limit (instrs_of items)
    → AllRun (fde_fault limit) (after initial) items s → Stands limit begin initial (onto earlier (instrs_of items) (length (instrs_of items))) (ends (after initial) items s)
ended_stands limit begin initial [] earlier s h all run = h
ended_stands limit begin initial (item ∷ items) earlier s h all run =
    ended_stands limit begin initial items (item.instr ∷ earlier) (after initial item.instr s) (stands_after limit begin initial item.instr earlier s h all.0 run.0) all.1 run.1

-- ---- and a program that keeps the rules is run

pub keeps_fault : (i : Instr) (c : CfaRule) → (IsTrue (keeps_half i) → IsRegisterRule c) → half_fault i c ≡ None
keeps_fault i (cfa.Register r n) h = refl
keeps_fault i c h = elim (cases_Bool (keeps_half i)) [
  | inl keeps ↦ let is = h keeps in let same : c ≡ cfa.Register is.0 is.1 = is.2 in absurd cc
  | inr not ↦ rw not refl
]

-- no fault stands against the first instruction of a program that keeps the rules
no_fault_first : (limit begin : ℕ) (initial : Rules) (i : Instr) (earlier instrs : List Instr) (row : Rules) (stack : List Rules) (location : ℕ)
    → Stands limit begin initial earlier (record { row = row; stack = stack; location = location }) → KeptFrom limit begin initial.cfa earlier (i ∷ instrs)
    → fde_fault limit i (record { row = row; stack = stack; location = location }) ≡ None
no_fault_first limit begin initial (SetLoc a) earlier instrs row stack location h k =
    let go : location_back begin earlier ≤ a = k.forwards 0 (omega arith) in rw (le-ltb a location (omega (arith, go, h.follows.location))) refl
no_fault_first limit begin initial (Advance d) earlier instrs row stack location h k =
    let within : location_back begin earlier + d ≤ limit = k.in_space 1 (omega arith) in rw (le-ltb limit (location + d) (omega (arith, within, h.follows.location))) refl
no_fault_first limit begin initial RememberState earlier instrs row stack location h k =
    let room : remembered (RememberState ∷ earlier) ≤ restored (RememberState ∷ earlier) + 64 = k.room 1 (omega arith) in
    rw (lt-ltb (length stack) 64 (omega (arith, room, h.balance, more_remembered RememberState earlier, more_restored RememberState earlier))) refl
no_fault_first limit begin initial RestoreState earlier instrs row [] location h k =
    let matched : restored (RestoreState ∷ earlier) ≤ remembered (RestoreState ∷ earlier) = k.matched 1 (omega arith) in
    absurd (omega (arith, matched, h.balance, more_remembered RestoreState earlier, more_restored RestoreState earlier))
no_fault_first limit begin initial RestoreState earlier instrs row (top ∷ stack) location h k = refl
no_fault_first limit begin initial i earlier instrs row stack location h k = keeps_fault i row.cfa (λ keeps. subst IsRegisterRule (sym h.follows.row.cfa) (k.halves 0 i refl keeps))

rest_kept : (limit begin : ℕ) (initial : CfaRule) (i : Instr) (earlier instrs : List Instr) → KeptFrom limit begin initial earlier (i ∷ instrs) → KeptFrom limit begin initial (i ∷ earlier) instrs
rest_kept limit begin initial i earlier instrs h = record {
  halves = λ k. h.halves (suc k);
  forwards = λ k lt. h.forwards (suc k) (omega arith);
  in_space = λ k le. h.in_space (suc k) (omega arith);
  matched = λ k le. h.matched (suc k) (omega arith);
  room = λ k le. h.room (suc k) (omega arith);
}

pub kept_runs : (limit begin : ℕ) (initial : Rules) (items : List Placed) (earlier : List Instr) (s : State) → Stands limit begin initial earlier s
    → AllInLimit limit (instrs_of items) → KeptFrom limit begin initial.cfa earlier (instrs_of items) → AllRun (fde_fault limit) (after initial) items s
kept_runs limit begin initial [] earlier s h all k = tt
kept_runs limit begin initial (item ∷ items) earlier s h all k =
    let none = no_fault_first limit begin initial item.instr earlier (instrs_of items) s.row s.stack s.location h k in
    let stands = stands_after limit begin initial item.instr earlier s h all.0 none in
    (none, kept_runs limit begin initial items (item.instr ∷ earlier) (after initial item.instr s) stands all.1 (rest_kept limit begin initial.cfa item.instr earlier (instrs_of items) k))
