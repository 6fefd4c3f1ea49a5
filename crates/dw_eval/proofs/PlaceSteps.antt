-- What one step of a description tells of its run.
use Rattle.dw_eval.specs.{Space.{PlaceInSpace, ArePlacesInSpace}, declared.place.Part.Part, declared.stack.Flow.Flow, declared.stack.Stop.Stop}
use Rattle.dw_eval.specs.declared.place.Piece as declared
use Rattle.dw_eval.specs.declared.stack.Flow.TheVariants as flow
use Rattle.dw_eval.specs.declared.stack.Stop.TheVariants as stop
use Rattle.dw_eval.proofs.Words.{◌≡◌, ℕ, ◌<◌, ◌≤◌, map, List, [], ◌∷◌, ◌++◌, length, Option, Some, None, Result, Ok, Err, ap, inl, arith, refl, sym, subst, slice_get, slice_get_within, Op, Reg, Piece, BitPiece, Implicit, StackValue, Nop, bare}
use Rattle.dw_eval.proofs.Words.{branch_target, AllInRange, TargetWithin, EvalError, Fault, OutOfMemory, Kind, StackUnderflow, MissingPiece, Unreadable, Place, Context, context, read_at, OpEffect, Next, known, on_top, push}
use Rattle.dw_eval.proofs.{Words.{Faults, effect, Leaves, LeavesOver, StepsWithoutMemory, state_of, PlaceState, place_reads, place_here, with_piece, with_value, bare_piece, pieces_of, free_step, held_step, refused, step_by, place_step, StepsTo, Does}, Effects.{InSpace, StepTells, effect_tells, leads_tells, led_within, in_range_at}}
use Rattle.dw_eval.proofs.Steps.{acted}
use Rattle.std.specs.Borrow.{Bor}
use Rattle.dw_eval.specs.{Effect.ReadsMemory, Inner.{Steps.{refusal, reached, ActsOn}, Location.place_led}, Location.with_stack, declared.{description.Description.Description, env.Env.Env}}

-- a step without memory is one over a memory that stays
pub steps_so : (step : Result PlaceState Kind) (Read : Type 0) (i before : ℕ) (state : ℕ → PlaceState) (result : Result ℕ EvalError) (after : ℕ) → StepsWithoutMemory step i state result → after ≡ before → StepsTo step Read i before state result after
steps_so step Read i before state (Ok next) after h same = (h, same)
steps_so step Read i before state (Err OutOfMemory) after h same = same
steps_so step Read i before state (Err (Fault kind j)) after h same = (h.1, inl (h.0, same))

-- ---- an operation that is refused

pub refusal_so : (o : OpEffect) (answer : Result Flow Stop) (stack : List ℕ) (i : ℕ) (state : ℕ → PlaceState) (e : EvalError) → Does o answer stack → e ≡ refusal i answer → StepsWithoutMemory (refused o) i state (Err e)
refusal_so o answer stack i state e h is = rw is (of answer h)
  where
    of : (answer : Result Flow Stop) → Does o answer stack → StepsWithoutMemory (refused o) i state (Err (refusal i answer))
    of (Ok flow.Next) h = (ap refused h, refl)
    of (Ok (flow.Jump j)) h = (ap refused h, refl)
    of (Err (stop.Fault StackUnderflow)) h = (ap refused h, refl)
    of (Err (stop.Fault kind)) h = (ap refused h, refl)
    of (Err stop.Device) h = absurd h
    of (Err stop.OutOfMemory) h = tt

-- one that reads is refused as one that takes the top
reads : (c : Context) (k : ℕ) (stack : List ℕ) → refused (on_top stack (λ t below. known (Unreadable t k) (read_at c t k) (λ v. push c.target.size v below))) ≡ refused (on_top stack (λ t below. Next below))
reads c k [] = refl
reads c k (t ∷ below) = of (read_at c t k)
  where
    of : (o : Option ℕ) → refused (known (Unreadable t k) o (λ v. push c.target.size v below)) ≡ Err MissingPiece
    of None = refl
    of (Some v) = refl

pub read_refusal : (c : Context) (k : ℕ) (stack new : List ℕ) (answer : Result Flow Stop) (i : ℕ) (state : ℕ → PlaceState) (e : EvalError) → Does (on_top stack (λ t below. Next below)) answer new → e ≡ refusal i answer
    → StepsWithoutMemory (refused (on_top stack (λ t below. known (Unreadable t k) (read_at c t k) (λ v. push c.target.size v below)))) i state (Err e)
read_refusal c k stack new answer i state e h is =
    let P : Result PlaceState Kind → Type 0 = λ step. StepsWithoutMemory step i state (Err e) in
    subst P (sym (reads c k stack)) (refusal_so (on_top stack (λ t below. Next below)) answer new i state e h is)

-- where it is no piece and no nop
pub held_else : (env : Env) (byte : ℕ → Option ℕ) (op : Op) (s : PlaceState) (i : ℕ) (d : Description) (result : Result ℕ EvalError) → ((n : ℕ) → op ≡ Piece n → ⊥) → ((n k : ℕ) → op ≡ BitPiece n k → ⊥) → (op ≡ Nop → ⊥)
    → ((byte : ℕ → Option ℕ) → Leaves (refused (effect (context env byte) (bare op) s.stack)) i d result) → Leaves (held_step (context env byte) (bare op) s) i d result
held_else env byte (Piece n) s i d result piece bits nop h = absurd (piece n refl)
held_else env byte (BitPiece n k) s i d result piece bits nop h = absurd (bits n k refl)
held_else env byte Nop s i d result piece bits nop h = absurd (nop refl)
held_else env byte op s i d result piece bits nop h = h byte

-- a step while a place is pending
pub held_so : (env : Env) (byte : ℕ → Option ℕ) (op : Op) (i before : ℕ) (old new : Description) (place : Place) (result : Result ℕ EvalError) (after : ℕ) → (state_of i old).pending ≡ Some place
    → ((byte : ℕ → Option ℕ) → Leaves (held_step (context env byte) op (state_of i old)) i new result) → after ≡ before → LeavesOver (context env byte) op i old before new result after
held_so env byte op i before old new place result after e h same =
    let c = context env byte in let s = state_of i old in let Read = place_reads c op s in let state : ℕ → PlaceState = λ next. state_of next new in
    let P : Option Place → Type 0 = λ p. StepsTo (step_by c op p s) Read i before state result after in
    subst P (sym e) (steps_so (held_step c op s) Read i before state result after (h byte) same)

module _ (c : Context) (op : Op) (s : PlaceState) (before : ℕ) (result : Result ℕ EvalError) (after : ℕ) (none : s.pending ≡ None) where
  abbrev Goes : Option Place → Type 0 → (ℕ → PlaceState) → Type 0
  Goes pending Read state = StepsTo (step_by c op pending s) Read s.index before state result after

  -- a step without memory while no place is pending
  pub free_so : (Read : Type 0) (state : ℕ → PlaceState) → StepsWithoutMemory (free_step c op s) s.index state result → after ≡ before → Goes s.pending Read state
  free_so Read state h same = subst (λ (p : Option Place). Goes p Read state) (sym none) (steps_so (free_step c op s) Read s.index before state result after h same)

-- where an operation is none of those that make a place
free_else : (c : Context) (op : Op) (s : PlaceState) → ((r : ℕ) → op ≡ Reg r → ⊥) → ((n : ℕ) → op ≡ Piece n → ⊥) → ((n k : ℕ) → op ≡ BitPiece n k → ⊥) → ((b : Bor (List ℕ)) → op ≡ Implicit b → ⊥) → (op ≡ StackValue → ⊥)
    → free_step c (bare op) s ≡ place_led s (effect c (bare op) s.stack)
free_else c (Reg r) s reg piece bits block value = absurd (reg r refl)
free_else c (Piece n) s reg piece bits block value = absurd (piece n refl)
free_else c (BitPiece n k) s reg piece bits block value = absurd (bits n k refl)
free_else c (Implicit b) s reg piece bits block value = absurd (block b refl)
free_else c StackValue s reg piece bits block value = absurd (value refl)
free_else c op s reg piece bits block value = refl

pub free_acts : (c : Context) (op : Op) (s : PlaceState) (before : ℕ) (answer : Result Flow Stop) (new : List ℕ) (after : ℕ) (result : Result ℕ EvalError) → s.pending ≡ None → ((r : ℕ) → op ≡ Reg r → ⊥) → ((n : ℕ) → op ≡ Piece n → ⊥)
    → ((n k : ℕ) → op ≡ BitPiece n k → ⊥) → ((b : Bor (List ℕ)) → op ≡ Implicit b → ⊥) → (op ≡ StackValue → ⊥) → ActsOn c (bare op) s.stack before answer new after → result ≡ reached s.index answer
    → StepsTo (place_step c (bare op) s) (place_reads c (bare op) s) s.index before (λ n. with_stack n new s) result after
free_acts c op s before answer new after result none reg piece bits block value h e =
    let P : Result PlaceState Kind → Type 0 = λ step. StepsTo step (place_reads c (bare op) s) s.index before (λ n. with_stack n new s) result after in
    let led = acted (λ n stack. with_stack n stack s) (effect c (bare op) s.stack) (ReadsMemory c (bare op) s.stack) (place_reads c (bare op) s) (λ read. (none, read)) s.index before answer new after result h e in
    subst (λ (p : Option Place). P (step_by c (bare op) p s)) (sym none) (subst P (sym (free_else c op s reg piece bits block value)) led)

-- ---- what every step keeps

abbrev PendingInSpace : Context → Option Place → Type 0
PendingInSpace c None = Unit {0}
PendingInSpace c (Some place) = PlaceInSpace c.target.size place

pub record StateInSpace (c : Context) (s : PlaceState) : Type 0 where
  pub stack : InSpace c s.stack
  pub pending : PendingInSpace c s.pending
  pub pieces : ArePlacesInSpace c.target.size s.pieces

pub here_in_space : (c : Context) (pending : Option Place) (stack : List ℕ) → PendingInSpace c pending → InSpace c stack → PlaceInSpace c.target.size (place_here pending stack)
here_in_space c (Some place) stack h w = h
here_in_space c None [] h w = tt
here_in_space c None (t ∷ below) h w = w.0

pieces_more : (c : Context) (pieces : List declared.Piece) (piece : declared.Piece) → ArePlacesInSpace c.target.size pieces → PlaceInSpace c.target.size piece.place → ArePlacesInSpace c.target.size (pieces ++ piece ∷ [])
pieces_more c [] piece h w = (w, tt)
pieces_more c (first ∷ pieces) piece h w = (h.0, pieces_more c pieces piece h.1 w)

module _ (c : Context) where
  -- it leads to a place of the list, and leaves numbers below 2 ^ N
  abbrev pub Leads : Op → PlaceState → PlaceState → Type 0
  Leads op s s' = ((len : ℕ) → s.index < len → TargetWithin len (branch_target op) → s'.index ≤ len) × (StateInSpace c s → StateInSpace c s')

  piece_tells : (op : Op) (part : Part) (s : PlaceState) → Leads op s (with_piece part s)
  piece_tells op part s = (λ len lt within. omega (arith, lt), λ h. record { stack = tt; pending = tt; pieces = pieces_more c s.pieces _ h.pieces (here_in_space c s.pending s.stack h.pending h.stack) })

  value_tells : (s : PlaceState) (stack : List ℕ) → s.stack ≡ stack → StepTells c (Leads StackValue s) (with_value stack s)
  value_tells s [] e = tt
  value_tells s (t ∷ below) e = (λ len lt within. omega (arith, lt), λ h. let all : InSpace c (t ∷ below) = subst (InSpace c) e h.stack in record { stack = all.1; pending = all.0; pieces = h.pieces })

  free_tells : (op : Op) (s : PlaceState) → StepTells c (Leads op s) (free_step c op s)
  free_tells (Reg r) s = (λ len lt within. omega (arith, lt), λ h. record { stack = h.stack; pending = tt; pieces = h.pieces })
  free_tells (Implicit block) s = (λ len lt within. omega (arith, lt), λ h. record { stack = h.stack; pending = tt; pieces = h.pieces })
  free_tells StackValue s = value_tells s s.stack refl
  free_tells (Piece n) s = piece_tells (Piece n) _ s
  free_tells (BitPiece n k) s = piece_tells (BitPiece n k) _ s
  free_tells op s = leads_tells c (Leads op s) _ s.index op s.stack (effect c op s.stack) (effect_tells c op s.stack)
      (λ j new goes keeps. (λ len lt within. led_within len s.index j (branch_target op) goes lt within, λ h. record { stack = keeps h.stack; pending = h.pending; pieces = h.pieces }))

  refused_tells : (op : Op) (s : PlaceState) (o : OpEffect) → StepTells c (Leads op s) (refused o)
  refused_tells op s (Faults StackUnderflow) = tt
  refused_tells op s (Faults kind) = tt
  refused_tells op s o = tt

  held_tells : (op : Op) (s : PlaceState) → StepTells c (Leads op s) (held_step c op s)
  held_tells (Piece n) s = piece_tells (Piece n) _ s
  held_tells (BitPiece n k) s = piece_tells (BitPiece n k) _ s
  held_tells Nop s = (λ len lt within. omega (arith, lt), λ h. record { stack = h.stack; pending = h.pending; pieces = h.pieces })
  held_tells op s = refused_tells op s (effect c op s.stack)

  place_tells : (op : Op) (pending : Option Place) (s : PlaceState) → StepTells c (Leads op s) (step_by c op pending s)
  place_tells op None s = free_tells op s
  place_tells op (Some place) s = held_tells op s

  pub step_tells : (op : Op) (s : PlaceState) → StepTells c (Leads op s) (place_step c op s)
  step_tells op s = place_tells op s.pending s

-- an operation in range leads to an operation or to the end
pub place_stays : (c : Context) (ops : List Op) → AllInRange c.target ops → (op : Op) (s s' : PlaceState) → slice_get ops s.index ≡ Some op → place_step c op s ≡ Ok s' → s'.index ≤ length ops
place_stays c ops range op s s' stands goes =
    (subst (StepTells c (Leads c op s)) goes (step_tells c op s)).0 (length ops) (slice_get_within ops s.index op stands) (in_range_at c.target (length ops) ops s.index op range stands).within_list

-- behind pieces
pub behind_pieces : (len : ℕ) (pending : Option Place) (stack : List ℕ) (items : List declared.Piece) (answer : List declared.Piece → Result (List declared.Piece) EvalError) → 0 < length items
    → ((piece : declared.Piece) (pieces : List declared.Piece) → pieces_of len pending stack (piece ∷ pieces) ≡ answer (piece ∷ pieces)) → pieces_of len pending stack (map bare_piece items) ≡ answer (map bare_piece items)
behind_pieces len pending stack [] answer some h = absurd (omega arith)
behind_pieces len pending stack (x ∷ xs) answer some h = h (bare_piece x) (map bare_piece xs)
