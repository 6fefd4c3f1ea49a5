-- Walks from an operation on, and what they know of the block's starts.
use Rattle.dw_op.proofs.Words.{cases_lt, inl, inr, ◌≡◌, ℕ, ◌+◌, ◌<◌, ◌≤◌, List, [], ◌∷◌, ◌++◌, length, Option, Some, None, Result, Ok, Err, refl, sym, ap, subst, ◌∙◌, arith, eq-eqb, ne_eqb, length-append, append_assoc, Refusal, Target}
use Rattle.dw_op.proofs.Words.{Input, AreBytes, done, Location, Plain, Jump, Step, StepSpells, joined, step_at, PlacedStep, Walk, walk, end_of, plus, passed, Measure, Operations, LeastBytes, step_length, weight, sum_in, Shifted, Within}
use Rattle.dw_op.proofs.{Lent.LeastBlocks.length_of, LeastOf.least, ResolvedSteps.jump_length, Lent.ReadingLaws.step_found, Splits.{EachSpells, items_from, split_of, walk_step, walk_stuck, walk_end, step_shorter}}
use Rattle.dw_op.proofs.Decoded.{within_all, within_more}

abbrev starts_at : (Step → ℕ) → ℕ → Input → ℕ → Option ℕ
starts_at f end j place = passed f (walk Location j).items end place

-- one operation further, for a place behind its start
starts_step : (f : Step → ℕ) (end : ℕ) (j : Input) (x : Step × Input) (place : ℕ) → AreBytes j.bytes → step_at Location j ≡ done x → j.at < place → starts_at f end j place ≡ plus (f x.0) (starts_at f end x.1 place)
starts_step f end j x place h e lt =
    let ne : place ≡ j.at → ⊥ = λ same. omega arith in
    ap (λ (w : Walk). passed f w.items end place) (walk_step Location j x h e) ∙ rw (ne_eqb place j.at ne) refl

-- a walk without fault does not stop before the end
pub never_stuck : (j : Input) (r : Refusal) → (walk Location j).fault ≡ None → step_at Location j ≡ Err r → length j.bytes ≡ 0
never_stuck j r read e = elim (cases_lt 0 (length j.bytes)) [
  | inl some ↦ let k : Some r ≡ None = sym (ap (λ (w : Walk). w.fault) (walk_stuck Location j r some e)) ∙ read in absurd cc
  | inr none ↦ omega arith
]

-- where the input begins
starts_here : (f : Step → ℕ) (j : Input) → AreBytes j.bytes → (walk Location j).fault ≡ None → starts_at f (end_of j) j j.at ≡ Some 0
starts_here f j h read = go j.bytes refl (step_at Location j) refl
  where
    go : (l : List ℕ) → j.bytes ≡ l → (r : Result (Step × Input) Refusal) → step_at Location j ≡ r → starts_at f (end_of j) j j.at ≡ Some 0
    go [] empty r e = ap (λ (w : Walk). passed f w.items (end_of j) j.at) (walk_end Location j (ap length empty)) ∙ rw (eq-eqb j.at (end_of j) (omega (arith, ap length empty))) refl
    go (b ∷ l) full (Ok x) e = ap (λ (w : Walk). passed f w.items (end_of j) j.at) (walk_step Location j x h e) ∙ rw (eq-eqb j.at j.at refl) refl
    go (b ∷ l) full (Err r) e = absurd (omega (arith, ap length full, never_stuck j r read e))

-- where nothing lies there is no start
parts_off : (f : Step → ℕ) (t : Target) (steps : List Step) (parts : List (List ℕ)) (at end place : ℕ) → EachSpells Location t steps parts → at + length (joined parts) ≤ end → ((n : ℕ) → at ≤ n → n ≤ end → place ≡ n → ⊥) → passed f (items_from at steps parts) end place ≡ None
parts_off f t [] [] at end place h le off = rw (ne_eqb place end (off end (omega arith) (omega arith))) refl
parts_off f t (step ∷ steps) (part ∷ parts) at end place h le off =
    let len = length-append part (joined parts) in
    rw (ne_eqb place at (off at (omega arith) (omega arith)), parts_off f t steps parts (at + length part) end place h.1 (omega arith) (λ n from to. off n (omega arith) to)) refl
parts_off f t steps parts at end place h le off = absurd h

starts_off : (f : Step → ℕ) (j : Input) (place : ℕ) → AreBytes j.bytes → ((n : ℕ) → j.at ≤ n → n ≤ end_of j → place ≡ n → ⊥) → starts_at f (end_of j) j place ≡ None
starts_off f j place h off =
    let s = split_of Location j h in
    let le : j.at + length (joined s.parts) ≤ end_of j = omega (arith, ap length s.whole, length-append (joined s.parts) s.rest) in
    ap (λ (l : List PlacedStep). passed f l (end_of j) place) s.items ∙ parts_off f j.target s.steps s.parts j.at (end_of j) place s.each le off

plus_plus : (n m : ℕ) (o : Option ℕ) → plus (n + m) o ≡ plus n (plus m o)
plus_plus n m None = refl
plus_plus n m (Some k) = ap (λ (j : ℕ). Some j) (omega arith)

plus_zero : (o : Option ℕ) → plus 0 o ≡ o
plus_zero None = refl
plus_zero (Some k) = ap (λ (j : ℕ). Some j) (omega arith)

-- the walk over what is left is without fault
pub read_on : (i j : Input) (x : Step × Input) → Within i j → (walk Location j).fault ≡ None → step_at Location j ≡ done x → (walk Location x.1).fault ≡ None
read_on i j x h read e = sym (ap (λ (w : Walk). w.fault) (walk_step Location j x h.bytes e)) ∙ read

-- ---- windows

abbrev Front : List ℕ → List ℕ → Type 0
Front l m = (before : List ℕ) × (l ≡ before ++ m)

front_on : (l m n : List ℕ) → Front l m → Front m n → Front l n
front_on l m n h q = (h.0 ++ q.0, h.1 ∙ ap (λ (r : List ℕ). h.0 ++ r) q.1 ∙ sym (append_assoc h.0 q.0 n))

-- what an operation adds is not more than its bytes
spelling_within : (t : Target) (step : Step) (part : List ℕ) → StepSpells t step part → step_length t step ≤ length part
spelling_within t (Plain op) part h =
    let best = least t 0 0 op (record { bytes = part; spelled = h.0; within_list = rw h.1 tt }) in
    length_of _ part (best.least part h.0)
spelling_within t (Jump branch number) part h = omega (arith, jump_length t branch number part h)

weight_within : (m : Measure) (j : Input) (step : Step) (new : Input) → AreBytes j.bytes → step_at Location j ≡ done (step, new) → weight m j.target step + length new.bytes ≤ length j.bytes
weight_within Operations j step new h e = omega (arith, step_shorter Location j step new h e)
weight_within LeastBytes j step new h e =
    let found = step_found Location j new step h e in
    omega (arith, spelling_within j.target step found.part found.spells, ap length found.taken.bytes, length-append found.part new.bytes)

pub shifted_all : (m : Measure) (i : Input) (low : ℕ) → AreBytes i.bytes → (walk Location i).fault ≡ None → Shifted m i low 0 i
shifted_all m i low h read = record { within = within_all i h; read = read; few = omega arith; front = ([], refl); same = λ place le. plus_zero (sum_in m Location i place) }

-- there is room for one operation more
pub room_for : (m : Measure) (i : Input) (low count : ℕ) (j : Input) (step : Step) (new : Input) (n : ℕ) → Shifted m i low count j → step_at Location j ≡ done (step, new) → n ≡ weight m i.target step → (count + n) + length new.bytes ≤ length i.bytes
room_for m i low count j step new n h e is =
    let within : weight m i.target step + length new.bytes ≤ length j.bytes = subst (λ (t : Target). weight m t step + length new.bytes ≤ length j.bytes) h.within.target (weight_within m j step new h.within.bytes e) in
    omega (arith, h.few)

-- one operation further, where it begins below low
pub shifted_more : (m : Measure) (i : Input) (low count : ℕ) (j : Input) (step : Step) (new : Input) (n : ℕ) → Shifted m i low count j → step_at Location j ≡ done (step, new) → j.at < low → n ≡ weight m i.target step → Shifted m i low (count + n) new
shifted_more m i low count j step new n h e lt is =
    let f = weight m i.target in
    record {
      within = within_more Location i j (step, new) h.within e;
      read = read_on i j (step, new) h.within h.read e;
      few = room_for m i low count j step new n h e is;
      front = let found = step_found Location j new step h.within.bytes e in front_on i.bytes j.bytes new.bytes h.front (found.part, found.taken.bytes);
      same = λ place le.
          ap (λ (k : ℕ). plus (count + k) (starts_at f (end_of i) new place)) is
          ∙ plus_plus count (f step) (starts_at f (end_of i) new place) ∙ ap (λ (o : Option ℕ). plus count o) (sym (starts_step f (end_of i) j (step, new) place h.within.bytes e (omega arith))) ∙ h.same place le;
    }

pub shifted_later : (m : Measure) (i : Input) (low lower count : ℕ) (j : Input) → lower ≤ low → Shifted m i lower count j → Shifted m i low count j
shifted_later m i low lower count j le h = record { within = h.within; read = h.read; few = h.few; front = h.front; same = λ place l. h.same place (omega arith) }

-- a window in a window
pub shifted_on : (m : Measure) (i : Input) (low n k : ℕ) (j l : Input) → Shifted m i low n j → Shifted m j low k l → Shifted m i low (n + k) l
shifted_on m i low n k j l h q =
    let f = weight m i.target in
    let inner : (place : ℕ) → low ≤ place → plus k (starts_at f (end_of j) l place) ≡ starts_at f (end_of j) j place =
    λ place le. subst (λ (t : Target). plus k (starts_at (weight m t) (end_of j) l place) ≡ starts_at (weight m t) (end_of j) j place) h.within.target (q.same place le) in
    record {
      within = record { bytes = q.within.bytes; end = q.within.end ∙ h.within.end; target = q.within.target ∙ h.within.target };
      read = q.read;
      few = omega (arith, h.few, q.few);
      front = front_on i.bytes j.bytes l.bytes h.front q.front;
      same = λ place le.
          plus_plus n k (starts_at f (end_of i) l place)
          ∙ ap (λ (o : Option ℕ). plus n o) (ap (λ (e : ℕ). plus k (starts_at f e l place)) (sym h.within.end) ∙ inner place le ∙ ap (λ (e : ℕ). starts_at f e j place) h.within.end)
          ∙ h.same place le;
    }

-- ---- the sum before a place

pub count_behind : (m : Measure) (i : Input) (place : ℕ) → AreBytes i.bytes → end_of i < place → None ≡ sum_in m Location i place
count_behind m i place h lt = sym (starts_off (weight m i.target) i place h (λ n from to same. omega arith))

module _ (m : Measure) (i : Input) (place count : ℕ) (j : Input) (h : Shifted m i place count j) where
  none_there : ((n : ℕ) → j.at ≤ n → n ≤ end_of j → place ≡ n → ⊥) → None ≡ sum_in m Location i place
  none_there off = sym (ap (λ (o : Option ℕ). plus count o) (ap (λ (n : ℕ). starts_at (weight m i.target) n j place) (sym h.within.end) ∙ starts_off (weight m i.target) j place h.within.bytes off)) ∙ h.same place (omega arith)

  pub count_here : j.at ≡ place → Some count ≡ sum_in m Location i place
  count_here e =
      let here : starts_at (weight m i.target) (end_of j) j place ≡ Some 0 = ap (λ (n : ℕ). starts_at (weight m i.target) (end_of j) j n) (sym e) ∙ starts_here (weight m i.target) j h.within.bytes h.read in
      let moved : starts_at (weight m i.target) (end_of i) j place ≡ Some 0 = ap (λ (n : ℕ). starts_at (weight m i.target) n j place) (sym h.within.end) ∙ here in
      let zero_more : count + 0 ≡ count = omega arith in
      ap (λ (n : ℕ). Some n) (sym zero_more) ∙ ap (λ (o : Option ℕ). plus count o) (sym moved) ∙ h.same place (omega arith)

  pub count_past : place < j.at → None ≡ sum_in m Location i place
  count_past lt = none_there (λ n from to same. omega arith)
