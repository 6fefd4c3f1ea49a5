-- Where a list of placed instructions stops with a refusal as it is run, of an FDE's program and of a CIE's: at an instruction, or
-- behind all that can be read.
use Rattle.dw_cfa.proofs.Words.{◌≡◌, ℕ, List, [], ◌∷◌, ◌++◌, Option, Some, None, refl, sym, ap, ◌∙◌, append-nil, Code, Instr, Placed, Refusal}

-- the state behind instructions
abbrev pub ends : {S : Type 0} → (Instr → S → S) → List Placed → S → S
ends next [] s = s
ends next (item ∷ items) s = ends next items (next item.instr s)

abbrev pub refusal_or : ℕ → Option Code → Option Refusal → Option Refusal
refusal_or at (Some code) rest = Some (record { code = code; at = at })
refusal_or at None rest = rest

none_first : (at : ℕ) (code : Option Code) (rest : Option Refusal) → refusal_or at code rest ≡ None → (code ≡ None) × (rest ≡ None)
none_first at None rest e = (refl, e)
none_first at (Some code) rest e = absurd cc

-- what stands against an instruction in a state, and the state behind it
module _ {S : Type 0} (fault : Instr → S → Option Code) (next : Instr → S → S) where
  -- nothing stands against any instruction
  abbrev pub AllRun : List Placed → S → Type 0
  AllRun [] s = Unit {0}
  AllRun (item ∷ items) s = (fault item.instr s ≡ None) × AllRun items (next item.instr s)

  -- the first refusal, or what comes behind all
  abbrev pub refusal_of : List Placed → Option Refusal → S → Option Refusal
  refusal_of [] last s = last
  refusal_of (item ∷ items) last s = refusal_or item.at (fault item.instr s) (refusal_of items last (next item.instr s))

  pub all_run : (items : List Placed) (last : Option Refusal) (s : S) → refusal_of items last s ≡ None → AllRun items s × (last ≡ None)
  all_run [] last s e = (tt, e)
  all_run (item ∷ items) last s e =
      let first = none_first item.at (fault item.instr s) (refusal_of items last (next item.instr s)) e in
      let rest = all_run items last (next item.instr s) first.1 in
      ((first.0, rest.0), rest.1)

  pub refusal_behind : (before after : List Placed) (last : Option Refusal) (s : S) → AllRun before s → refusal_of (before ++ after) last s ≡ refusal_of after last (ends next before s)
  refusal_behind [] after last s run = refl
  refusal_behind (item ∷ before) after last s run = rw run.0 (refusal_behind before after last (next item.instr s) run.1)

  pub refusal_end : (items : List Placed) (last : Option Refusal) (s : S) → AllRun items s → refusal_of items last s ≡ last
  refusal_end items last s run = ap (λ (l : List Placed). refusal_of l last s) (sym (append-nil items)) ∙ refusal_behind items [] last s run

  -- what comes next is refused
  abbrev pub RefusedNext : List Placed → Option Refusal → S → Refusal → Type 0
  RefusedNext [] last s r = last ≡ Some r
  RefusedNext (item ∷ after) last s r = (fault item.instr s ≡ Some r.code) × (r.at ≡ item.at)

  refused_next : (after : List Placed) (last : Option Refusal) (s : S) (r : Refusal) → RefusedNext after last s r → refusal_of after last s ≡ Some r
  refused_next [] last s r h = h
  refused_next (item ∷ after) last s r h = rw h.0 (ap (λ (n : ℕ). let q : Refusal = record { code = r.code; at = n } in Some q) (sym h.1))

-- where the run stops
pub record Stops (S : Type 0) (fault : Instr → S → Option Code) (next : Instr → S → S) (items : List Placed) (last : Option Refusal) (s : S) (r : Refusal) : Type 0 where
  pub before : List Placed
  pub after : List Placed
  pub whole : items ≡ before ++ after
  pub run : AllRun fault next before s
  pub refused : RefusedNext fault next after last (ends next before s) r

module _ (S : Type 0) (fault : Instr → S → Option Code) (next : Instr → S → S) where
  stops_first : (item : Placed) (items : List Placed) (last : Option Refusal) (s : S) (r : Refusal) (code : Option Code) → fault item.instr s ≡ code
      → refusal_or item.at code (refusal_of fault next items last (next item.instr s)) ≡ Some r
      → (refusal_of fault next items last (next item.instr s) ≡ Some r → Stops S fault next items last (next item.instr s) r) → Stops S fault next (item ∷ items) last s r
  stops_first item items last s r None is e more =
      let d = more e in
      record { before = item ∷ d.before; after = d.after; whole = ap (λ (l : List Placed). item ∷ l) d.whole; run = (is, d.run); refused = d.refused }
  stops_first item items last s r (Some code) is e more =
      let same : record { code = code; at = item.at } ≡ r = cc in
      record { before = []; after = item ∷ items; whole = refl; run = tt; refused = (is ∙ ap (λ (q : Refusal). Some q.code) same, sym (ap (λ (q : Refusal). q.at) same)) }

  -- one that is refused stops somewhere
  pub stops : (items : List Placed) (last : Option Refusal) (s : S) (r : Refusal) → refusal_of fault next items last s ≡ Some r → Stops S fault next items last s r
  stops [] last s r e = record { before = []; after = []; whole = refl; run = tt; refused = e }
  stops (item ∷ items) last s r e = stops_first item items last s r (fault item.instr s) refl e (stops items last (next item.instr s) r)

  -- and one that stops there is refused so
  pub stopped : (items : List Placed) (last : Option Refusal) (s : S) (r : Refusal) → Stops S fault next items last s r → refusal_of fault next items last s ≡ Some r
  stopped items last s r d =
      ap (λ (l : List Placed). refusal_of fault next l last s) d.whole ∙ refusal_behind fault next d.before d.after last s d.run
      ∙ refused_next fault next d.after last (ends next d.before s) r d.refused
