-- A walk over a program, instruction by instruction, and what is left of it behind one.
use Rattle.dw_cfa.proofs.Words.{◌≡◌, ℕ, zero, suc, ◌<◌, ◌≤◌, List, [], ◌∷◌, length, Some, None, Ok, Err, refl, sym, ap, ◌∙◌, arith, inl, inr, length-append, cases_lt, ◌^◌, AreBytes, Factors, Input, Instr, Read, Refusal, Size, Target}
use Rattle.dw_cfa.proofs.Words.{address_limit, byte_count, SetLoc, InstrSpells, instr_at, InLimit, Placing, place_of, placed, ended, on_left, walked_by, taken_bytes, Four, Eight}
use Rattle.dw_op.specs.Inner.Walks.{put}
use Rattle.dw_cfa.proofs.Lent.{Spellings.{IsSpelled, by_table}, InstrLaws.instr_found}

-- what is read is shorter by its spelling
pub record Reads (f : Factors) (i : Input) (x : Instr × Input) : Type 0 where
  pub shorter : length x.1.bytes < length i.bytes
  pub bytes : AreBytes x.1.bytes
  pub target : x.1.target ≡ i.target

-- no spelling is empty
pub some_spelled : (t : Target) (f : Factors) (i : Instr) (b : List ℕ) → InstrSpells t f i b → 0 < length b
some_spelled t f i b h = omega (arith, ap length h.whole)

fits_limit : (size : Size) (a : ℕ) → a < 256 ^ byte_count size → a ≤ address_limit size
fits_limit Four a lt = omega arith
fits_limit Eight a lt = omega arith

spelled_in_limit : (t : Target) (f : Factors) (i : Instr) (b : List ℕ) → IsSpelled t f i b → InLimit (address_limit t.size) i
spelled_in_limit t f (SetLoc a) b h = fits_limit t.size a h.operands.fits
spelled_in_limit t f i b h = tt

pub spells_in_limit : (t : Target) (f : Factors) (i : Instr) (b : List ℕ) → InstrSpells t f i b → InLimit (address_limit t.size) i
spells_in_limit t f i b h = spelled_in_limit t f i b (by_table t f i b h)

pub reads : (f : Factors) (i : Input) (x : Instr × Input) → AreBytes i.bytes → instr_at f i ≡ Ok x → Reads f i x
reads f i x h e =
    let found = instr_found f i x.1 x.0 h e in
    let some = some_spelled i.target f x.0 found.0 found.1 in
    record {
      shorter = omega (arith, ap length found.2.bytes, length-append found.0 x.1.bytes);
      bytes = taken_bytes i x.1 found.0 found.2 h;
      target = found.2.target;
    }

-- ---- a walk that keeps each instruction with its place

on_some : (bytes : List ℕ) (l : Placing) → 0 < length bytes → on_left bytes l ≡ l
on_some [] l some = absurd (omega arith)
on_some (b ∷ bytes) l some = refl

on_none : (bytes : List ℕ) (l : Placing) → length bytes ≡ 0 → on_left bytes l ≡ ended None
on_none [] l none = refl
on_none (b ∷ bytes) l none = absurd (omega arith)

module _ (f : Factors) where
  -- in at most n instructions
  abbrev walk : ℕ → Input → Placing
  walk n i = walked_by (instr_at f) place_of n i

  none_by : (n : ℕ) (i : Input) → length i.bytes ≡ 0 → walk n i ≡ ended None
  unfolding walked_by
  none_by zero i none = refl
  none_by (suc n) i none = on_none i.bytes _ none

  step_by : (n : ℕ) (i : Input) (x : Instr × Input) → 0 < length i.bytes → instr_at f i ≡ Ok x → walk (suc n) i ≡ put (place_of i.at x.0) (walk n x.1)
  unfolding walked_by
  step_by n i x some e = rw (on_some i.bytes _ some, e) refl

  stuck_by : (n : ℕ) (i : Input) (r : Refusal) → 0 < length i.bytes → instr_at f i ≡ Err r → walk (suc n) i ≡ ended (Some r)
  unfolding walked_by
  stuck_by n i r some e = rw (on_some i.bytes _ some, e) refl

  read_same : (n m : ℕ) (i : Input) → AreBytes i.bytes → 0 < length i.bytes → (r : Read Instr) → instr_at f i ≡ r
      → ((x : Instr × Input) → instr_at f i ≡ Ok x → Reads f i x → walk n x.1 ≡ walk m x.1) → walk (suc n) i ≡ walk (suc m) i
  read_same n m i h some (Ok x) e rest = step_by n i x some e ∙ ap (put (place_of i.at x.0)) (rest x e (reads f i x h e)) ∙ sym (step_by m i x some e)
  read_same n m i h some (Err r) e rest = stuck_by n i r some e ∙ sym (stuck_by m i r some e)

  -- any number of instructions that is large enough gives the same
  enough : (n m : ℕ) (i : Input) → AreBytes i.bytes → length i.bytes ≤ n → length i.bytes ≤ m → walk n i ≡ walk m i
  enough zero m i h le le' = none_by zero i (omega arith) ∙ sym (none_by m i (omega arith))
  enough (suc n) zero i h le le' = none_by (suc n) i (omega arith) ∙ sym (none_by zero i (omega arith))
  enough (suc n) (suc m) i h le le' = elim (cases_lt 0 (length i.bytes)) [
    | inl some ↦ read_same n m i h some (instr_at f i) refl (λ x e so. let shorter : length x.1.bytes < length i.bytes = so.shorter in enough n m x.1 so.bytes (omega arith) (omega arith))
    | inr none ↦ none_by (suc n) i (omega arith) ∙ sym (none_by (suc m) i (omega arith))
  ]

  pub placed_end : (i : Input) → length i.bytes ≡ 0 → placed f i ≡ ended None
  unfolding placed
  placed_end i none = none_by (length i.bytes) i none

  pub placed_step : (i : Input) (x : Instr × Input) → AreBytes i.bytes → 0 < length i.bytes → instr_at f i ≡ Ok x → placed f i ≡ put (place_of i.at x.0) (placed f x.1)
  unfolding placed
  placed_step i x h some e =
      let so = reads f i x h e in
      let n = length i.bytes in
      enough n (suc n) i h (omega arith) (omega arith) ∙ step_by n i x some e ∙ ap (put (place_of i.at x.0)) (enough n (length x.1.bytes) x.1 so.bytes (omega (arith, so.shorter)) (omega arith))

  pub placed_stuck : (i : Input) (r : Refusal) → 0 < length i.bytes → instr_at f i ≡ Err r → placed f i ≡ ended (Some r)
  unfolding placed
  placed_stuck i r some e = by (length i.bytes) some
    where
      by : (n : ℕ) → 0 < n → walk n i ≡ ended (Some r)
      by zero pos = absurd (omega arith)
      by (suc n) pos = stuck_by n i r some e
