-- The places of CIEs, kept one after another.
use Rattle.std.proofs.lemmas.Bool.Decides.{eqb_tells}
use Rattle.dw_normal.proofs.Words.{◌≡◌, ℕ, suc, ◌+◌, ◌<◌, ◌≤◌, Bool, true, false, cond, List, [], ◌∷◌, length, map, Option, Some, None, refl, sym, ap, ◌∙◌, subst, inl, inr, arith, eq-eqb, is_at, nat_cmp, le-ltb, length-append}
use Rattle.dw_normal.proofs.{Words.{Target, Rules, group_of, return_registers, initial_of, GroupsRise, place_of, Member, entry_bytes, initial_rows, row_of, cie_with, cies_bytes, place_in, cie_place, RowsRise}}

-- ---- the order of two registers

at_same : (k r : ℕ) → k ≡ r → is_at (nat_cmp k) r ≡ true
at_same k r same = subst (λ (n : ℕ). is_at (nat_cmp k) n ≡ true) same (rw (le-ltb k k (omega arith), eq-eqb k k refl) refl)

at_other : (k r : ℕ) → (k ≡ r → ⊥) → is_at (nat_cmp k) r ≡ false
at_other k r ne = grind arith

-- ---- one CIE after another

abbrev pub either_of : Option ℕ → Option ℕ → Option ℕ
either_of None other = other
either_of (Some x) other = Some x

-- a place is among those to come, or was kept
pub record Placing (t : Target) (all rest : List (ℕ × Rules)) (places : List (ℕ × ℕ)) (written : ℕ) : Type 0 where
  pub low : ℕ
  pub rise : RowsRise low rest
  pub same : (r : ℕ) → either_of (cie_place t written rest r) (place_in places r) ≡ cie_place t 0 all r

not_among : (t : Target) (low at r : ℕ) (rows : List (ℕ × Rules)) → RowsRise low rows → r < low → cie_place t at rows r ≡ None
not_among t low at r [] h lt = refl
not_among t low at r (row ∷ rows) h lt = elim (eqb_tells row.0 r) [
  | inl is ↦ absurd (omega (arith, is.1, h.0))
  | inr not ↦ rw (not.0) (not_among t (suc row.0) (at + length (entry_bytes t (cie_with t row))) r rows h.1 (omega (arith, h.0)))
]

pub placing_more : (t : Target) (all : List (ℕ × Rules)) (row : ℕ × Rules) (rest : List (ℕ × Rules)) (places new : List (ℕ × ℕ)) (written next : ℕ) → Placing t all (row ∷ rest) places written
    → ((r : ℕ) → place_in new r ≡ cond (is_at (nat_cmp row.0) r) (Some written) (place_in places r)) → next ≡ written + length (entry_bytes t (cie_with t row)) → Placing t all rest new next
placing_more t all row rest places new written next h put is = record { low = suc row.0; rise = h.rise.1; same = same }
  where
    same : (r : ℕ) → either_of (cie_place t next rest r) (place_in new r) ≡ cie_place t 0 all r
    same r = elim (eqb_tells row.0 r) [
      | inl here ↦
          let before : Some written ≡ cie_place t 0 all r = rw (here.0) at (h.same r) in
          let none : cie_place t next rest r ≡ None = not_among t (suc row.0) next r rest h.rise.1 (omega (arith, here.1)) in
          let kept : place_in new r ≡ Some written = put r ∙ ap (λ (b : Bool). cond b (Some written) (place_in places r)) (at_same row.0 r here.1) in
          ap (λ (o : Option ℕ). either_of o (place_in new r)) none ∙ kept ∙ before
      | inr not ↦
          let before : either_of (cie_place t (written + length (entry_bytes t (cie_with t row))) rest r) (place_in places r) ≡ cie_place t 0 all r = rw (not.0) at (h.same r) in
          let kept : place_in new r ≡ place_in places r = put r ∙ ap (λ (b : Bool). cond b (Some written) (place_in places r)) (at_other row.0 r not.1) in
          ap (λ (o : Option ℕ). either_of (cie_place t next rest r) o) kept ∙ ap (λ (n : ℕ). either_of (cie_place t n rest r) (place_in places r)) is ∙ before
    ]

-- ---- where they stand

-- none stands behind the last
pub place_low : (t : Target) (at : ℕ) (rows : List (ℕ × Rules)) (r p : ℕ) → cie_place t at rows r ≡ Some p → p ≤ at + length (cies_bytes t rows)
place_low t at [] r p e = absurd cc
place_low t at (row ∷ rows) r p e = elim (eqb_tells row.0 r) [
  | inl is ↦ let here : Some at ≡ Some p = rw (is.0) at e in let same : at ≡ p = cc in omega arith
  | inr not ↦
      let there : cie_place t (at + length (entry_bytes t (cie_with t row))) rows r ≡ Some p = rw (not.0) at e in
      let low = place_low t (at + length (entry_bytes t (cie_with t row))) rows r p there in
      omega (arith, low, length-append (entry_bytes t (cie_with t row)) (cies_bytes t rows))
]

places_are : (t : Target) (ms : List Member) (rs : List ℕ) (at r p : ℕ) → cie_place t at (map {B = ℕ × Rules} (λ (q : ℕ). (q, initial_of ms q)) rs) r ≡ Some p → place_of t at (map (group_of t ms) rs) r ≡ p
places_are t ms [] at r p e = absurd cc
places_are t ms (q ∷ rs) at r p e = elim (eqb_tells q r) [
  | inl is ↦ let here : Some at ≡ Some p = rw (is.0) at e in rw (is.0) cc
  | inr not ↦ let there = rw (not.0) at e in rw (not.0) (places_are t ms rs (at + length (entry_bytes t (cie_with t (q, initial_of ms q)))) r p there)
]

-- they are those of the groups
pub place_is : (t : Target) (ms : List Member) (r p : ℕ) → cie_place t 0 (initial_rows ms) r ≡ Some p → place_of t 0 (map (group_of t ms) (return_registers ms)) r ≡ p
place_is t ms r p e = places_are t ms (return_registers ms) 0 r p e

-- each row has a CIE
pub is_placed : (t : Target) (at : ℕ) (rows : List (ℕ × Rules)) (r : ℕ) (x : Rules) → row_of rows r ≡ Some x → (p : ℕ) × (cie_place t at rows r ≡ Some p)
is_placed t at [] r x e = absurd cc
is_placed t at (row ∷ rows) r x e = elim (eqb_tells row.0 r) [
  | inl is ↦ (at, rw (is.0) refl)
  | inr not ↦
      let other : is_at (nat_cmp r) row.0 ≡ false = at_other r row.0 (λ same. not.1 (sym same)) in
      let rest : row_of rows r ≡ Some x = rw other at e in
      let found = is_placed t (at + length (entry_bytes t (cie_with t row))) rows r x rest in
      (found.0, rw (not.0) (found.1))
]

-- ---- the rows of a section's groups ascend

rows_of_groups : (t : Target) (ms : List Member) (low : ℕ) (rs : List ℕ) → GroupsRise low (map (group_of t ms) rs) → RowsRise low (map {B = ℕ × Rules} (λ (q : ℕ). (q, initial_of ms q)) rs)
rows_of_groups t ms low [] h = tt
rows_of_groups t ms low (r ∷ rs) h = (h.0, rows_of_groups t ms (suc r) rs h.1)

pub rows_rise : (t : Target) (ms : List Member) → GroupsRise 0 (map (group_of t ms) (return_registers ms)) → RowsRise 0 (initial_rows ms)
rows_rise t ms h = rows_of_groups t ms 0 (return_registers ms) h
