-- Where the parts of a block begin.
use Rattle.dw_op.proofs.Words.{◌≡◌, ℕ, zero, suc, ◌+◌, ◌≤◌, List, [], ◌∷◌, length, Option, Some, None, refl, ap, subst, arith, inl, inr, cases_eq, eq-eqb, ne_eqb, length-append, Target, Profile, Step, joined, start, plus, index_at}
use Rattle.dw_op.proofs.{Splits.{EachSpells, items_from}, Lent.ReadingLaws.some_is}

-- the number of the part that begins at a start
pub index_start : (profile : Profile) (t : Target) (steps : List Step) (parts : List (List ℕ)) (at end place k : ℕ) → EachSpells profile t steps parts → k ≤ length parts
    → end ≡ at + length (joined parts) → place ≡ at + start parts k → index_at (items_from at steps parts) end place ≡ Some k
index_start profile t [] [] at end place zero h le end_is is = rw (eq-eqb place end (omega arith)) refl
index_start profile t (step ∷ steps) (part ∷ parts) at end place zero h le end_is is = rw (eq-eqb place at (omega arith)) refl
index_start profile t (step ∷ steps) (part ∷ parts) at end place (suc k) h le end_is is =
    let ne : place ≡ at → ⊥ = λ same. omega (arith, h.0.some) in
    let more = index_start profile t steps parts (at + length part) end place k h.1 (omega arith) (omega (arith, length-append part (joined parts))) (omega arith) in
    rw (ne_eqb place at ne, more) (ap (λ (n : ℕ). Some n) (omega arith))
index_start profile t steps parts at end place k h le end_is is = absurd (first_of (assumption, omega arith))

-- a number that is found is that of a part, which begins there
abbrev Begins : ℕ → List (List ℕ) → ℕ → ℕ → Type 0
Begins at parts place k = (k ≤ length parts) × (place ≡ at + start parts k)

behind_first : (at : ℕ) (part : List ℕ) (parts : List (List ℕ)) (place k : ℕ) (o : Option ℕ) → plus 1 o ≡ Some k → ((j : ℕ) → o ≡ Some j → Begins (at + length part) parts place j) → Begins at (part ∷ parts) place k
behind_first at part parts place k None e h = absurd cc
behind_first at part parts place k (Some j) e h =
    let is : 1 + j ≡ k = some_is (1 + j) k e in
    let b = h j refl in
    let is2 : suc j ≡ k = omega arith in
    subst (λ (m : ℕ). Begins at (part ∷ parts) place m) is2 (omega (arith, b.0), omega (arith, b.1))

pub index_begins : (profile : Profile) (t : Target) (steps : List Step) (parts : List (List ℕ)) (at end place k : ℕ) → EachSpells profile t steps parts
    → end ≡ at + length (joined parts) → index_at (items_from at steps parts) end place ≡ Some k → Begins at parts place k
index_begins profile t [] [] at end place k h end_is e = elim (cases_eq place end) [
  | inl same ↦ let is : 0 ≡ k = some_is 0 k (rw (eq-eqb place end same) at e) in subst (λ (m : ℕ). Begins at [] place m) is (omega arith, omega arith)
  | inr ne ↦ let none : Option ℕ = None in let k2 : none ≡ Some k = rw (ne_eqb place end ne) at e in absurd cc
]
index_begins profile t (step ∷ steps) (part ∷ parts) at end place k h end_is e = elim (cases_eq place at) [
  | inl same ↦ let is : 0 ≡ k = some_is 0 k (rw (eq-eqb place at same) at e) in subst (λ (m : ℕ). Begins at (part ∷ parts) place m) is (omega arith, omega arith)
  | inr ne ↦ behind_first at part parts place k (index_at (items_from (at + length part) steps parts) end place) (rw (ne_eqb place at ne) at e)
      (λ j f. index_begins profile t steps parts (at + length part) end place j h.1 (omega (arith, length-append part (joined parts))) f)
]
index_begins profile t steps parts at end place k h end_is e = absurd h
