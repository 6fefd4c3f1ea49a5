-- The changes of an FDE determine its rules at each address, and its rules determine its changes.
use Rattle.dw_section.proofs.Words.{◌≡◌, ℕ, zero, suc, ◌<◌, ◌≤◌, List, [], ◌∷◌, refl, sym, ap, subst, ◌∙◌, arith, inl, inr, cases_lt, cases_order, lt-ltb, le-ltb, Instr, Rules, StayFrom, HoldsAt, ChangesBehind, AreChanges, AgreeAt, Agree}
use Rattle.dw_section.proofs.Words.{counts_exists, same_rows, nat_lt, if◌then◌else◌}

-- the row of an address among changes: that of the last at or below it, or the one before them
abbrev row_among : ℕ → Rules → List (ℕ × Rules) → Rules
row_among a before [] = before
row_among a before (change ∷ changes) = if nat_lt a change.0 then before else row_among a change.1 changes

module _ (i j : List Instr) (begin : ℕ) where
  -- a row holds on while nothing changes
  pub holds_on : (low high a : ℕ) (row : Rules) → begin ≤ low → StayFrom i j begin low high → low ≤ a → a < high → HoldsAt i j begin low row → HoldsAt i j begin a row
  holds_on low high zero row le stay from below h = let e : low ≡ zero = omega arith in subst (λ (b : ℕ). HoldsAt i j begin b row) e h
  holds_on low high (suc a) row le stay from below h = elim (cases_lt a low) [
    | inl less ↦ let e : low ≡ suc a = omega arith in subst (λ (b : ℕ). HoldsAt i j begin b row) e h
    | inr more ↦ λ k counts.
        let c = counts_exists begin j a (omega arith) in
        let same = stay a more below c.0 k c.1 counts in
        let here = holds_on low high a row le stay more (omega arith) h c.0 c.1 in
        record { cfa = here.cfa ∙ same.cfa; rules = λ r. here.rules r ∙ same.rules r; listed = here.listed }
  ]

  behind_row : (end low a : ℕ) (before : Rules) (changes : List (ℕ × Rules)) → begin ≤ low → low ≤ a → a < end → HoldsAt i j begin low before → ChangesBehind i j begin end low changes → HoldsAt i j begin a (row_among a before changes)
  behind_row end low a before [] le from below h c = holds_on low end a before le c from below h
  behind_row end low a before (change ∷ changes) le from below h c = elim (cases_lt a change.0) [
    | inl less ↦ rw (lt-ltb a change.0 less) (holds_on low (suc c.0) a before le c.4 from (omega (arith, c.1)) h)
    | inr more ↦ rw (le-ltb a change.0 more) (behind_row end (suc c.0) a change.1 changes (omega (arith, c.2)) (omega (arith, c.1)) below c.6 c.7)
  ]

  -- at each address of an FDE the row of its last change holds
  pub changed_row : (end a : ℕ) (first : ℕ × Rules) (changes : List (ℕ × Rules)) → begin ≤ a → a < end → AreChanges i j begin end (first ∷ changes) → HoldsAt i j begin a (row_among a first.1 changes)
  changed_row end a first changes from below c = behind_row end begin a first.1 changes (omega arith) from below c.1 c.2

-- a row that holds at an address of both makes them agree there
pub agree_row : (begin a : ℕ) (i j k l : List Instr) (row : Rules) → HoldsAt i j begin a row → HoldsAt k l begin a row → AgreeAt begin i j k l a
agree_row begin a i j k l row v w x y cx cy = record { cfa = sym (v x cx).cfa ∙ (w y cy).cfa; rules = λ r. sym ((v x cx).rules r) ∙ (w y cy).rules r }

-- programs with the same changes agree
pub agree_changes : (begin end : ℕ) (i j k l : List Instr) (changes : List (ℕ × Rules)) → AreChanges i j begin end changes → AreChanges k l begin end changes → Agree begin end i j k l
agree_changes begin end i j k l [] v w a from below = absurd v
agree_changes begin end i j k l (first ∷ changes) v w a from below =
    agree_row begin a i j k l (row_among a first.1 changes) (changed_row i j begin end a first changes from below v) (changed_row k l begin end a first changes from below w)

-- ---- changes are one

pub one_row : (i j : List Instr) (begin a : ℕ) (x y : Rules) → begin ≤ a → HoldsAt i j begin a x → HoldsAt i j begin a y → x ≡ y
one_row i j begin a x y le v w =
    let c = counts_exists begin j a le in
    let p = v c.0 c.1 in
    let q = w c.0 c.1 in
    same_rows x y p.listed q.listed (p.cfa ∙ sym q.cfa) (λ r. p.rules r ∙ sym (q.rules r))

one_more : (x y : ℕ × Rules) (xs ys : List (ℕ × Rules)) → x.0 ≡ y.0 → x.1 ≡ y.1 → xs ≡ ys → x ∷ xs ≡ y ∷ ys
one_more x y xs ys at row rest = ap (λ (n : ℕ). (n, x.1) ∷ xs) at ∙ ap (λ (r : Rules). (y.0, r) ∷ xs) row ∙ ap (λ (l : List (ℕ × Rules)). y ∷ l) rest

one_behind : (i j : List Instr) (begin end low : ℕ) (xs ys : List (ℕ × Rules)) → begin ≤ low → ChangesBehind i j begin end low xs → ChangesBehind i j begin end low ys → xs ≡ ys
one_behind i j begin end low [] [] le v w = refl
one_behind i j begin end low [] (y ∷ ys) le v w = let d = w.5 in absurd (d.other (v w.0 w.2 w.3 d.j d.k d.before d.after))
one_behind i j begin end low (x ∷ xs) [] le v w = let d = v.5 in absurd (d.other (w v.0 v.2 v.3 d.j d.k d.before d.after))
one_behind i j begin end low (x ∷ xs) (y ∷ ys) le v w = elim (cases_order v.0 w.0) [
  | inl same ↦ one_more x y xs ys (v.1 ∙ ap suc same ∙ sym w.1)
      (one_row i j begin (suc v.0) x.1 y.1 (omega (arith, v.2)) v.6 (subst (λ (a : ℕ). HoldsAt i j begin (suc a) y.1) (sym same) w.6))
      (one_behind i j begin end (suc v.0) xs ys (omega (arith, v.2)) v.7 (subst (λ (a : ℕ). ChangesBehind i j begin end (suc a) ys) (sym same) w.7))
  | inr (inl less) ↦ let d = v.5 in absurd (d.other (w.4 v.0 v.2 (omega arith) d.j d.k d.before d.after))
  | inr (inr less) ↦ let d = w.5 in absurd (d.other (v.4 w.0 w.2 (omega arith) d.j d.k d.before d.after))
]

pub one_changes : (i j : List Instr) (begin end : ℕ) (xs ys : List (ℕ × Rules)) → AreChanges i j begin end xs → AreChanges i j begin end ys → xs ≡ ys
one_changes i j begin end [] ys v w = absurd v
one_changes i j begin end (x ∷ xs) [] v w = absurd w
one_changes i j begin end (x ∷ xs) (y ∷ ys) v w = one_more x y xs ys (v.0 ∙ sym w.0) (one_row i j begin begin x.1 y.1 (omega arith) v.1 w.1) (one_behind i j begin end begin xs ys (omega arith) v.2 w.2)
