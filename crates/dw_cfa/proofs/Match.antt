-- A restore_state gives what stood before its remember_state: the nearest one with as many remember_states as restore_states between,
-- which there is where no state is restored that was not remembered.
use Rattle.dw_cfa.specs.Match.{IsBetween, MatchExists, RestoresMatched}
use Rattle.dw_cfa.proofs.Words.{◌≡◌, ℕ, zero, suc, ◌+◌, ◌<◌, List, [], ◌∷◌, ◌++◌, length, length-append, Some, refl, ap, arith, Instr, RememberState, RestoreState, look_back, cfa_change}
use Rattle.dw_cfa.proofs.{Words.{rule_change, ◌↔◌, cond, slice_get, is_remember, is_restore, remembered, restored, onto}, Lent.KeptLaws.counted, Lent.KeptRuns.{more_remembered, more_restored}}

-- an instruction among what has to be passed, by how it counts
module _ (i : Instr) (inner inner' : ℕ) (e : cond (is_restore i) 1 0 + inner ≡ cond (is_remember i) 1 0 + inner') where
  one_less : (near : List Instr) → (restored near + inner' ≡ remembered near) ↔ (restored (i ∷ near) + inner ≡ remembered (i ∷ near))
  one_less near = ((λ h. omega (arith, more_restored i near, more_remembered i near, e, h)), (λ h. omega (arith, more_restored i near, more_remembered i near, e, h)))

  rest_between : (between : List Instr) → IsBetween inner (i ∷ between) → IsBetween inner' between
  rest_between between h =
      record { equal = (one_less between).1 h.equal; nearest = λ near far e same. h.nearest (i ∷ near) far (ap (λ (xs : List Instr). i ∷ xs) e) ((one_less near).0 same) }

  -- one instruction more
  more_nearest : (between : List Instr) → (i ≡ RememberState → inner ≡ 0 → ⊥) → IsBetween inner' between → (near far : List Instr) → i ∷ between ≡ near ++ (RememberState ∷ far) → restored near + inner ≡ remembered near → ⊥
  more_nearest between some h [] far e same = let first : i ≡ RememberState = cc in some first (omega (arith, same))
  more_nearest between some h (x ∷ near) far e same =
      let first : i ≡ x = cc in
      let rest : between ≡ near ++ (RememberState ∷ far) = cc in
      h.nearest near far rest ((one_less near).1 (rw first same))

  more_between : (between : List Instr) → (i ≡ RememberState → inner ≡ 0 → ⊥) → IsBetween inner' between → IsBetween inner (i ∷ between)
  more_between between some h = record { equal = (one_less between).0 h.equal; nearest = more_nearest between some h }

module _ {Rule : Type 0} (change : Instr → Rule → Rule) (initial : Rule) where
  passed : (between before : List Instr) (inner : ℕ) → IsBetween inner between
      → look_back change initial (suc inner) (between ++ (RememberState ∷ before)) ≡ look_back change initial 0 before
  passed [] before zero h = refl
  passed [] before (suc inner) h = let e = h.equal in absurd (omega arith)
  passed (RestoreState ∷ between) before inner h = passed between before (suc inner) (rest_between RestoreState inner (suc inner) (omega arith) between h)
  passed (RememberState ∷ between) before zero h = absurd (h.nearest [] between refl refl)
  passed (RememberState ∷ between) before (suc inner) h = passed between before inner (rest_between RememberState (suc inner) inner (omega arith) between h)
  passed (i ∷ between) before inner h = passed between before inner (rest_between i inner inner refl between h)

pub restores_matched : RestoresMatched
restores_matched between before h = ((λ initial. passed cfa_change initial between before 0 h), (λ initial r. passed (rule_change r initial) initial between before 0 h))

-- ---- each has one

abbrev Found : ℕ → List Instr → Type 0
Found inner earlier = (between : List Instr) × (before : List Instr) × (earlier ≡ between ++ (RememberState ∷ before)) × IsBetween inner between

found_more : (i : Instr) (inner inner' : ℕ) (earlier : List Instr) → cond (is_restore i) 1 0 + inner ≡ cond (is_remember i) 1 0 + inner' → (i ≡ RememberState → inner ≡ 0 → ⊥) → Found inner' earlier → Found inner (i ∷ earlier)
found_more i inner inner' earlier e some m = (i ∷ m.0, m.1, ap (λ (xs : List Instr). i ∷ xs) m.2, more_between i inner inner' e m.0 some m.3)

match_of : (earlier : List Instr) (inner : ℕ) → restored earlier + inner < remembered earlier → Found inner earlier
match_of [] inner lt = absurd (omega arith)
match_of (RememberState ∷ earlier) zero lt = ([], earlier, refl, record { equal = refl; nearest = λ near far e same. omega (arith, ap length e, length-append near (RememberState ∷ far)) })
match_of (RememberState ∷ earlier) (suc inner) lt =
    found_more RememberState (suc inner) inner earlier (omega arith) (λ e z. omega (arith, z)) (match_of earlier inner (omega (arith, lt, more_restored RememberState earlier, more_remembered RememberState earlier)))
match_of (RestoreState ∷ earlier) inner lt =
    found_more RestoreState inner (suc inner) earlier (omega arith) (λ e z. cc) (match_of earlier (suc inner) (omega (arith, lt, more_restored RestoreState earlier, more_remembered RestoreState earlier)))
match_of (i ∷ earlier) inner lt = found_more i inner inner earlier refl (λ e z. cc) (match_of earlier inner (omega (arith, lt, more_restored i earlier, more_remembered i earlier)))

-- the instruction behind k others
onto_next : (earlier instrs : List Instr) (k : ℕ) (i : Instr) → slice_get instrs k ≡ Some i → (k < length instrs) × (onto earlier instrs (suc k) ≡ i ∷ onto earlier instrs k)
onto_next earlier [] k i e = absurd cc
onto_next earlier (x ∷ instrs) zero i e = let same : x ≡ i = cc in (omega arith, ap (λ (y : Instr). y ∷ earlier) same)
onto_next earlier (x ∷ instrs) (suc k) i e = let rest = onto_next (x ∷ earlier) instrs k i e in (omega (arith, rest.0), rest.1)

pub match_exists : MatchExists
match_exists limit begin initial instrs k kept stands =
    let next = onto_next [] instrs k RestoreState stands in
    let earlier = onto [] instrs k in
    let counts : restored earlier + 0 < remembered earlier =
    omega (arith, kept.matched (suc k) (omega (arith, next.0)), counted is_restore [] instrs (suc k), counted is_remember [] instrs (suc k), ap restored next.1, ap remembered next.1, more_restored RestoreState earlier, more_remembered RestoreState earlier) in
    let m = match_of earlier 0 counts in
    record { between = m.0; before = m.1; whole = m.2; is = m.3 }
