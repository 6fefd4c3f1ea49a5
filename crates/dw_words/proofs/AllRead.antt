-- Texts that are read one by one.
use Rattle.dw_words.proofs.Words.{◌≡◌, ℕ, zero, suc, ◌+◌, ◌<◌, List, [], ◌∷◌, ◌++◌, length, map, take, get_or, Option, Some, None, option_map, refl, arith, option_and_then, Text, all_read}

module _ {X V : Type 0} (read : Text → Option V) (text : X → Text) where
  -- one more
  pub read_more : (xs : List X) (i : ℕ) (d : X) (vs : List V) (v : V) → i < length xs → all_read read (map text (take i xs)) ≡ Some vs → read (text (get_or xs i d)) ≡ Some v
      → all_read read (map text (take (i + 1) xs)) ≡ Some (vs ++ v ∷ [])
  read_more [] i d vs v lt is one = absurd (omega (arith, lt))
  read_more (x ∷ xs) zero d vs v lt is one =
      let none : [] ≡ vs = cc in
      rw (one, ← none) refl
  read_more (x ∷ xs) (suc i) d vs v lt is one =
      let e : suc i + 1 ≡ suc (i + 1) = omega arith in
      rw e (go (read (text x)) is (λ ws known. read_more xs i d ws v (omega (arith, lt)) known one))
    where
      rest : (o : Option (List V)) (w : V) → all_read read (map text (take i xs)) ≡ o → option_map (λ ws. w ∷ ws) o ≡ Some vs
          → ((ws : List V) → all_read read (map text (take i xs)) ≡ Some ws → all_read read (map text (take (i + 1) xs)) ≡ Some (ws ++ v ∷ []))
          → option_map (λ ws. w ∷ ws) (all_read read (map text (take (i + 1) xs))) ≡ Some (vs ++ v ∷ [])
      rest None w known is later = absurd cc
      rest (Some ws) w known is later =
          let more = later ws known in
          let same : w ∷ ws ≡ vs = cc in
          rw (more, ← same) refl

      go : (o : Option V) → option_and_then (λ w. option_map (λ ws. w ∷ ws) (all_read read (map text (take i xs)))) o ≡ Some vs
          → ((ws : List V) → all_read read (map text (take i xs)) ≡ Some ws → all_read read (map text (take (i + 1) xs)) ≡ Some (ws ++ v ∷ []))
          → option_and_then (λ w. option_map (λ ws. w ∷ ws) (all_read read (map text (take (i + 1) xs)))) o ≡ Some (vs ++ v ∷ [])
      go None is later = absurd cc
      go (Some w) is later = rest (all_read read (map text (take i xs))) w refl is later

  -- one that is not read
  pub read_none : (xs : List X) (i : ℕ) (d : X) → i < length xs → read (text (get_or xs i d)) ≡ None → all_read read (map text xs) ≡ None
  read_none [] i d lt one = absurd (omega (arith, lt))
  read_none (x ∷ xs) zero d lt one = rw one refl
  read_none (x ∷ xs) (suc i) d lt one =
      let rest = read_none xs i d (omega (arith, lt)) one in
      rw rest (go (read (text x)))
    where
      go : (o : Option V) → option_and_then {U = List V} (λ w. None) o ≡ None
      go None = refl
      go (Some w) = refl
