-- Changes that are listed in place: what stands there, first to last.
use Rattle.std.proofs.{Common.set, lemmas.List.{drop_more, get_or_append_left, get_or_push}}
use Rattle.dw_row.specs.declared.change_list.{Change.Change, Kind.Kind}
use Rattle.dw_row.specs.declared.change_list.Kind.TheVariants as kinds
use Rattle.dw_row.specs.Inner.Changes.{change, first_changes, plain_rule}
use Rattle.dw_row.proofs.Words.{◌≡◌, inl, inr, ℕ, zero, suc, ◌+◌, ◌-◌, ◌<◌, ◌≤◌, ℤ, pos, List, [], ◌∷◌, ◌++◌, length, drop, get_or, true, RegRule}
use Rattle.dw_row.proofs.Words.{refl, sym, ap, ◌∙◌, arith, append-nil, cases_eq, length-append, get_or-set_same, get_or-set_other, eq-eqb, nat_tests, has_register}

-- a register that is listed behind more changes is listed behind fewer
pub has_behind : (r from n : ℕ) (changes : List Change) → from ≤ n → has_register r (drop n changes) ≡ true → has_register r (drop from changes) ≡ true
unfolding has_register
has_behind r zero zero changes le has = has
has_behind r zero (suc n) [] le has = has
has_behind r zero (suc n) (c ∷ changes) le has = grind (arith, nat_tests, has_behind r zero n changes (omega arith) has)
has_behind r (suc from) zero changes le has = absurd (omega (arith, le))
has_behind r (suc from) (suc n) [] le has = has
has_behind r (suc from) (suc n) (c ∷ changes) le has = has_behind r from n changes (omega (arith, le)) has

module _ (ks : List Kind) (rs : List ℕ) (ns : List ℤ) where
  abbrev entry : ℕ → Change
  entry n = change (get_or rs n 0) (plain_rule (get_or ks n kinds.Unspecified) (get_or ns n (pos 0)))

  pub none_listed : (n : ℕ) (rest : List Change) → n ≡ 0 → rest ≡ [] → first_changes ks rs ns n ++ rest ≡ []
  unfolding first_changes
  none_listed n rest none empty = rw (none, empty) refl

  count_first : (n : ℕ) → length (first_changes ks rs ns n) ≡ n
  unfolding first_changes
  count_first zero = refl
  count_first (suc n) = omega (arith, length-append (first_changes ks rs ns n) (entry n ∷ []), count_first n)

  pub count_listed : (n : ℕ) (rest : List Change) → length (first_changes ks rs ns n ++ rest) ≡ n + length rest
  count_listed n rest = omega (arith, length-append (first_changes ks rs ns n) rest, count_first n)

  -- the last entry is taken from behind the others
  pub last_listed : (n : ℕ) → 0 < n → (rest : List Change) → rest ≡ [] → (c : Change) → c ≡ entry (n - 1) → first_changes ks rs ns n ++ rest ≡ first_changes ks rs ns (n - 1) ++ rest ++ c ∷ []
  unfolding first_changes
  last_listed n some rest none c is =
      let m = n - 1 in let from : n ≡ suc m = omega (arith, some) in
      ap (λ (k : ℕ). first_changes ks rs ns k ++ rest) from ∙ rw (none, is, append-nil (first_changes ks rs ns m), append-nil (first_changes ks rs ns (suc m))) refl

  -- an entry that is set behind the first ones
  same_first : (m n : ℕ) (k : Kind) (r : ℕ) (x : ℤ) → n ≤ m → first_changes (set ks m k) (set rs m r) (set ns m x) n ≡ first_changes ks rs ns n
  unfolding first_changes
  same_first m zero k r x le = refl
  same_first m (suc n) k r x le =
      let apart : n ≡ m → ⊥ = λ e. absurd (omega (arith, le, e)) in
      rw (same_first m n k r x (omega (arith, le)), get_or-set_other ks m n k kinds.Unspecified apart, get_or-set_other rs m n r 0 apart, get_or-set_other ns m n x (pos 0) apart) refl

  pub set_listed : (n : ℕ) (k : Kind) (r : ℕ) (x : ℤ) (rest : List Change) (rule : RegRule) → n < length ks → n < length rs → n < length ns → rest ≡ [] → plain_rule k x ≡ rule
      → first_changes (set ks n k) (set rs n r) (set ns n x) (n + 1) ++ rest ≡ first_changes ks rs ns n ++ rest ++ change r rule ∷ []
  unfolding first_changes
  set_listed n k r x rest rule in-ks in-rs in-ns none is =
      let from : n + 1 ≡ suc n = omega arith in
      ap (λ (m : ℕ). first_changes (set ks n k) (set rs n r) (set ns n x) m ++ rest) from
      ∙ rw (none, same_first n n k r x (omega arith), get_or-set_same ks n k kinds.Unspecified in-ks, get_or-set_same rs n r 0 in-rs, get_or-set_same ns n x (pos 0) in-ns, is, append-nil (first_changes ks rs ns n), append-nil (first_changes ks rs ns n ++ change r rule ∷ [])) refl

  entry_is : (n m : ℕ) (d : Change) → n < m → get_or (first_changes ks rs ns m) n d ≡ entry n
  unfolding first_changes
  entry_is n zero d lt = absurd (omega (arith, lt))
  entry_is n (suc m) d lt = elim (cases_eq n m) [
    | inl same ↦ get_or_push (first_changes ks rs ns m) (entry m) d n (count_first m ∙ sym same) ∙ ap entry (sym same)
    | inr apart ↦ get_or_append_left (first_changes ks rs ns m) (entry m ∷ []) d n (omega (arith, count_first m, lt, apart)) ∙ entry_is n m d (omega (arith, lt, apart))
  ]

  -- a register that an entry lists
  pub found_at : (r from n count : ℕ) (rest : List Change) → from ≤ n → n < count → get_or rs n 0 ≡ r → has_register r (drop from (first_changes ks rs ns count ++ rest)) ≡ true
  unfolding has_register
  found_at r from n count rest le lt same =
      let changes = first_changes ks rs ns count ++ rest in
      let is : get_or changes n (entry n) ≡ entry n = get_or_append_left (first_changes ks rs ns count) rest (entry n) n (omega (arith, count_first count, lt)) ∙ entry_is n count (entry n) lt in
      has_behind r from n changes le (
      ap (has_register r) (drop_more changes n (entry n) (omega (arith, count_listed count rest, lt)))
      ∙ ap (λ (c : Change). has_register r (c ∷ drop (n + 1) changes)) is ∙ rw (eq-eqb (get_or rs n 0) r same) refl
      )
