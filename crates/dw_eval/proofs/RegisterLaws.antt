-- What registers hold is what their places say.
use Rattle.dw_eval.proofs.Words.{◌≡◌, ℕ, zero, suc, ◌+◌, ◌-◌, Bool, false, List, [], length, Option, Some, None, inl, inr, refl, sym, ap, subst, arith, ◌∙◌, get_or, if◌then◌else◌, ◌≤◌, ◌<◌, ◌==◌, max, replicate, cases_lt, held, any_held}
use Rattle.dw_eval.proofs.Words.{first_held, near_held, PlacesSo}
use Rattle.std.proofs.lemmas.{Bool.Decides.nat_tests, List.get_or-replicate}

-- ---- the list of what the first registers hold

pub first_count : (n : ℕ) (f : ℕ → Option ℕ) → length (first_held f n) ≡ n
unfolding first_held
first_count zero f = refl
first_count (suc n) f = omega (arith, first_count n (λ k. f (suc k)))

pub first_is : (n : ℕ) (f : ℕ → Option ℕ) → ((r : ℕ) → n ≤ r → f r ≡ None) → (r : ℕ) → held (first_held f n) r ≡ f r
unfolding first_held
first_is zero f none r = sym (none r (omega arith))
first_is (suc n) f none zero = refl
first_is (suc n) f none (suc r) = first_is n (λ k. f (suc k)) (λ k le. none (suc k) (omega (arith, le))) r

-- ---- a register by its place

pub near_is : (known : List Bool) (values : List ℕ) (far : List (Option ℕ)) (r : ℕ) → r < 128 → any_held known values far r ≡ near_held known values r
unfolding any_held
near_is known values far r lt = grind (arith, nat_tests, lt)

pub far_is : (known : List Bool) (values : List ℕ) (far : List (Option ℕ)) (r : ℕ) → 128 ≤ r → any_held known values far r ≡ held far (r - 128)
unfolding any_held
far_is known values far r le = grind (arith, nat_tests, le)

module _ (known : List Bool) (values : List ℕ) (far : List (Option ℕ)) (end : ℕ) (so : PlacesSo known values far end) where
  pub view_holds : (r : ℕ) → held (first_held (any_held known values far) end) r ≡ any_held known values far r
  view_holds r = first_is end (any_held known values far) so.beyond r

  pub view_end : (r : ℕ) → end ≤ r → held (first_held (any_held known values far) end) r ≡ None
  view_end r le = view_holds r ∙ so.beyond r le

-- ---- none holds a value

pub none_holds : (r : ℕ) → any_held (replicate 128 false) (replicate 128 0) [] r ≡ None
none_holds r = elim (cases_lt r 128) [
  | inl lt ↦ near_is (replicate 128 false) (replicate 128 0) [] r lt ∙ ap (λ (b : Bool). if b then Some (get_or (replicate 128 0) r 0) else None) (get_or-replicate 128 r false false lt)
  | inr ge ↦ far_is (replicate 128 false) (replicate 128 0) [] r ge
]

pub none_so : (far : List (Option ℕ)) → far ≡ [] → PlacesSo (replicate 128 false) (replicate 128 0) far 0
none_so far e = record {
  known_count = refl;
  value_count = refl;
  most = omega arith;
  beyond = λ r _. subst (λ (l : List (Option ℕ)). any_held (replicate 128 false) (replicate 128 0) l r ≡ None) (sym e) (none_holds r);
}

-- ---- one register holds a value

pub near_put : (known known' : List Bool) (values values' : List ℕ) (far : List (Option ℕ)) (n v : ℕ) → n < 128
    → ((r : ℕ) → near_held known' values' r ≡ (if r == n then Some v else near_held known values r))
    → (r : ℕ) → any_held known' values' far r ≡ (if r == n then Some v else any_held known values far r)
near_put known known' values values' far n v lt put r = elim (cases_lt r 128) [
  | inl near ↦ near_is known' values' far r near ∙ put r ∙ ap (λ (o : Option ℕ). if r == n then Some v else o) (sym (near_is known values far r near))
  | inr ge ↦ grind (arith, nat_tests, lt, ge, far_is known' values' far r ge, far_is known values far r ge)
]

pub far_put : (known : List Bool) (values : List ℕ) (far far' : List (Option ℕ)) (n v : ℕ) → 128 ≤ n
    → ((r : ℕ) → held far' r ≡ (if r == n - 128 then Some v else held far r))
    → (r : ℕ) → any_held known values far' r ≡ (if r == n then Some v else any_held known values far r)
far_put known values far far' n v le put r = elim (cases_lt r 128) [
  | inl near ↦ grind (arith, nat_tests, le, near, near_is known values far' r near, near_is known values far r near)
  | inr ge ↦ grind (arith, nat_tests, le, ge, far_is known values far' r ge, far_is known values far r ge, put (r - 128))
]

module _ (known known' : List Bool) (values values' : List ℕ) (far far' : List (Option ℕ)) (end end' n v : ℕ)
    (so : PlacesSo known values far end) (is_end : end' ≡ max end (n + 1))
    (put : (r : ℕ) → any_held known' values' far' r ≡ (if r == n then Some v else any_held known values far r)) where
  pub put_so : n < 65536 → length known' ≡ 128 → length values' ≡ 128 → PlacesSo known' values' far' end'
  put_so lt known_count value_count = record {
    known_count = known_count;
    value_count = value_count;
    most = omega (arith, is_end, lt, so.most);
    beyond = λ r le. grind (arith, nat_tests, is_end, le, put r, so.beyond r (omega (arith, is_end, le)));
  }

  pub put_held : PlacesSo known' values' far' end' → (r : ℕ) → held (first_held (any_held known' values' far') end') r ≡ (if r == n then Some v else held (first_held (any_held known values far) end) r)
  put_held so' r = view_holds known' values' far' end' so' r ∙ put r ∙ ap (λ (o : Option ℕ). if r == n then Some v else o) (sym (view_holds known values far end so r))
