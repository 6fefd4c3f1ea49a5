-- A number that is checked at each digit is the number that is checked at the end: no digit makes it less.
use Rattle.std.proofs.{Common.{◌≡◌, ℕ, zero, suc, ◌+◌, ◌*◌, ◌<◌, ◌≤◌, List, [], ◌∷◌, Some, None, arith, refl, sym, inl, inr, option_and_then, mul-suc, lt-ltb, le-ltb}, lemmas.Bool.cases_lt}
use Rattle.dw_num.specs.Digits.{below, digit, number_behind}
use Rattle.dw_values.specs.Inner.Values.{checked_behind}

rises : (b n : ℕ) (text : List ℕ) (v : ℕ) → number_behind (suc b) n text ≡ Some v → n ≤ v
rises b n [] v e = let same : n ≡ v = cc in omega (arith, same)
rises b n (c ∷ cs) v e = elim (digit (suc b) c) as (λ o. option_and_then (λ d. number_behind (suc b) (n * suc b + d) cs) o ≡ Some v → n ≤ v) [
  | None ↦ (λ h. absurd cc)
  | Some d ↦ (λ h. omega (arith, rises b (n * suc b + d) cs v h, mul-suc n b))
] e

-- a number that passed the limit
past : (b n : ℕ) (text : List ℕ) → 18446744073709551616 ≤ n → option_and_then (below 18446744073709551616) (number_behind (suc b) n text) ≡ None
past b n text le = elim (number_behind (suc b) n text) as (λ o. number_behind (suc b) n text ≡ o → option_and_then (below 18446744073709551616) o ≡ None) [
  | None ↦ (λ e. refl)
  | Some v ↦ (λ e. rw (le-ltb v 18446744073709551616 (omega (arith, rises b n text v e, le))) refl)
] refl

checked_is : (b n : ℕ) (text : List ℕ) → n < 18446744073709551616 → checked_behind (suc b) n text ≡ option_and_then (below 18446744073709551616) (number_behind (suc b) n text)
checked_is b n [] lt = rw (lt-ltb n 18446744073709551616 lt) refl
checked_is b n (c ∷ cs) lt = elim (digit (suc b) c) as (λ o.
    option_and_then (λ m. checked_behind (suc b) m cs) (option_and_then (λ d. below 18446744073709551616 (n * suc b + d)) o)
    ≡ option_and_then (below 18446744073709551616) (option_and_then (λ d. number_behind (suc b) (n * suc b + d) cs) o)) [
      | None ↦ refl
      | Some d ↦ elim (cases_lt (n * suc b + d) 18446744073709551616) [
        | inl more ↦ rw (lt-ltb (n * suc b + d) 18446744073709551616 more) (checked_is b (n * suc b + d) cs more)
        | inr le ↦ rw (le-ltb (n * suc b + d) 18446744073709551616 le) (sym (past b (n * suc b + d) cs le))
      ]
    ]

pub number_is : (base : ℕ) (text : List ℕ) → 0 < base → checked_behind base 0 text ≡ option_and_then (below 18446744073709551616) (number_behind base 0 text)
number_is zero text some = absurd (omega arith)
number_is (suc b) text some = checked_is b 0 text (omega arith)
