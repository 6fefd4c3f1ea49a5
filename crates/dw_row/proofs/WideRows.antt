-- Ascending registers in a tree: what it finds, puts in and takes out is what the list of them says.
use Rattle.std.specs.Map.{lookup, remove_entry}
use Rattle.dw_row.proofs.Words.{◌≡◌, ℕ, suc, ◌<◌, ◌≤◌, true, false, List, [], ◌∷◌, refl, sym, arith, nat_cmp, unwrap_or, nat_tests, RegRule, Unspecified, is_specified, AreSpecified, rule_in, put, insert_entry, is_at}
use Rattle.dw_row.proofs.{Lent.RowLists.{Entry, listed_is, put_keeps, put_rule}, Slots.is_put}

pub found_is : (r : ℕ) (xs : List Entry) → unwrap_or (lookup (is_at (nat_cmp r)) xs) Unspecified ≡ rule_in xs r
found_is r [] = refl
found_is r (x ∷ xs) = grind (arith, nat_tests, found_is r xs)

pub inserted_is : (r : ℕ) (rule : RegRule) (xs : List Entry) → is_specified rule ≡ true → insert_entry nat_cmp xs r rule ≡ put r rule xs
inserted_is r rule [] is = sym (listed_is r rule [] is)
inserted_is r rule (x ∷ xs) is = grind (arith, nat_tests, inserted_is r rule xs is, listed_is r rule xs is, listed_is r rule (x ∷ xs) is)

-- no register below all of a list is taken out of it
none_removed : (r low : ℕ) (xs : List Entry) → AreSpecified low xs → r < low → remove_entry (is_at (nat_cmp r)) xs ≡ xs
none_removed r low [] up lt = refl
none_removed r low (x ∷ xs) up lt = let first : low ≤ x.0 = up.0 in grind (arith, nat_tests, none_removed r (suc x.0) xs up.2)

pub removed_is : (r low : ℕ) (xs : List Entry) → AreSpecified low xs → remove_entry (is_at (nat_cmp r)) xs ≡ put r Unspecified xs
removed_is r low [] up = refl
removed_is r low (x ∷ xs) up = grind (arith, nat_tests, removed_is r (suc x.0) xs up.2, none_removed r (suc x.0) xs up.2)

pub not_put : (r : ℕ) (rule : RegRule) (xs : List Entry) → is_specified rule ≡ false → AreSpecified 0 xs → remove_entry (is_at (nat_cmp r)) xs ≡ put r rule xs
not_put r Unspecified xs e up = removed_is r 0 xs up
not_put r rule xs e up = absurd cc

-- ---- taking a change back

pub put_same : (r : ℕ) (xs : List Entry) → AreSpecified 0 xs → put r (rule_in xs r) xs ≡ xs
put_same r xs up = sym (is_put r (rule_in xs r) xs xs up up (λ q. grind (arith, nat_tests)))

pub put_back : (r : ℕ) (rule : RegRule) (xs : List Entry) → AreSpecified 0 xs → put r (rule_in xs r) (put r rule xs) ≡ xs
put_back r rule xs up = sym (is_put r (rule_in xs r) (put r rule xs) xs (put_keeps r rule 0 xs up (omega arith)) up (λ q. grind (arith, nat_tests, put_rule r rule 0 xs q up)))
