-- The initial rows of the groups, one FDE after another, are those of all of them.
use Rattle.std.specs.List.Sorted.{IsStrictlySortedBy}
use Rattle.std.proofs.lemmas.{Bool.Decides.nat_tests, List.Sums.fold-append, List.map-append, Map.Keys.{sorted_head, sorted_tail}}
use Rattle.dw_normal.proofs.Words.{Less, ◌≡◌, ◌+◌, ℕ, suc, length, take, get_or, ◌<◌, List, [], ◌∷◌, ◌++◌, map, cond, Option, Some, None, refl, sym, ap, ◌∙◌, if◌then◌else◌}
use Rattle.dw_normal.proofs.Words.{arith, nat_eq, insert_entry, is_at, AllByRecursion, keys_of, set_value, nat_cmp, take_more, rules, Rules, blank}
use Rattle.dw_normal.proofs.{Words.{return_registers, initial_of, with_register, with_registers, group, initial_row, kept_by, Member, initial_rows, begun_with, row_of, with_member}, Passes.next_member, RegistersBehind.{Rise, all_rise}}

-- ---- a row that is written over the one of its register, or comes in

absent : (k a : ℕ) (es : List (ℕ × Rules)) → k < a → AllByRecursion (λ y. nat_cmp a y ≡ Less) (keys_of es) → row_of es k ≡ None
absent k a [] lt up = refl
absent k a (e ∷ es) lt up = grind (arith, nat_tests, absent k a es lt up.1, up.0)

pub written : (k : ℕ) (es : List (ℕ × Rules)) (x w : Rules) → IsStrictlySortedBy nat_cmp (keys_of es) → row_of es k ≡ Some x → set_value (is_at (nat_cmp k)) es w ≡ insert_entry nat_cmp es k w
written k [] x w up found = absurd cc
written k (e ∷ es) x w up found = grind (arith, nat_tests, written k es x w (sorted_tail nat_cmp e.0 (keys_of es) up), absent k e.0 es, sorted_head nat_cmp e.0 (keys_of es) up)

pub found_in : (k q : ℕ) (v : Rules) (es : List (ℕ × Rules)) → row_of (insert_entry nat_cmp es k v) q ≡ cond (nat_eq k q) (Some v) (row_of es q)
found_in k q v [] = grind (arith, nat_tests)
found_in k q v (e ∷ es) = grind (arith, nat_tests, found_in k q v es)

pub written_twice : (k : ℕ) (v : Rules) (es : List (ℕ × Rules)) → insert_entry nat_cmp (insert_entry nat_cmp es k v) k v ≡ insert_entry nat_cmp es k v
written_twice k v [] = grind (arith, nat_tests)
written_twice k v (e ∷ es) = grind (arith, nat_tests, written_twice k v es)

abbrev paired : (ℕ → Rules) → List ℕ → List (ℕ × Rules)
paired f rs = map {B = ℕ × Rules} (λ (r : ℕ). (r, f r)) rs

module _ (f g : ℕ → Rules) (q : ℕ) (others : (r : ℕ) → (r ≡ q → ⊥) → g r ≡ f r) where
  above : (low : ℕ) (rs : List ℕ) → q < low → Rise low rs → paired f rs ≡ paired g rs
  above low [] lt h = refl
  above low (r ∷ rs) lt h = grind (arith, above (suc r) rs (omega (arith, h.0)) h.1)

  comes_in : (low : ℕ) (rs : List ℕ) → Rise low rs → insert_entry nat_cmp (paired f rs) q (g q) ≡ paired g (with_register q rs)
  comes_in low [] h = refl
  comes_in low (r ∷ rs) h = grind (arith, nat_tests, others r, comes_in (suc r) rs h.1, above (suc r) rs, h)

-- ---- a row is found

-- a list's value, where it has an element
abbrev pub some_of : Rules → List Member → Option Rules
some_of row [] = None
some_of row (m ∷ ms) = Some row

module _ (f : ℕ → Rules) (q : ℕ) where
  -- with the registers of some FDEs more
  abbrev look : List Member → List ℕ → Option Rules
  look ms rs = row_of (paired f (with_registers (map (λ (m : Member). m.register) ms) rs)) q

  look_one : (r : ℕ) (rs : List ℕ) → row_of (paired f (with_register r rs)) q ≡ cond (nat_eq r q) (Some (f q)) (row_of (paired f rs) q)
  look_one r [] = grind (arith, nat_tests)
  look_one r (x ∷ rs) = grind (arith, nat_tests, look_one r rs)

  look_some : (ms : List Member) (rs : List ℕ) → row_of (paired f rs) q ≡ Some (f q) → look ms rs ≡ Some (f q)
  look_some [] rs e = e
  look_some (m ∷ ms) rs e = grind (arith, nat_tests, look_some ms (with_register m.register rs), look_one m.register rs)

  look_all : (ms : List Member) (rs : List ℕ) → row_of (paired f rs) q ≡ None → look ms rs ≡ some_of (f q) (group q ms)
  look_all [] rs none = none
  look_all (m ∷ ms) rs none = grind (arith, nat_tests, look_all ms (with_register m.register rs), look_some ms (with_register m.register rs), look_one m.register rs)

  pub look_members : (ms : List Member) → row_of (paired f (return_registers ms)) q ≡ some_of (f q) (group q ms)
  look_members ms = look_all ms [] refl

-- ---- one FDE more

group_more : (r : ℕ) (ms : List Member) (m : Member) → group r (ms ++ m ∷ []) ≡ (if nat_eq m.register r then group r ms ++ m ∷ [] else group r ms)
group_more r [] m = grind (arith, nat_tests)
group_more r (x ∷ ms) m = grind (arith, nat_tests, group_more r ms m)

joined : (m : Member) (ys : List Member) → initial_row (ys ++ m ∷ []) ≡ kept_by (begun_with (some_of (initial_row ys) ys) m.first) m.later
joined m [] = refl
joined m (y ∷ ys) = next_member y ys m

pub member_more : (ms : List Member) (m : Member) → with_member (initial_rows ms) m ≡ initial_rows (ms ++ m ∷ [])
member_more ms m =
    let f = initial_of ms in
    let g = initial_of (ms ++ m ∷ []) in
    let q = m.register in
    let own : g q ≡ kept_by (begun_with (row_of (initial_rows ms) q) m.first) m.later = grind (arith, nat_tests, group_more q ms m, joined m (group q ms), look_members f q ms) in
    let others : (r : ℕ) → (r ≡ q → ⊥) → g r ≡ f r = λ r other. grind (arith, nat_tests, group_more r ms m) in
    let registers : return_registers (ms ++ m ∷ []) ≡ with_register q (return_registers ms) = search (rules, map-append, fold-append) in
    rw (← own, registers) (comes_in f g q others 0 (return_registers ms) (all_rise (map (λ (n : Member). n.register) ms) [] tt))

-- ---- the loop

pub no_member : Member
no_member = record { begin = 0; end = 0; register = 0; first = blank; later = [] }

pub rows_more : (k : ℕ) (ms : List Member) (rows new : List (ℕ × Rules)) → k < length ms → rows ≡ initial_rows (take k ms) → new ≡ with_member rows (get_or ms k no_member) → new ≡ initial_rows (take (k + 1) ms)
rows_more k ms rows new lt is made =
    made ∙ ap (λ (l : List (ℕ × Rules)). with_member l (get_or ms k no_member)) is ∙ member_more (take k ms) (get_or ms k no_member) ∙ ap initial_rows (sym (take_more ms k no_member lt))
