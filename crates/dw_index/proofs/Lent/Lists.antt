-- What holds of all elements of a list, and ranges that are apart.
use Rattle.std.specs.List.{AllByRecursion}
use Rattle.std.proofs.{Common.{ℕ, ◌≤◌, List, [], ◌∷◌, ◌++◌, refl, arith, inl, inr, IsPermutation}, lemmas.List.{Elements.{All-from_recursion, All-push, recursion_from_All}, Sorted.All-permutation}}
use Rattle.dw_index.specs.{Among.IsAmong, Ranges.{AreApart, Range, end_of}}

pub among_here : {X : Type 0} (xs : List X) (x : X) (ys : List X) → IsAmong x (xs ++ x ∷ ys)
among_here [] x ys = inl refl
among_here (z ∷ xs) x ys = inr (among_here xs x ys)

pub all_push : {X : Type 0} (P : X → Type 0) (xs : List X) (x : X) → AllByRecursion P xs → P x → AllByRecursion P (xs ++ x ∷ [])
all_push P xs x h k = recursion_from_All P (xs ++ x ∷ []) (All-push P xs x (All-from_recursion P xs h) k)

pub all_weaker : {X : Type 0} (P Q : X → Type 0) → ((x : X) → P x → Q x) → (xs : List X) → AllByRecursion P xs → AllByRecursion Q xs
all_weaker P Q to [] h = tt
all_weaker P Q to (x ∷ xs) h = (to x h.0, all_weaker P Q to xs h.1)

pub all_permuted : {X : Type 0} (P : X → Type 0) (xs ys : List X) → IsPermutation xs ys → AllByRecursion P xs → AllByRecursion P ys
all_permuted P xs ys p h = recursion_from_All P ys (All-permutation P xs ys p (All-from_recursion P xs h))

pub apart_more : (rs : List Range) (x : Range) (greatest : ℕ) → AreApart rs → AllByRecursion (λ a. end_of a ≤ greatest) rs → greatest ≤ x.begin → AreApart (rs ++ x ∷ [])
apart_more [] x greatest h e le = (tt, tt)
apart_more (a ∷ rs) x greatest h e le = (all_push (λ b. end_of a ≤ b.begin) rs x h.0 (omega (arith, e.0)), apart_more rs x greatest h.1 e.1 le)
