-- A walk between the items that it has seen and those that are left.
use Rattle.dw_section.proofs.{Words.{◌≡◌, List, [], ◌∷◌, ◌++◌, refl, sym, ap, subst, ◌∙◌, append_assoc, append-nil, AllByRecursion, Refusal, FirstStuck, IsAmong, Input}, Stages.among_here, Left.stays_then}
use Rattle.dw_section.specs.Inner.Left.{Stays}

pub record Between {X : Type 0} (Left Front : List X → Type 0) (xs : List X) : Type 0 where
  pub front : List X
  pub rest : List X
  pub whole : xs ≡ front ++ rest
  pub left : Left rest
  pub so : Front front

pub between_start : {X : Type 0} {Left Front : List X → Type 0} (xs : List X) → Left xs → Front [] → Between Left Front xs
between_start xs left so = record { front = []; rest = xs; whole = refl; left = left; so = so }

pub between_next : {X : Type 0} {Left Next Front Then : List X → Type 0} (xs : List X) (w : Between Left Front xs) (x : X) (more : List X) → w.rest ≡ x ∷ more → Next more → Then (w.front ++ x ∷ []) → Between Next Then xs
between_next xs w x more e next so = record {
  front = w.front ++ x ∷ [];
  rest = more;
  whole = w.whole ∙ ap (λ ys. w.front ++ ys) e ∙ sym (append_assoc w.front (x ∷ []) more);
  left = next;
  so = so;
}

pub between_end : {X : Type 0} {Left Front : List X → Type 0} (xs : List X) (w : Between Left Front xs) → w.rest ≡ [] → Front xs
between_end {Front} xs w e = subst Front (sym (w.whole ∙ ap (λ ys. w.front ++ ys) e ∙ append-nil w.front)) w.so

pub between_stuck : {X : Type 0} {Left Front : List X → Type 0} (Holds : X → Type 0) (Stuck : X → Refusal → Type 0) (xs : List X) (w : Between Left Front xs) (x : X) (more : List X) (r : Refusal) → w.rest ≡ x ∷ more
    → AllByRecursion Holds w.front → Stuck x r → FirstStuck Holds Stuck xs r
between_stuck Holds Stuck xs w x more r e hold stuck = record { before = w.front; it = x; after = more; whole = w.whole ∙ ap (λ ys. w.front ++ ys) e; hold = hold; stuck = stuck }

-- the item that comes next is among them
pub between_among : {X : Type 0} {Left Front : List X → Type 0} (xs : List X) (w : Between Left Front xs) (x : X) (more : List X) → w.rest ≡ x ∷ more → IsAmong x xs
between_among xs w x more e = subst (IsAmong x) (sym (w.whole ∙ ap (λ ys. w.front ++ ys) e)) (among_here w.front x more)

-- what holds of those seen and of those left, and where one of those left is stuck
pub both : {X : Type 0} (Holds : X → Type 0) (xs ys : List X) → AllByRecursion Holds xs → AllByRecursion Holds ys → AllByRecursion Holds (xs ++ ys)
both Holds [] ys front rest = rest
both Holds (x ∷ xs) ys front rest = (front.0, both Holds xs ys front.1 rest)

pub between_later : {X : Type 0} {Left Front : List X → Type 0} (Holds : X → Type 0) (Stuck : X → Refusal → Type 0) (xs : List X) (w : Between Left Front xs) (r : Refusal) → AllByRecursion Holds w.front → FirstStuck Holds Stuck w.rest r → FirstStuck Holds Stuck xs r
between_later Holds Stuck xs w r front s = record {
  before = w.front ++ s.before;
  it = s.it;
  after = s.after;
  whole = w.whole ∙ ap (λ ys. w.front ++ ys) s.whole ∙ sym (append_assoc w.front s.before (s.it ∷ s.after));
  hold = both Holds w.front s.before front s.hold;
  stuck = s.stuck;
}

-- ---- a walk over a section

pub record Walk {X : Type 0} (Left : Input → List X → Type 0) (Known : List X → Type 0) (Front : List X → List X → Type 0) (start now : Input) : Type 0 where
  pub stays : Stays start now
  pub at : (xs : List X) → Known xs → Between (Left now) (Front xs) xs

module _ {X : Type 0} {Left : Input → List X → Type 0} {Known : List X → Type 0} {Front : List X → List X → Type 0} {start : Input} where
  pub walk_start : ((xs : List X) → Known xs → Left start xs) → ((xs : List X) → Known xs → Front xs []) → Walk Left Known Front start start
  walk_start left so = record { stays = record { target = refl; end = refl }; at = λ xs known. between_start xs (left xs known) (so xs known) }

  pub walk_next : {Then : List X → List X → Type 0} (old new : Input) (x : X) → Walk Left Known Front start old → Stays old new → ((xs : List X) → Left old xs → (more : List X) × (xs ≡ x ∷ more) × Left new more)
      → ((xs : List X) → Known xs → (w : Between (Left old) (Front xs) xs) (more : List X) → w.rest ≡ x ∷ more → Then xs (w.front ++ x ∷ [])) → Walk Left Known Then start new
  walk_next old new x walk on gives so = record {
    stays = stays_then start old new walk.stays on;
    at = λ xs known. let w = walk.at xs known in let q = gives w.rest w.left in between_next xs w x q.0 q.1 q.2 (so xs known w q.0 q.1);
  }

  pub walk_end : (now : Input) → Walk Left Known Front start now → ((xs : List X) → Left now xs → xs ≡ []) → (xs : List X) → Known xs → Front xs xs
  walk_end now walk none xs known = let w = walk.at xs known in between_end xs w (none w.rest w.left)

  pub walk_stuck : (now : Input) (x : X) → Walk Left Known Front start now → {Rest : List X → Type 0} → ((xs : List X) → Left now xs → (more : List X) × (xs ≡ x ∷ more) × Rest more)
      → (Holds : X → Type 0) (Stuck : X → Refusal → Type 0) (r : Refusal) (xs : List X) → Known xs → ((front : List X) → Front xs front → AllByRecursion Holds front) → Stuck x r → FirstStuck Holds Stuck xs r
  walk_stuck now x walk gives Holds Stuck r xs known hold stuck = let w = walk.at xs known in let q = gives w.rest w.left in between_stuck Holds Stuck xs w x q.0 r q.1 (hold w.front w.so) stuck
