-- What holds of each element of a list.
use Rattle.dw_frame.proofs.Words.{List, [], ◌∷◌, sym, subst, inl, inr, AllByRecursion, IsAmong}
pub use Rattle.dw_dump.proofs.Lent.Elements.{all_more, all_push}

-- so also of one among them
pub all_among : {X : Type 0} (P : X → Type 0) (xs : List X) (x : X) → AllByRecursion P xs → IsAmong x xs → P x
all_among P [] x h i = absurd i
all_among P (y ∷ xs) x h (inl is) = subst P (sym is) h.0
all_among P (y ∷ xs) x h (inr i) = all_among P xs x h.1 i
