-- Bytes that a sink took, one piece after another.
use Rattle.dw_normal.proofs.Words.{ℕ, ◌+◌, ◌-◌, List, ◌++◌, length, take, Option, sym, ap, ◌∙◌, subst, drop, take-add, take_rest, Appends-trans, Appends}

pub took_more : (old mid new : Option (List ℕ)) (done n : ℕ) (bytes : List ℕ) → Appends old mid (take done bytes) → Appends mid new (take n (take (length bytes - done) (drop done bytes))) → Appends old new (take (done + n) bytes)
took_more old mid new done n bytes h k =
    let piece = ap (λ (l : List ℕ). take n l) (take_rest bytes done) in
    subst (λ (l : List ℕ). Appends old new l) (ap (λ (l : List ℕ). take done bytes ++ l) piece ∙ sym (take-add done n bytes))
    (Appends-trans old mid new (take done bytes) (take n (take (length bytes - done) (drop done bytes))) h k)
