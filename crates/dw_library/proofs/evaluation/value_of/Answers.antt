use Rattle.dw_library.proofs.Words.{◌⊎◌, inl, inr, refl}
use Rattle.dw_library.proofs.evaluation.value_of.Goals as goal

carried : {A B C : Type 0} → (B → C) → A ⊎ B → A ⊎ C
carried f (inl a) = inl a
carried f (inr b) = inr (f b)

pub returns : goal.returns
returns c =
    carried (λ is. record { values = c.give_all.new.registers; are = c.in-Ok.ensures; is = is })
    (rw (c.target.ensures, c.known_if.ensures, c.known_if-2.ensures, c.known_if-3.ensures, c.known_if-start.ensures) at (c.evaluate.ensures.answered refl))
