-- What the code and its proofs say beside Walks.
use Rattle.std.specs.Prelude.{ℕ, zero, suc, List, [], ◌∷◌, length, Option, Some, None, Ok, Err}
use Rattle.dw_num.specs.{Front.Read, Input.Input, declared.refusal.Refusal.Refusal}
use Rattle.dw_op.specs.Walks.{Walked}

abbrev pub ended : {X : Type 0} → Option Refusal → Walked X
ended fault = record { items = []; fault = fault }

abbrev pub put : {X : Type 0} → X → Walked X → Walked X
put x w = record { items = x ∷ w.items; fault = w.fault }

abbrev pub on_read : {A X : Type 0} → Read A → (Refusal → Walked X) → (A × Input → Walked X) → Walked X
on_read (Ok x) stuck go = go x
on_read (Err e) stuck go = stuck e

abbrev pub on_left : {X : Type 0} → List ℕ → Walked X → Walked X
on_left [] w = ended None
on_left (b ∷ bytes) w = w

-- at most n are read, each kept with its place
unfoldable pub walked_by : {A X : Type 0} → (Input → Read A) → (ℕ → A → X) → ℕ → Input → Walked X
walked_by read item zero i = ended None
walked_by read item (suc n) i = on_left i.bytes (on_read (read i) (λ e. ended (Some e)) (λ x. put (item i.at x.0) (walked_by read item n x.1)))

abbrev pub walked : {A X : Type 0} → (Input → Read A) → (ℕ → A → X) → Input → Walked X
walked read item i = walked_by read item (length i.bytes) i
