-- What the code and its proofs say beside Front.
use Rattle.std.specs.Prelude.{◌≡◌, Result, Ok, Err}
use Rattle.dw_num.specs.{Front.Read, Input.Input, declared.refusal.Refusal.Refusal}

-- the same of a reader that may have moved where it failed
abbrev pub Gives : {X Y : Type 0} → (X → Y) → Result X Refusal → Read Y → Input → Type 0
Gives view (Ok x) read new = read ≡ Ok (view x, new)
Gives view (Err e) read new = read ≡ Err e
