-- What a reader of the code answers, and where it leaves its cursor.
use Rattle.std.specs.Prelude.{◌≡◌, Result, Ok, Err}
use Rattle.dw_num.specs.{Front.Read, Input.Input, declared.refusal.Refusal.Refusal}

-- a call answered what reading gives; where it failed, the cursor may have moved
abbrev pub Gives : {X Y : Type 0} → (X → Y) → Result X Refusal → Read Y → Input → Type 0
Gives view (Ok x) read new = read ≡ Ok (view x, new)
Gives view (Err e) read new = read ≡ Err e
