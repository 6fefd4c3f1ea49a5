-- What the code and its proofs say beside Stage.
use Rattle.std.specs.Prelude.{◌≡◌, Result, Ok, Err}
use Rattle.dw_num.specs.declared.refusal.Refusal.{Refusal}

-- a call answered what reading gives
abbrev pub Answers : {X Y : Type 0} → (X → Y) → Result X Refusal → Result Y Refusal → Type 0
Answers view (Ok x) read = read ≡ Ok (view x)
Answers view (Err e) read = read ≡ Err e
