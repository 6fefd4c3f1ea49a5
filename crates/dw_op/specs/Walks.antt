-- Reading one after another, up to the first fault.
use Rattle.std.specs.Prelude.{List, Option}
use Rattle.dw_num.specs.declared.refusal.Refusal.{Refusal}

-- what is read, and the fault of what follows it, if anything does
pub record Walked (X : Type 0) : Type 0 where
  pub items : List X
  pub fault : Option Refusal
