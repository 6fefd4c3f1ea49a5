-- What holds of evaluations, for the layers above.
use Rattle.std.specs.Prelude.{ℕ, ◌<◌, List, Ok, Err}
use Rattle.dw_num.specs.{Laws.HoldsOfOne, Target.address_limit}
use Rattle.dw_op.specs.{Ranges.AllInRange, declared.op.Op.Op}
use Rattle.dw_eval.specs.{Context.Context, Evaluation.Evaluates, Location.Located, Space.{AreInSpace, ArePlacesInSpace}, Wanted.IsMissing}
use Rattle.dw_eval.specs.declared.{error.EvalError.TheVariants.Fault, error.Kind.Kind, place.Piece.Piece}

-- an expression has exactly one answer, whatever is on the stack at the start
abbrev pub OneResult : Type 0
OneResult =
    (ops : List Op) (c : Context) (first : List ℕ) (limit : ℕ) → AllInRange c.target ops → HoldsOfOne (Evaluates ops c first limit)

-- so has a description
abbrev pub OneLocation : Type 0
OneLocation = (ops : List Op) (c : Context) (limit : ℕ) → AllInRange c.target ops → HoldsOfOne (Located ops c limit)

-- a value is below 2 ^ N where all that is on the stack at the start is
abbrev pub ValuesInSpace : Type 0
ValuesInSpace =
    (ops : List Op) (c : Context) (first : List ℕ) (limit v : ℕ) → AreInSpace c.target.size first → Evaluates ops c first limit (Ok v) → v < address_limit c.target.size

-- so are the addresses and values of the places that a description gives
abbrev pub LocationsInSpace : Type 0
LocationsInSpace = (ops : List Op) (c : Context) (limit : ℕ) (pieces : List Piece) → Located ops c limit (Ok pieces) → ArePlacesInSpace c.target.size pieces

-- what a fault of an expression asks for is missing
abbrev pub WantedByValue : Type 0
WantedByValue =
    (ops : List Op) (c : Context) (first : List ℕ) (limit : ℕ) (kind : Kind) (i : ℕ) → Evaluates ops c first limit (Err (Fault kind i)) → IsMissing c kind

-- so is what a fault of a description asks for
abbrev pub WantedByLocation : Type 0
WantedByLocation = (ops : List Op) (c : Context) (limit : ℕ) (kind : Kind) (i : ℕ) → Located ops c limit (Err (Fault kind i)) → IsMissing c kind
