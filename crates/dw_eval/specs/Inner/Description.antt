-- How the code keeps a description.
use Rattle.std.specs.{Prelude.{◌≡◌, ◌⊎◌, ℕ, List, ◌∷◌, map, option_map, Result, Ok, Err}, Global.Vec}
use Rattle.dw_op.specs.declared.op.Op.{Op}
use Rattle.dw_eval.specs.{Context.Context, Inner.Steps.StepsTo, Location.{place_reads, place_step, pieces_of}, declared.place.Piece.Piece}
use Rattle.dw_eval.specs.{Location.{PlaceState, bare_place, bare_piece}, declared.description.Description.Description}
use Rattle.dw_eval.specs.declared.error.{EvalError.EvalError, EvalError.TheVariants.{Fault, OutOfMemory}, Kind.Kind}

-- the state that a description stands for before an operation
abbrev pub state_of : ℕ → Description → PlaceState
state_of i d = record { index = i; stack = d.stack; pending = option_map bare_place d.pending; pieces = map bare_piece d.pieces.items }

-- a step from operation i without memory: it leads to a state, given its index, or to an error
abbrev pub StepsWithoutMemory : Result PlaceState Kind → ℕ → (ℕ → PlaceState) → Result ℕ EvalError → Type 0
StepsWithoutMemory step i state (Ok next) = step ≡ Ok (state next)
StepsWithoutMemory step i state (Err OutOfMemory) = Unit {0}
StepsWithoutMemory step i state (Err (Fault kind j)) = (step ≡ Err kind) × (j ≡ i)

-- so does one that leaves a description
abbrev pub Leaves : Result PlaceState Kind → ℕ → Description → Result ℕ EvalError → Type 0
Leaves step i d = StepsWithoutMemory step i (λ next. state_of next d)

-- and one over a memory, by an operation
abbrev pub LeavesOver : Context → Op → ℕ → Description → ℕ → Description → Result ℕ EvalError → ℕ → Type 0
LeavesOver c op i old before new =
    StepsTo (place_step c op (state_of i old)) (place_reads c op (state_of i old)) i before (λ next. state_of next new)

-- what the end of a list gives of a description that has pieces, by the list's length and these
abbrev pub EndsBehind : Description → (ℕ → List Piece → Result (List Piece) EvalError) → Type 0
EndsBehind d ending =
    (len : ℕ) (piece : Piece) (pieces : List Piece) → pieces_of len (option_map bare_place d.pending) d.stack (piece ∷ pieces) ≡ ending len (piece ∷ pieces)

-- what it gives of any one, and what is answered there: that, or want of memory
abbrev pub ended : ℕ → Description → Result (List Piece) EvalError
ended len d = pieces_of len (option_map bare_place d.pending) d.stack (map bare_piece d.pieces.items)

abbrev pub Finishes : ℕ → Description → Result (Vec Piece) EvalError → Type 0
Finishes len d (Ok pieces) = ended len d ≡ Ok (map bare_piece pieces.items)
Finishes len d (Err e) = (e ≡ OutOfMemory) ⊎ (ended len d ≡ Err e)
