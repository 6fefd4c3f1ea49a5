-- What a fault of an evaluation asks for is missing.
use Rattle.dw_eval.specs.{Wanted.IsMissing, declared.place.Piece.Piece}
use Rattle.dw_eval.proofs.Words.{ℕ, List, [], ◌∷◌, length, Option, Some, None, Result, Ok, Err, inl, inr, sym, subst, EvalError, Fault, OutOfMemory, top_of, Place, Context, pieces_of, WantedByValue, WantedByLocation}
use Rattle.dw_eval.proofs.{Effects.{StepTells, ValueLeads, value_tells}, PlaceSteps.{Leads, step_tells}}

module _ (c : Context) where
  abbrev EndTells : {A : Type 0} → Result A EvalError → Type 0
  EndTells (Ok v) = Unit {0}
  EndTells (Err (Fault kind i)) = IsMissing c kind
  EndTells (Err OutOfMemory) = Unit {0}

  top_tells : (len : ℕ) (stack : List ℕ) → EndTells (top_of len stack)
  top_tells len [] = tt
  top_tells len (v ∷ below) = tt

  pieces_tell : (len : ℕ) (pending : Option Place) (stack : List ℕ) (pieces : List Piece) → EndTells (pieces_of len pending stack pieces)
  pieces_tell len pending stack [] = tt
  pieces_tell len None [] (piece ∷ pieces) = tt
  pieces_tell len None (t ∷ below) (piece ∷ pieces) = tt
  pieces_tell len (Some place) stack (piece ∷ pieces) = tt

pub wanted_by_value : WantedByValue
wanted_by_value ops c first limit kind i (inl h) = subst (EndTells c) (sym h.gives) (top_tells c (length ops) h.state.stack)
wanted_by_value ops c first limit kind i (inr (inl h)) = subst (EndTells c {A = ℕ}) (sym h.gives) (subst (StepTells c (ValueLeads c h.operation h.state)) h.faults (value_tells c h.operation h.state))
wanted_by_value ops c first limit kind i (inr (inr h)) = subst (EndTells c {A = ℕ}) (sym h.gives) tt

pub wanted_by_location : WantedByLocation
wanted_by_location ops c limit kind i (inl h) = subst (EndTells c) (sym h.gives) (pieces_tell c (length ops) h.state.pending h.state.stack h.state.pieces)
wanted_by_location ops c limit kind i (inr (inl h)) = subst (EndTells c {A = List Piece}) (sym h.gives) (subst (StepTells c (Leads c h.operation h.state)) h.faults (step_tells c h.operation h.state))
wanted_by_location ops c limit kind i (inr (inr h)) = subst (EndTells c {A = List Piece}) (sym h.gives) tt
