-- Location descriptions: DWARF 5, 2.6.1.
use Rattle.std.specs.{Prelude.{◌≡◌, ℕ, ◌+◌, List, [], ◌∷◌, ◌++◌, length, map, Option, Some, None, Result, Ok, Err}, Global.Vec}
use Rattle.dw_op.specs.declared.op.{Op.Op, Op.TheVariants.{Reg, Nop, BitPiece, Implicit, StackValue}}
use Rattle.dw_op.specs.declared.op.Op.TheVariants as op
use Rattle.dw_eval.specs.{Context.{Context, context}, Effect.{OpEffect, Faults, effect, leads, ReadsMemory}, Runs.{IsResult, MayFail}, declared.env.Env.Env}
use Rattle.dw_eval.specs.declared.error.{EvalError.EvalError, EvalError.TheVariants.Fault, Kind.Kind, Kind.TheVariants.{StackUnderflow, MissingPiece}}
use Rattle.dw_eval.specs.declared.place.{Part.Part, Part.TheVariants.{Whole, Bits}, Piece.Piece, Place.Place}
use Rattle.dw_eval.specs.declared.place.Place.TheVariants.{Empty, Memory, Register, Value, Bytes}
use Rattle.dw_eval.specs.declared.place.Part.TheVariants as part

-- before an operation: its index, the stack, the place that waits for its piece, and the pieces so far
pub record PlaceState : Type 0 where
  pub index : ℕ
  pub stack : List ℕ
  pub pending : Option Place
  pub pieces : List Piece

abbrev pub place_index : PlaceState → ℕ
place_index s = s.index

-- the pending place, else memory at the top, else nothing
abbrev pub place_here : Option Place → List ℕ → Place
place_here (Some place) stack = place
place_here None [] = Empty
place_here None (t ∷ below) = Memory t

-- on with a piece more: the stack and the pending place are emptied
abbrev pub with_piece : Part → PlaceState → PlaceState
with_piece part s =
    record { index = s.index + 1; stack = []; pending = None; pieces = s.pieces ++ record { place = place_here s.pending s.stack; part = part } ∷ [] }

-- on with a pending place
abbrev pub with_place : Place → List ℕ → PlaceState → PlaceState
with_place place stack s = record { index = s.index + 1; stack = stack; pending = Some place; pieces = s.pieces }

-- on with a stack
abbrev pub with_stack : ℕ → List ℕ → PlaceState → PlaceState
with_stack i stack s = record { index = i; stack = stack; pending = s.pending; pieces = s.pieces }

-- the value on the top is a place
abbrev pub with_value : List ℕ → PlaceState → Result PlaceState Kind
with_value [] s = Err StackUnderflow
with_value (t ∷ below) s = Ok (with_place (Value t) below s)

-- while no place is pending
abbrev pub free_step : Context → Op → PlaceState → Result PlaceState Kind
free_step c (Reg r) s = Ok (with_place (Register r) s.stack s)
free_step c (Implicit block) s = Ok (with_place (Bytes block) s.stack s)
free_step c StackValue s = with_value s.stack s
free_step c (op.Piece n) s = Ok (with_piece (part.Bytes n) s)
free_step c (BitPiece size offset) s = Ok (with_piece (Bits size offset) s)
free_step c other s = leads (λ i stack. with_stack i stack s) s.index (effect c other s.stack)

-- what is no piece: the stack is too short for it, or the piece is missing
abbrev pub refused : OpEffect → Result PlaceState Kind
refused (Faults StackUnderflow) = Err StackUnderflow
refused other = Err MissingPiece

-- while a place is pending a piece has to follow
abbrev pub held_step : Context → Op → PlaceState → Result PlaceState Kind
held_step c (op.Piece n) s = Ok (with_piece (part.Bytes n) s)
held_step c (BitPiece size offset) s = Ok (with_piece (Bits size offset) s)
held_step c Nop s = Ok (with_stack (s.index + 1) s.stack s)
held_step c other s = refused (effect c other s.stack)

abbrev pub step_by : Context → Op → Option Place → PlaceState → Result PlaceState Kind
step_by c op None s = free_step c op s
step_by c op (Some place) s = held_step c op s

abbrev pub place_step : Context → Op → PlaceState → Result PlaceState Kind
place_step c op s = step_by c op s.pending s

-- index 0 and nothing yet
abbrev pub place_start : PlaceState
place_start = record { index = 0; stack = []; pending = None; pieces = [] }

-- an operation reads from memory, where it is not refused
abbrev pub place_reads : Context → Op → PlaceState → Type 0
place_reads c op s = (s.pending ≡ None) × ReadsMemory c op s.stack

-- at the end of a list of this length: one whole piece where there is none yet, and nothing is left behind pieces
abbrev pub pieces_of : ℕ → Option Place → List ℕ → List Piece → Result (List Piece) EvalError
pieces_of len pending stack [] = Ok (record { place = place_here pending stack; part = Whole } ∷ [])
pieces_of len None [] (piece ∷ pieces) = Ok (piece ∷ pieces)
pieces_of len None (t ∷ below) (piece ∷ pieces) = Err (Fault MissingPiece len)
pieces_of len (Some place) stack (piece ∷ pieces) = Err (Fault MissingPiece len)

-- a place without where its bytes lie in memory
abbrev pub bare_place : Place → Place
bare_place (Bytes block) = Bytes (record { ref_ptr = (0, 0); now = block.now })
bare_place other = other

abbrev pub bare_piece : Piece → Piece
bare_piece p = record { place = bare_place p.place; part = p.part }

-- the bare pieces, or the error
abbrev pub bare_result : Result (Vec Piece) EvalError → Result (List Piece) EvalError
bare_result (Ok pieces) = Ok (map bare_piece pieces.items)
bare_result (Err e) = Err e

module _ (ops : List Op) (c : Context) where
  -- the pieces, or the kind of the fault and the operation's index
  abbrev pub Located : ℕ → Result (List Piece) EvalError → Type 0
  Located = IsResult place_index (place_step c) ops place_start (λ s. pieces_of (length ops) s.pending s.stack s.pieces)

-- the pieces of a description, in an environment over a memory of these bytes
abbrev pub LocatedIn : List Op → Env → (ℕ → Option ℕ) → ℕ → Result (List Piece) EvalError → Type 0
LocatedIn ops env byte = Located ops (context env byte)

-- operation i of it is reached before the limit while no place is pending, and reads from memory
abbrev pub PlaceMayFailIn : List Op → Env → (ℕ → Option ℕ) → ℕ → ℕ → Type 0
PlaceMayFailIn ops env byte = MayFail place_index (place_step (context env byte)) ops place_start (place_reads (context env byte))
