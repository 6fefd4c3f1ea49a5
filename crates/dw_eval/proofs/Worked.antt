-- Worked effects and runs.
use Rattle.dw_eval.proofs.Words.{◌≡◌, ℕ, zero, suc, List, [], ◌∷◌, Option, Some, None, Ok, Err, refl, lit<, lit≤, inl, inr, Four, Eight, Op, Const, Div, Shl, Shra, Rot, Skip, Deref, Not, Minus, Pick, Bra, Ge, Abs, Reg, Drop, Nop}
use Rattle.dw_eval.proofs.Words.{StackValue, Fault, DivideByZero, StepLimit, Unreadable, StackUnderflow, EmptyResult, MissingPiece, Context, signed, Next, Jump, Faults, effect, State, Evaluates, ValueRuns, PlaceState, place_step, pieces_of}
use Rattle.dw_eval.proofs.Words.{Located, Whole, Place}
use Rattle.dw_num.specs.declared.target.Order.TheVariants.{Little}
use Rattle.dw_eval.specs.declared.place.{Piece.Piece, Place.TheVariants.{Empty, Memory, Register, Value}}
use Rattle.dw_op.specs.declared.op.Op.TheVariants as op
use Rattle.dw_eval.specs.declared.place.Part.TheVariants as part

abbrev nothing : Context
nothing = record { target = record { size = Eight; order = Little }; register = λ r. None; byte = λ a. None; frame_base = None; cfa = None; object = None }

abbrev small : Context
small = record nothing { target = record { size = Four; order = Little } }

-- what operations do to a stack
effects : (effect nothing Div (0xffff_ffff_ffff_ffff ∷ 8 ∷ []) ≡ Next (0xffff_ffff_ffff_fff8 ∷ []))  -- 8 / -1
    × (effect small Div (2 ∷ 0xffff_fff9 ∷ []) ≡ Next (0xffff_fffd ∷ []))  -- -7 / 2 is -3
    × (effect small Div (0xffff_ffff ∷ 0x8000_0000 ∷ []) ≡ Next (0x8000_0000 ∷ []))  -- the least number by -1 is itself
    × (effect small Abs (0x8000_0000 ∷ []) ≡ Next (0x8000_0000 ∷ []))
    × (effect nothing Div (0 ∷ 8 ∷ []) ≡ Faults DivideByZero)
    × (effect small Minus (2 ∷ 1 ∷ []) ≡ Next (0xffff_ffff ∷ []))
    × (effect small Not (0xf ∷ []) ≡ Next (0xffff_fff0 ∷ []))
    × (effect small Ge (0xffff_ffff ∷ 0 ∷ []) ≡ Next (1 ∷ []))
    × (effect nothing Shl (64 ∷ 128 ∷ []) ≡ Next (0 ∷ []))
    × (effect nothing Shra (1 ∷ 0xffff_ffff_ffff_fff8 ∷ []) ≡ Next (0xffff_ffff_ffff_fffc ∷ []))  -- -8 >> 1 is -4
    × (effect nothing Shra (70 ∷ 0xffff_ffff_ffff_fff8 ∷ []) ≡ Next (0xffff_ffff_ffff_ffff ∷ []))  -- and by 70 all sign bits
    × (effect nothing Rot (3 ∷ 2 ∷ 1 ∷ []) ≡ Next (2 ∷ 1 ∷ 3 ∷ []))  -- the second comes to the top
    × (effect nothing (Pick 2) (3 ∷ 2 ∷ 1 ∷ []) ≡ Next (1 ∷ 3 ∷ 2 ∷ 1 ∷ []))
    × (effect nothing (Pick 1) (3 ∷ []) ≡ Faults StackUnderflow)
    × (effect nothing (Bra 7) (3 ∷ []) ≡ Jump 7 [])
    × (effect nothing Deref (0xffff_ffff_ffff_fffc ∷ []) ≡ Faults (Unreadable 0xffff_ffff_ffff_fffc 8))
unfolding signed
effects = (refl, refl, refl, refl, refl, refl, refl, refl, refl, refl, refl, refl, refl, refl, refl, refl)

-- a branch to itself reaches the limit
abbrev loop : List Op
loop = Skip 0 ∷ []

runs : (n : ℕ) → ValueRuns loop nothing [] n (record { index = 0; stack = [] })
runs zero = refl
runs (suc n) = (record { index = 0; stack = [] }, Skip 0, runs n, refl, refl)

limit : Evaluates loop nothing [] 1000 (Err (Fault StepLimit 0))
limit = inr (inr (record { state = record { index = 0; stack = [] }; run = runs 1000; before_end = lit< tt; gives = refl }))

-- one step is enough for one operation, and none is not
abbrev at : ℕ → List ℕ → State
at i stack = record { index = i; stack = stack }

one : Evaluates (Const 1 ∷ []) nothing [] 1 (Ok 1)
one = inl (record { steps = 1; state = at 1 (1 ∷ []); within_limit = lit≤ tt; run = (at 0 [], Const 1, refl, refl, refl); at_end = refl; gives = refl })

no_step : Evaluates (Const 1 ∷ []) nothing [] 0 (Err (Fault StepLimit 0))
no_step = inr (inr (record { state = at 0 []; run = refl; before_end = lit< tt; gives = refl }))

start : Evaluates [] nothing (5 ∷ []) 0 (Ok 5)
start = inl (record { steps = 0; state = at 0 (5 ∷ []); within_limit = lit≤ tt; run = refl; at_end = refl; gives = refl })

nothing_at_all : Evaluates [] nothing [] 0 (Err (Fault EmptyResult 0))
nothing_at_all = inl (record { steps = 0; state = at 0 []; within_limit = lit≤ tt; run = refl; at_end = refl; gives = refl })

by_zero : Evaluates (Const 8 ∷ Const 0 ∷ Div ∷ []) nothing [] 9 (Err (Fault DivideByZero 2))
by_zero = inr (inl (record {
  steps = 2;
  state = at 2 (0 ∷ 8 ∷ []);
  operation = Div;
  kind = DivideByZero;
  below_limit = lit< tt;
  run = (at 1 (8 ∷ []), Const 0, (at 0 [], Const 8, refl, refl, refl), refl, refl);
  reached = refl;
  faults = refl;
  gives = refl;
}))

-- ---- places

abbrev in_place : ℕ → List ℕ → Option Place → List Piece → PlaceState
in_place i stack pending pieces = record { index = i; stack = stack; pending = pending; pieces = pieces }

steps : (place_step nothing (op.Piece 2) (in_place 2 (1 ∷ 0 ∷ []) None []) ≡ Ok (in_place 3 [] None (record { place = Memory 1; part = part.Bytes 2 } ∷ [])))  -- a piece empties the stack
    × (place_step nothing (op.Piece 3) (in_place 0 [] None []) ≡ Ok (in_place 1 [] None (record { place = Empty; part = part.Bytes 3 } ∷ [])))
    -- behind a place: the stack is judged first, then the piece is missing
    × (place_step nothing (Reg 3) (in_place 1 [] (Some (Register 0)) []) ≡ Err MissingPiece)
    × (place_step nothing Drop (in_place 1 [] (Some (Register 0)) []) ≡ Err StackUnderflow)
    × (place_step nothing Drop (in_place 2 (8 ∷ []) (Some (Register 0)) []) ≡ Err MissingPiece)
    × (place_step nothing Nop (in_place 1 [] (Some (Register 0)) []) ≡ Ok (in_place 2 [] (Some (Register 0)) []))
steps = (refl, refl, refl, refl, refl, refl)

value : Located (Const 1 ∷ StackValue ∷ []) nothing 9 (Ok (record { place = Value 1; part = Whole } ∷ []))
value = inl (record {
  steps = 2;
  state = in_place 2 [] (Some (Value 1)) [];
  within_limit = lit≤ tt;
  run = (in_place 1 (1 ∷ []) None [], StackValue, (in_place 0 [] None [], Const 1, refl, refl, refl), refl, refl);
  at_end = refl;
  gives = refl;
})

whole : Located [] nothing 0 (Ok (record { place = Empty; part = Whole } ∷ []))
whole = inl (record { steps = 0; state = in_place 0 [] None []; within_limit = lit≤ tt; run = refl; at_end = refl; gives = refl })

-- nothing may be left behind pieces
left : (pieces_of 3 None (1 ∷ []) (record { place = Empty; part = part.Bytes 3 } ∷ []) ≡ Err (Fault MissingPiece 3))
    × (pieces_of 3 (Some (Register 0)) [] (record { place = Empty; part = part.Bytes 3 } ∷ []) ≡ Err (Fault MissingPiece 3))
left = (refl, refl)
