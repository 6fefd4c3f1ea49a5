-- The words of specs and of std that the proofs cite, passed on from one place. Declares nothing.
pub use Rattle.std.proofs.Common.{Bool, Err, FitsSigned, List, None, Ok, Option, Result, Some, [], add-zero, ap, arith, false, get_or, if◌then◌else◌, inl, inr, le-ltb, length, lit<, lit≤, lt-ltb, map, max, min, nat_eq, nat_lt, negsuc, of_z}
pub use Rattle.std.proofs.{Common.{option_and_then, option_map, pos, refl, replicate, slice_get, subst, suc, sym, to_z, true, w32, w64, zero, ℕ, ℤ, ◌%◌, ◌++◌, ◌+◌, ◌-◌, ◌<ℤ◌, ◌<◌, ◌==◌, ◌^◌, ◌∙◌, ◌∷◌, ◌≡◌, ◌⊎◌, ◌≤ℤ◌, ◌≤◌}, Math.ListN.length-map}
pub use Rattle.std.proofs.lemmas.{Bool.cases_lt, Int.{ints, of_z-to_z, to_z-of_z}, Option.{slice_get-get_or, slice_get_cases, slice_get_past, slice_get_within}, Result.err_from_is_err_and}
pub use Rattle.dw_num.specs.{Target.{address_limit, byte_count}, declared.target.Size.Size, declared.target.Size.TheVariants.{Eight, Four}, declared.target.Target.Target}
pub use Rattle.dw_op.specs.{Block.branch_target, Expression.bare, Ranges.{AllInRange, InRange, TargetWithin}, declared.op.Op.Op, declared.op.Op.TheVariants.{Abs, Addr, BitPiece, Bra, Breg, CallFrameCfa, Const, Deref, DerefSize, Div}}
pub use Rattle.dw_op.specs.declared.op.Op.TheVariants.{Drop, Dup, Eq, Fbreg, Ge, Gt, Implicit, Le, Lt, Minus, Mod, Ne, Neg, Nop, Not, Over, Pick, Piece, PlusUconst, PushObjectAddress, Reg, Rot, Shl, Shra, Skip, StackValue, Swap}
pub use Rattle.dw_op.proofs.Lent.{EncodeLaws.{bare_at, in_range_at}, Ranges.{fits, modulo_below}}
unfoldable pub use Rattle.dw_eval.specs.{Context.signed, Inner.Registers.{any_held, first_held}}
pub use Rattle.dw_eval.specs.{Context.{Context, context, read_at}, Effect.{Faults, Jump, Next, OpEffect, ReadsMemory, bit_count, effect, known, leads, on_three, on_top, on_two, push, push_signed, shifted_signed, tell}}
pub use Rattle.dw_eval.specs.{Evaluation.{Evaluates, State, index_of, top_of, value_reads, value_start, value_step}, Laws.{LocationsInSpace, OneLocation, OneResult, ValuesInSpace, WantedByLocation, WantedByValue}}
pub use Rattle.dw_eval.specs.Location.{Located, PlaceState, bare_piece, bare_place, free_step, held_step, pieces_of, place_here, place_index, place_reads, place_start, place_step, refused, step_by, with_piece, with_stack, with_value}
pub use Rattle.dw_eval.specs.{Registers.held, Runs.{IsResult, Runs}, declared.error.EvalError.EvalError, declared.error.EvalError.TheVariants.{Fault, OutOfMemory}}
pub use Rattle.dw_eval.specs.declared.{error.Kind.Kind, error.Kind.TheVariants.{Device, DivideByZero, EmptyResult, MissingPiece, NoCfa, NoFrameBase, NoObject, NoRegister, StackUnderflow, StepLimit, Unreadable}, place.Part.TheVariants.Whole}
pub use Rattle.dw_eval.specs.{declared.place.Place.Place, Inner.Description.{Leaves, LeavesOver, StepsWithoutMemory, state_of}}
pub use Rattle.dw_eval.specs.Inner.{Evaluation.{EvaluatesOver, ValueRuns, led}, Location.{LocatesOver, PlaceRuns, place_led}, Registers.{PlacesSo, near_held}, Steps.{Acts, Does, StepsTo}}
