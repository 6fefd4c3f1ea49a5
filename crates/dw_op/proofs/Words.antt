-- The words of specs and of std that the proofs cite, passed on from one place. Declares nothing.
pub use Rattle.std.specs.{Int.{Width, byte_len, cast_unsigned}, List.AllByRecursion}
pub use Rattle.std.proofs.Common.{Bool, Decides, Err, FitsSigned, IsTrue, List, MatchResult, None, Ok, OnOk, Option, Result, Some, [], ap, append-nil, append_assoc, arith, below_more, drop, drop-cons, drop_of_length-le, eq-eqb}
pub use Rattle.std.proofs.Common.{eqb, eqb-true, false, fold, get_or, if◌then◌else◌, inl, inr, le-leb, le-ltb, length, length-append, length-take, length-take-le, lit<, lt-ltb, map, mod-eq_of_lt, mod-lt, nat_cmp, nat_eq, nat_le}
pub use Rattle.std.proofs.Common.{nat_lt, ne_eqb, negsuc, pos, refl, rules, slice_get, subst, suc, sym, take, true, w16, w32, w64, w8, zero, ℕ, ℤ, ◌%◌, ◌&&◌, ◌*◌, ◌++◌, ◌+◌, ◌-ℤ◌, ◌-◌, ◌/◌, ◌<◌, ◌^◌, ◌↔◌, ◌∙◌, ◌∷◌, ◌≡◌, ◌≤◌, ◌⊎◌}
pub use Rattle.std.proofs.{Math.Seq.{drop-append_seam, take-length}, lemmas.Bool.{cases_Bool, cases_eq, cases_lt, false≢true}, lemmas.Bool.Decides.nat_tests}
pub use Rattle.std.proofs.lemmas.{Int.ints, List.{get_or_append_left, get_or_push, length-map, length_push, map-append, nil_from_length, take-append-le}, Option.{slice_get-get_or, slice_get-map}, Result.err_from_is_err_and}
unfoldable pub use Rattle.dw_num.specs.Front.{address_at, fixed_at, register_at, sleb_at, take_at, uleb_at}
pub use Rattle.dw_num.specs.{Fixed.{Address, Fixed, FixedSigned, IsWidth, fixed_bytes, fixed_number}, Front.{Read, fault, ◌>>=◌}, Input.{AreBytes, Input, Takes, behind}, Leb.{Register, Sleb, Uleb, is_negative}}
pub use Rattle.dw_num.specs.{Shortest.{shortest_sleb, shortest_uleb}, Target.{address_limit, byte_count}, declared.refusal.Code.TheVariants.{BadBranch, BadDerefSize, NotInFrame, NumberTooLarge, RegisterTooLarge, Truncated}}
pub use Rattle.dw_num.specs.declared.{refusal.Refusal.Refusal, target.Order.Order, target.Order.TheVariants.{Big, Little}, target.Size.Size, target.Size.TheVariants.{Eight, Four}, target.Target.Target}
pub use Rattle.dw_num.proofs.Lent.FixedLaws.{address_found, byte_found, fixed_again, fixed_at_again, fixed_below, fixed_found, is_fixed, length-fixed, taken_bytes}
pub use Rattle.dw_num.proofs.Lent.{LebLaws.{done, ok_is, register_again, register_found, uleb_again, uleb_found}, Refusals.refuses_by, Shortest.{groups_below, leb_some, shortest_sleb-least}}
pub use Rattle.dw_num.proofs.Lent.Shortest.{shortest_sleb-most, shortest_sleb-only, shortest_sleb-spells, shortest_uleb-least, shortest_uleb-most, shortest_uleb-only, shortest_uleb-spells, turned_within}
pub use Rattle.dw_num.proofs.Lent.{SlebLaws.{sleb_again, sleb_found}, Steps.{Again, Takes-then, address_again, again-then, bind_ok, byte_again, cond_ok, take_again, take_found}}
unfoldable pub use Rattle.dw_op.specs.{Operands.form_of, Inner.Accepted.{left_of, ops_of}, Inner.FrontOp.step_at}
unfoldable pub use Rattle.dw_op.specs.Inner.{LeastBlock.least_block, LeastOf.{least_bytes, least_spelling}, Walk.{decode_at, walk}}
pub use Rattle.dw_op.specs.{Block.{Block, Displaced, EachPart, FrameBlock, Stands, branch_target, displacement, joined, start}, Expression.{Expression, bare}, Faults.{BlockFault, HasCode, IsBlock, IsBranch, IsPart, Leads}}
pub use Rattle.dw_op.specs.{Faults.{OpFault, ReadingFault, op_allowed}, Least.{AtMost, Least, LeastBlock}, LeastBlock.{IsAppended, IsEncodeError, IsFar, TooFar}, OpSpells.{AnyTwo, Both, Code, FieldSpells, OpFormSpells, OpSpells}}
pub use Rattle.dw_op.specs.Operands.{Field, FieldValue, OpForm, block, branch, constant, counted, field_at, fixed, form_at, implicit, in_range, look_up, modulo, natural, none, op_form_table, past, register, signed}
pub use Rattle.dw_op.specs.{Operands.{size, sized, two, twos, unsigned}, Profile.{InFrame, in_frame}, Ranges.{AllInRange, FirstBadOperand, InRange, TargetWithin}, Inner.LeastOf.Spelling, declared.op.Op.Op}
pub use Rattle.dw_op.specs.declared.{op.Op.TheVariants.{Addr, BitPiece, Bra, Breg, Const, DerefSize, Dup, Fbreg, Implicit, Nop, Pick, Piece, PlusUconst, Reg, Skip, StackValue}, operation.Branch.Branch}
pub use Rattle.dw_op.specs.declared.{operation.Step.Step, operation.Step.TheVariants.{Jump, Plain}, profile.Profile.Profile, profile.Profile.TheVariants.{Frame, Location}}
pub use Rattle.dw_op.specs.{declared.walk.Measure.Measure, declared.walk.Measure.TheVariants.{LeastBytes, Operations}, declared.walk.Walker.Walker, Inner.Accepted.{IsAccepted, IsDecoded, StepsSo, ok_ops}, Inner.ByOperation.{Alone, Const1s, Const1u}}
pub use Rattle.dw_op.specs.Inner.{ByOperation.{Const2s, Const2u, Const4s, Const4u, Const8s, Const8u, ConstForm, Consts, Constu, Counted, IsSpelled, Lit, Unsigned, Written}, Codes.alone_code, Equality.{expression_lines, line, lines_fed}}
pub use Rattle.dw_op.specs.Inner.{Equality.{op_line, same_expression, sign_of, size_of, target_line}, FrontOp.{after_code, allows, bare_step, blank, branch_in, counted_in, form_in_frame, judged, signed_in, sized_in}}
pub use Rattle.dw_op.specs.Inner.{FrontOp.{step_of, then_value, value_at, with_jump, with_op}, LeastBlock.{AreStarts, BranchFits, EachFits, bits_of, blank_parts, least_from, least_len}, LeastOf.{operand_bytes, register_form, register_offset, spelling, spelling_bytes}}
pub use Rattle.dw_op.specs.Inner.{Steps.{StepSpells, branch_code, step_allowed, step_in_frame}, Sums.{IsNear, bits_to, step_length, sum_in, weight}, Walk.{PlacedStep, Walk, block_input, branch_to, end_of, find_at, goes_to}}
pub use Rattle.dw_op.specs.Inner.{Walk.{index_at, index_in, item_of, op_of, passed, plus, put_first, resolve, unless}, Windows.{AreMarks, IsMark, Shifted, SoughtSo, WalkSo, Walked, WalkedBad, Walks, Within, block_of}}
