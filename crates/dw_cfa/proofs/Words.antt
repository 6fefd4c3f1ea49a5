-- The words of specs and of std that the proofs cite, passed on from one place. Declares nothing.
pub use Rattle.std.specs.{Int.w128, List.{AllByRecursion, AllZip}}
pub use Rattle.std.proofs.Common.{Bool, Err, FitsSigned, IfErr, IfOk, IfSome, IsTrue, List, MatchBool, MatchOption, MatchResult, None, Ok, OnOk, Option, Result, Some, [], add-one, ap, append-nil, append_assoc, arith, cond, count_by}
pub use Rattle.std.proofs.Common.{eqb-true, false, if◌then◌else◌, inl, inr, le-leb, le-ltb, length, length-append, lt-ltb, ltb-false, ltb-true, map, mul-le-mul, nat_eq, nat_le, nat_lt, negsuc, not, of_z, option_map, pos, refl, slice_get}
pub use Rattle.std.proofs.Common.{subst, suc, sym, take, take_all, to_z, true, unsigned_abs, w64, zero, ℕ, ℤ, ◌*ℤ◌, ◌*◌, ◌++◌, ◌+◌, ◌-◌, ◌<◌, ◌^◌, ◌||◌, ◌↔◌, ◌∙◌, ◌∷◌, ◌≡◌, ◌≤◌, ◌⊎◌}
pub use Rattle.std.proofs.lemmas.{Bool.{cases_Bool, cases_lt, or_cases, or_parts, Decides.{leb_tells, nat_tests}}, Int.{fits_signed_mul, to_z-of_z}, List.Sums.sum_by-cons, Result.{IfErr-weaker, IfOk-weaker, err_from_is_err_and}}
pub use Rattle.dw_num.specs.{Fixed.{Address, Fixed, IsWidth}, Front.{Read, address_at, fault, fixed_at, register_at, sleb_at, take_at, uleb_at, ◌>>=◌}}
pub use Rattle.dw_num.specs.declared.{refusal.{Code.{TheVariants.{CfaNotRegister, LocationBackwards, LocationTooLarge, NotInCie, OffsetTooLarge, StateStackFull}, Code}, Refusal.Refusal}}
pub use Rattle.dw_num.specs.{declared.{error.ReadError.{ReadError, TheVariants.{OutOfMemory, Refused}}, target.{Size.{Size, TheVariants.{Eight, Four}}, Target.Target}}, Input.{AreBytes, Input, Takes}, Leb.{Sleb, Uleb}, Refusals.Refuses}
pub use Rattle.dw_num.specs.Target.{address_limit, byte_count}
pub use Rattle.dw_num.proofs.Lent.{FixedLaws.{address_found, byte_found, fixed_at_again, fixed_found, taken_bytes}}
pub use Rattle.dw_num.proofs.Lent.{Stays.{Inside, Stays, address_stays, fixed_stays, register_stays, sleb_stays, stays-then, stays_in, take_stays, uleb_stays}, LebLaws.{done, ok_is, register_again, register_found, uleb_again, uleb_found}}
pub use Rattle.dw_num.proofs.Lent.{SlebLaws.{sleb_again, sleb_found}, Steps.{Again, Takes-then, address_again, again-then, bind_ok, byte_again, taken_is, take_again, take_found}}
pub use Rattle.dw_op.specs.{Expression.Expression, Faults.BlockFault, Operands.{in_range, look_up}, declared.{op.Op.Op, profile.Profile.TheVariants.Frame}}
pub use Rattle.dw_op.specs.Inner.{Walk.{block_input, decode_at}, Walks.{ended, on_left}}
pub use Rattle.dw_op.proofs.Lent.{Blocks.{block_found, block_only, fault_found, fault_only}, ReadingLaws.{EachEntry, above, looked_up, range_is, some_is, within}}
pub use Rattle.dw_row.specs.{Agreement.{is_kept, kept}, declared.rule.{CfaRule.{CfaRule, TheVariants.Unset}, RegRule.RegRule}, Rows.{AreSpecified, Rules, blank, is_specified, rule}, States.{BeganWith, Held}}
pub use Rattle.dw_cfa.specs.Faults.{BreaksHalf, CieBreaks, CieFault, FaultBehind, FaultUpTo, FdeBreaks, FdeFault, FdeFaultBehind, FdeFaultUpTo, NoFaultUpTo, RunFault}
pub use Rattle.dw_cfa.specs.{Behind.{GivesBefore, GivesBehind, GivesUpTo, HoldsBehind, IsRowAfter, Leaves, LeavesTo, RunsBehind, ends}, Column.{cfa_after, cfa_change, look_back, rule_after, rule_change}, Gives.{Gives, RunsTo}}
pub use Rattle.dw_cfa.specs.{InstrSpells.{BlockSpells, InstrFormSpells, InstrSpells, IsOffset, OperandSpells, ProgramSpells}, Kept.{CieKept, FdeKept, IsRegisterRule, in_cie, is_remember, is_restore, keeps_half, remembered, restored}}
pub use Rattle.dw_cfa.specs.Listing.{Listing, ProgramFault, answers, answers_before, complete, faulty}
pub use Rattle.dw_cfa.specs.Operands.{InstrForm, Operand, OperandValue, address, advanced, expression, fixed, none, offset_of, one, register, signed, two, unsigned}
pub use Rattle.dw_cfa.specs.RowLaws.{BehindWhereFault, FirstRowIsBegin, GivesWhereKept, LastHolds, LeavesWhereKept, NoneFalls, OneBehind, OneCount, OneHolds, OneInitial, OneRun, RefusedWhereFault, RowsWhereKept}
pub use Rattle.dw_cfa.specs.{Location.{Counts, StaysAt, back_from, location, location_back, moves_location, onto}, Opening.{cfa_with, first_row, moves_first, row_with}, RowSteps.{Stepping, program_input, stepping}}
pub use Rattle.dw_cfa.specs.declared.{instr.{Instr.{TheVariants.{Advance, DefCfa, DefCfaExpression, DefCfaOffset, DefCfaRegister, Nop, RememberState, Restore, RestoreState, Set, SetLoc}, Instr}, Factors.Factors}}
pub use Rattle.dw_cfa.specs.declared.{execution.LocatedRow.LocatedRow, machine.Machine.Machine, opcode.Opcode.Opcode, opening.FirstRow.TheVariants.{CfaOffset, Initial, Other}, lead.Leading.Leading, next_row.Progress.Progress}
pub use Rattle.dw_cfa.specs.{RowWalk.{AllKeep, StandsOn, Walking}, RuleAt.{NeverFalls, last_at, or_here}, RulesBehind.RulesBehind, Runs.{Outcome, fails, finished, row_then}}
pub use Rattle.dw_cfa.specs.Inner.FrontInstr.{after_code, after_length, block_in, expression_of, form_at, judged, known_at, leaving, operand_at, then_operand, with_instr}
pub use Rattle.dw_cfa.specs.Inner.{Machine.{State, after, begun, changed, cie_fault, empty_fault, fde_fault, half_fault, moved, popped, program_fault, written}, Coverage.{is_unset, lacks_from, leaves_one}}
pub use Rattle.dw_cfa.specs.Inner.{Exact.{BehindGives, GivesRows, InitialLeaves, LeavesInitial}, LookUp.look_up_at, Opening.{answers_move, answers_row}, Operands.{form_of, opcode_table}, RowSteps.gives}
pub use Rattle.dw_cfa.specs.Inner.Runs.{Placed, Placing, RanTo, RunsSo, WroteTo, at_end, fault_or, here, initial_row, on_initial, place_of, refused_at, row_if, stop_on, stop_or}
pub use Rattle.dw_cfa.specs.Inner.{RowWalk.{AllSpecify, AreLeft, HasInitial, IsLed, WalkKeeps, WalksSo, initial_of, led_of, led_row, led_rows, walk_of}, RuleAt.{CountsFrom, FoundAt}, Steps.{InLimit, IsAfter, state_of}}
unfoldable pub use Rattle.dw_op.specs.Inner.Walks.{walked_by}
unfoldable pub use Rattle.dw_cfa.specs.Inner.{FrontInstr.{block_at, expression_in, instr_at}, Operands.opcode_of}
unfoldable pub use Rattle.dw_cfa.specs.Inner.Runs.{cie_run, fde_rows, fde_stop, placed, rows_behind, rows_left, run_rows, run_stop, stop_left}
unfoldable pub use Rattle.dw_cfa.specs.Operands.{form_for}
