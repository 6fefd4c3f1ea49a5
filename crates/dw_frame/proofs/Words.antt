-- The words of specs and of std that the proofs cite, passed on from one place. Declares nothing.
pub use Rattle.std.specs.List.{AllByRecursion, AllZip}
pub use Rattle.std.proofs.Common.{AllPairs, Bool, Err, IsTrue, List, MatchResult, None, Ok, Option, Result, Some, [], ap, arith, eq-eqb, eqb-true, false, get_or, inl, inr, is_some, length, map, ne_eqb, ok_or, option_and_then, option_map}
pub use Rattle.std.proofs.{Common.{refl, subst, suc, sym, take_all, true, zero, ℕ, ◌++◌, ◌+◌, ◌<◌, ◌==◌, ◌||◌, ◌∙◌, ◌∷◌, ◌≡◌, ◌≤◌, ◌⊎◌}, lemmas.{Bool.{cases_Bool, cases_lt}, Option.slice_get_past, Result.err_from_is_err_and}}
pub use Rattle.dw_num.specs.{Target.byte_count, declared.target.Target.Target}
pub use Rattle.dw_op.specs.Expression.{Expression}
pub use Rattle.dw_eval.specs.{Context.{Context, context, read_at}, Evaluation.{Evaluates, MayFailAt, first_stack}, Laws.{OneResult, WantedByValue}, Registers.held, declared.{error.EvalError.EvalError, policy.Policy.Policy}}
pub use Rattle.dw_row.specs.{Rows.{AreSpecified, Rules, is_specified, rule, rule_in}, declared.rule.{CfaRule.CfaRule, RegRule.RegRule}}
pub use Rattle.dw_index.specs.Among.{IsAmong}
pub use Rattle.dw_cfa.specs.Fits.{CfaFits, HasBlock, RowFits, RuleFits}
pub use Rattle.dw_cfa.proofs.Lent.RowFits.{rule_fits}
pub use Rattle.dw_frame.specs.Columns.{CfaFails, CfaIs, RegisterFails, RegisterIs, SavedBy, SavedByFails, SavedFails, ValueFails, ValueIs, defaulted, in_column, on_cfa, on_value, plus, recovered, saved_at, value_in}
pub use Rattle.dw_frame.specs.Laws.{FaultMisses, FaultsInRow, IsInFrame, OneOfRow, SomeOfRow, WantedOfRow, column_of}
pub use Rattle.dw_frame.specs.Frames.{AreRegisters, FrameFails, FrameIs, IsListed, Reached, Recovers, RegistersAre, RegistersFail, is_device, is_listed, stopped}
pub use Rattle.dw_frame.specs.declared.frame.{Column.{Column, TheVariants.{Cfa, Register}}, Frame.Frame, UnwindError.{UnwindError, TheVariants.{Device, Eval, NoFde, NoRegister, OutOfMemory, Unreadable}}}
pub use Rattle.dw_frame.specs.Inner.{Recovery.{Adds, AddsOver, IsLeft, ListedBelow, Over, RegistersOver, Rise, SoFar, ValueOver}, Room.registers_in}
