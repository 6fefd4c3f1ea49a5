-- The words of specs and of std that the proofs cite, passed on from one place. Declares nothing.
pub use Rattle.std.specs.List.{AllByRecursion, AllZip}
pub use Rattle.std.proofs.Common.{Err, List, MatchResult, None, Ok, Option, Result, Some, [], ap, arith, inl, inr, map, refl, subst, sym, ℕ, ◌∙◌, ◌∷◌, ◌≡◌, ◌≤◌, ◌⊎◌}
pub use Rattle.std.proofs.lemmas.Bool.{cases_lt}
pub use Rattle.dw_num.specs.declared.target.Target.{Target}
pub use Rattle.dw_eval.specs.{Context.Context, declared.policy.Policy.Policy}
pub use Rattle.dw_row.specs.Rows.{Rules}
pub use Rattle.dw_section.specs.{Among.IsAmong, Laws.{CfaIsSet, FdesExist, OneFdes, OneHeaders, OneRules, RulesExist, RulesFit}, Meaning.{Covers, Lists, NoneCovers}, Ranges.{IsTable, fde_in}, declared.lookup.Fde.Fde}
pub use Rattle.dw_frame.specs.{Frames.{FrameIs, stopped}, Laws.{FaultMisses, FaultsInRow, OneOfRow, SomeOfRow, WantedOfRow, column_of}}
pub use Rattle.dw_frame.specs.declared.frame.{Column.Column, Frame.Frame, UnwindError.{UnwindError, TheVariants.{NoFde, OutOfMemory}}}
pub use Rattle.dw_unwind.specs.{Laws.{FaultsInFrame, WantedIsMissing}, Unwound.{IsCovered, IsUncovered, OneFrame, SomeFrame, Unwound}, UnwoundAt.{IsLed, LacksRow, by_index}, declared.by_index.UnwindAtError.UnwindAtError}
