-- The words of specs and of std that the proofs cite, passed on from one place. Declares nothing.
pub use Rattle.std.specs.Io.KnownBytes.{Appends, Keeps}
pub use Rattle.std.proofs.Common.{Bool, Err, IfOk, List, None, Ok, Option, Result, Some, [], ap, append-nil, arith, false, if◌then◌else◌, inl, inr, length, length-append, map, option_map, refl, rules, string_bytes, sym, take, true, ℕ}
pub use Rattle.std.proofs.{Common.{◌++◌, ◌-◌, ◌∙◌, ◌∷◌, ◌≡◌, ◌≤◌}, KnownBytes.{Keeps-refl}}
pub use Rattle.std.proofs.lemmas.Result.{err_from_is_err_and}
pub use Rattle.clap.specs.Words.{Text}
pub use Rattle.dw_num.specs.declared.target.Target.{Target}
pub use Rattle.dw_op.specs.declared.profile.Profile.TheVariants.{Location}
pub use Rattle.dw_files.specs.declared.files.LoadError.{LoadError}
pub use Rattle.dw_show.specs.{Addresses.lines_in, Answers.{AndThen, Asks, AtEnds, Before, Checks, Cuts, Decodes, EvalEnds, Frames, ListsFdes, Loads, LoadsDump, LoadsText, OverBlock, OverFile, Parses, Prints, PrintsOf, PrintsText, SpellsLeast, Tallies}}
pub use Rattle.dw_show.specs.{Answers.{UnwindEnds, Values, costs_text}, Output.Output, RowTexts.{at_text, member_text}, Texts.{block_text, counts_text, entry_text, frame_text, lines, sameness_text, value_text}}
pub use Rattle.dw_show.specs.{declared.failure.Failure.Failure, Listing.{Adds, failures_of, output_of, put_so_far}}
pub use Rattle.dw_command.specs.Answers.{Compares, Costs, Ends, Follows, Normalises, Plans, TaskEnds}
