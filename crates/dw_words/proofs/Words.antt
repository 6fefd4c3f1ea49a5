-- The words of specs and of std that the proofs cite, passed on from one place. Declares nothing.
pub use Rattle.std.specs.{List.{list_all, list_any}, Option.option_map_or}
pub use Rattle.std.proofs.Common.{Bool, Bor, Decides, Err, IfOk, List, None, Ok, Option, Result, Some, [], ap, ap₂, arith, box_value, bytes_eq, chars, codes, cond, drop, encode_utf8, false, find, fold, get_or}
pub use Rattle.std.proofs.Common.{if◌then◌else◌, inl, inr, is_some, length, map, nat_lt, ne_eqb, not, option_and_then, option_map, refl, rules, slice_get, string_bytes, subst, suc}
pub use Rattle.std.proofs.{Common.{sym, take, true, true≢false, zero, ℕ, ◌&&◌, ◌++◌, ◌+◌, ◌<◌, ◌==◌, ◌||◌, ◌∙◌, ◌∷◌, ◌≡◌, ◌⊎◌}, lemmas.Result.err_from_is_err_and, lemmas.Slice.Eq.bytes_eq-Decides}
unfoldable pub use Rattle.clap.specs.{Faults.{flags_fault, walk_fault}, Walk.{bundle_met, walked}}
pub use Rattle.clap.specs.Faults.{built_fault, bundle_fault, bundle_step_fault, defaults_fault, entered_fault, flag_word_fault, level_fault, long_fault, option_fault, other_fault, positional_fault, react_fault, settle_fault, short_fault}
pub use Rattle.clap.specs.{Faults.{step_fault, stray_fault, turn_fault, use_fault, word_fault}, Kinds.{Kinds, check_kinds, or_else, range_kinds}, Lexer.{long_of, short_of}, Simple.{Shape, argument_words, built, entered, is_simple}}
pub use Rattle.clap.specs.{Simple.{label_of, names_of, rows_at}, Walk.{Held, Names, Outcome, Step, Waiting, Walk, action_of, after_flag, after_step, answers_to, arg_by_id, arg_by_index, arg_by_long, arg_by_short, at_row, attached_value}}
pub use Rattle.clap.specs.Walk.{bundle, bundle_step, default_rows, done, finished, flag_met, has_row, is_pending, long_met, long_or_other, more_values, most_values, nothing_held, option_met, option_word, plain_word, positional_held}
pub use Rattle.clap.specs.Walk.{reacted, reading_by, rows_after, settled, settled_rows, short_met, short_or_plain, subcommand_met, subcommand_or_other, takes_several, takes_values, to_positional, trailing, used, used_as, used_by_id}
pub use Rattle.clap.specs.{Walk.{values_or_missing, walk, walk_from, walked_from, with_default, with_values, without, word_met}, Words.{AddsArg, AddsSubcommand, App, HasKind, HasMatchesOf, Row, Rule, Text, app_of, fault_of}}
pub use Rattle.clap.specs.{Words.{found_of, is_simple_and_free, new_app, rows_of, subcommand_name_of, subcommand_of, subcommand_rows_of, with_rule, with_subcommand}, declared.builder.command.Command.TheViews.out-Command}
unfoldable pub use Rattle.clap.proofs.OnLiterals.{clap_on_literals}
pub use Rattle.clap.proofs.WalkLemmas.{both, first_value-rows, raw_values-rows, walk_stopped}
pub use Rattle.dw_values.specs.Values.{address, size_of}
pub use Rattle.dw_words.specs.{CommandLine.{dwframe, flag, operand, option, program}, Plan.{AskFor, IsJob, IsTask, Planned, Says, is_help}, Values.all_read}
pub use Rattle.dw_words.specs.{declared.request.Name.Name, declared.request.PlanError.PlanError, Inner.CommandLine.{IsArg, IsCommand, asked, command, command_named, rule_of, with_arguments, with_subcommands}, declared.command_line.Argument.Argument}
pub use Rattle.dw_words.specs.Inner.Plan.{Fails, FromFault, Given, GivenAt, HasText, IsSupplied, asked_by, fits, is_run, is_task, name_of, options, own, target_in, text_of}
