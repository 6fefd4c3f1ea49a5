-- The words of specs and of std that the proofs cite, passed on from one place. Declares nothing.
pub use Rattle.std.specs.List.{AllByRecursion, AllZip}
pub use Rattle.std.proofs.Common.{Bool, Err, FitsSigned, IfSome, List, MatchResult, None, Ok, Option, Result, Some, [], ap, append-nil, append_assoc, arith, drop, drop-cons, false, get_or, inl, inr, length, length-append}
pub use Rattle.std.proofs.Common.{length-drop, length-set, length-take-le, map, min, refl, rules, slice_set, subst, suc, sym, take, take-suc, take_all, true, w64, zero, ℕ, ◌++◌, ◌+◌, ◌-◌, ◌<◌, ◌^◌, ◌∙◌, ◌∷◌, ◌≡◌, ◌≤◌, ◌⊎◌}
pub use Rattle.std.proofs.{Math.Seq.{append_snoc, set-append_seam, take-length}, lemmas.Bool.Decides.leb_tells, lemmas.Int.to_z-of_z, lemmas.List.{drop_all, flat_map_more, get_or-map, length-map, map_push}, lemmas.Option.same_Some, lemmas.Result.err_from_is_err_and}
pub use Rattle.dw_num.specs.declared.target.Target.{Target}
pub use Rattle.dw_eval.specs.{Registers.held, declared.policy.Policy.Policy}
pub use Rattle.dw_eval.proofs.Lent.MemoryBytes.{bytes_all, bytes_missing}
pub use Rattle.dw_row.specs.{Rows.{AreSpecified, Rules}, declared.rule.RegRule.RegRule}
pub use Rattle.dw_section.specs.{Accepted.Accepted, Among.IsAmong, Meaning.{AreFdes, ChangesOf, Covers, NoneCovers, RulesAt}}
pub use Rattle.dw_section.specs.{Ranges.{IsTable, Ranged, fde_in, range_in}, declared.lookup.Fde.Fde}
pub use Rattle.dw_library.specs.{Answers.not_refused, CallerFrame.{IsFrame, IsUnwound, Machine, Told, held_in, no_frame, status_of, told_fault}, Changes.{AreWritten, Fits, change_of}, Expressions.{AreBlocks, expressions_of}}
pub use Rattle.dw_library.specs.{Expressions.{in_cfa, in_rule, in_rules}, Index.{over, rule_of}, Looks.{IsLook, Look, rules_in}, Registers.{given_in, told_register}, Windows.{byte_among, byte_of, covers}, declared.caller.Stop.Stop}
pub use Rattle.dw_library.specs.{declared.rows.Change.Change, declared.expressions.Block.Block, declared.index.Rule.Rule, declared.held.Register.Register}
pub use borrow.Rule.Slice.PartMut.{mid_of, post_of, put_mid}
