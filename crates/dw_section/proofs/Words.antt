-- The words of specs and of std that the proofs cite, passed on from one place. Declares nothing.
pub use Rattle.std.specs.{Bool.then_some, Option.option_or, List.{AllByRecursion, AllZip, IsDistinct, cons_option}, List.Sorted.{IsNonDecreasingBy, IsStableByKey}}
pub use Rattle.std.proofs.Common.{BTreeMap, Bool, Decides, Equal, Err, FitsSigned, Greater, IfErr, IfOk, IfSome, IsErrAnd, IsPermutation, IsSome, IsSortedByKey, IsTrue, List, MatchBool, MatchOption, MatchResult, None, Ok, OnErr, OnOk}
pub use Rattle.std.proofs.Common.{Option, Result, Some, [], add-one, add-zero, ap, append-nil, append_assoc, arith, cond, count_by, drop, drop_at, eq-eqb, eqb, false, filter, get_or, get_or-append-add, if◌then◌else◌, inl, inr, is_lt}
pub use Rattle.std.proofs.Common.{is_ok, le-leb, le-ltb, leb-false, leb-true, length, length-append, length-drop, length-take-le, lt-ltb, ltb-false, ltb-true, map, mul-zero, nat_cmp, nat_eq, nat_le, nat_lt, ne_eqb, not, position}
pub use Rattle.std.proofs.Common.{refl, replicate, rules, set, slice_get, subst, suc, sym, take, take-append-drop, take_all, take_at, true, w64, zero, zero-add, ℕ, ℤ, ◌&&◌, ◌*◌, ◌++◌, ◌+◌, ◌-◌, ◌<◌, ◌==◌, ◌^◌, ◌∙◌, ◌∷◌, ◌≡◌, ◌≤◌, ◌⊎◌}
pub use Rattle.std.proofs.lemmas.{Bool.{cases_Bool, cases_lt, cases_order, cond_both, lt-leb}, Bool.Decides.{Decides-and, Decides-ltb, Decides-not, eqb_tells, leb_tells, nat_tests}}
pub use Rattle.std.proofs.lemmas.{List.{drop_more, get_or-map, get_or_default, length-map, map-append, map_more, take_more}, List.Elements.{All-from_recursion, All-push, All-set, filter_map-append, recursion_from_All}}
pub use Rattle.std.proofs.lemmas.List.{Folds.{list_any_at, sum_by-replicate}, Sorted.{All-permutation, IsNonDecreasingBy-from_sort_by_key, IsPartitionPoint-from_clause, IsPartitionedBy-leb}}
pub use Rattle.std.proofs.lemmas.List.Sorted.{IsPartitionedBy-ltb, IsPermutation-map, IsPermutation-refl, IsPermutation-sym, answers_always, length_permutation, searched, ties_still_rise}
pub use Rattle.std.proofs.lemmas.{List.Sums.{sum_by-append, sum_by-cons, sum_by-take-le}, Result.{IfErr-weaker, IfOk-weaker, err_from_is_err_and}, Slice.Zip.{AllZip-long, all_zipped_more}}
unfoldable pub use Rattle.dw_num.specs.Front.{fixed_at}
pub use Rattle.dw_num.specs.{Fixed.{IsWidth, LengthFits, fixed_bytes, length_bytes}, Front.{Read, unit_length_at, ◌>>=◌}, Input.{AreBytes, Input, Takes, behind}, Refusals.Refuses}
pub use Rattle.dw_num.specs.{Span.{Span, input_of, span_of}, Target.{address_limit, byte_count}, declared.error.ReadError.ReadError, declared.error.ReadError.TheVariants.Refused}
pub use Rattle.dw_num.specs.declared.refusal.{Code.Code, Code.TheVariants.{AddressSize, NoCfaRule, NoSuchCie, Overlap, RangeTooLarge, RegisterTooLarge, SectionTooLarge, SegmentSelector}, Refusal.Refusal}
pub use Rattle.dw_num.specs.declared.target.{Form.Form, Form.TheVariants.{Dwarf32, Dwarf64}, Order.Order, Size.Size, Size.TheVariants.{Eight, Four}, Target.Target, UnitLength.UnitLength}
pub use Rattle.dw_num.proofs.Lent.{FixedLaws.{fixed_at_again, fixed_found, fixed_only, front_byte, length-fixed, taken_bytes, unit_length_found, unit_length_only}, LebLaws.{done, ok_is, uleb_again, uleb_found}}
pub use Rattle.dw_num.proofs.Lent.{Refusals.refuses_by, Stays.{either_stays, fixed_stays, inside_all, sleb_stays, stays-then, stays_in, uleb_stays, unit_length_stays}, Steps.{Again, Takes-then, bind_ok}}
pub use Rattle.dw_op.specs.Faults.{IsWithin}
pub use Rattle.dw_op.proofs.Lent.ReadingLaws.{some_is}
pub use Rattle.dw_row.specs.{Agreement.{is_kept, kept, without}, Difference.{DiffersFirst, FirstDifference, place_behind}, Rows.{AreSpecified, Rules, is_specified, rule, rule_in}, declared.rule.CfaRule.{CfaRule, TheVariants.Unset}}
pub use Rattle.dw_row.specs.declared.rule.RegRule.{RegRule, TheVariants.Unspecified}
pub use Rattle.dw_row.proofs.Lent.{Narrowed.{filter_keeps, filter_rule, first_left}, RowLists.unlisted, SameRows.same_rows}
pub use Rattle.dw_cfa.specs.{Behind.{GivesUpTo, HoldsBehind, IsRowAfter, Leaves, LeavesTo, RunsBehind, ends}, Column.{cfa_after, cfa_change, look_back, rule_after, rule_change}, Faults.FdeFault, Gives.{Gives, RunsTo}}
pub use Rattle.dw_cfa.specs.{InitialRules.{HoldsAfter, initial_cfa, initial_rule}, InstrSpells.{BlockSpells, IsOffset, ProgramSpells}, Kept.{CieKept, FdeKept, KeepsHalves, in_cie, is_remember, is_restore, keeps_half}, Listing.Listing}
pub use Rattle.dw_cfa.specs.{Listing.{answers, complete}, Location.{Counts, back_from, location, location_back, moves_location, onto, row_starts}, Opening.{cfa_with, first_row, row_with}, RowSteps.{Advances, Stepping, program_input}}
pub use Rattle.dw_cfa.specs.{RowSteps.stepping, RowWalk.{AllKeep, CieKeeps, Led, StandsOn, Walking, unled}, RuleAt.{NeverFalls, last_at, or_here}, RulesBehind.RulesBehind, Runs.{Outcome, finished, row_then}}
pub use Rattle.dw_cfa.specs.declared.{execution.LocatedRow.LocatedRow, instr.{Factors.Factors, Instr.{Instr, TheVariants.{DefCfa, DefCfaExpression, DefCfaOffset, DefCfaRegister, Nop, RememberState, Restore, RestoreState, Set}}}}
pub use Rattle.dw_cfa.proofs.Lent.{FaultPlaces.{cie_within, fde_within, run_within}, Given.{behind_where_fault, gives_where_kept, leaves_one, leaves_where_kept, one_behind, one_initial, one_run, refused_where_fault, rules_behind}}
pub use Rattle.dw_cfa.proofs.Lent.{InstrCounts.{counts_exists, one_count}, Spellings.{IsSpelled, RuleSpells, by_table, in_table}}
unfoldable pub use Rattle.dw_section.specs.{Faults.item_at, Inner.PieceHeader.{cie_at, fde_at}}
pub use Rattle.dw_section.specs.{Accepted.{Accepted, CheckFault, CieProgramsFault, CiesRun, FdeProgramsFault, FdesRun, Indexed, RulesFault, RulesHold}, Among.IsAmong, Changes.{AreChanges, ChangesBehind, Changing, GivesAddress, HoldsAt}}
pub use Rattle.dw_section.specs.{Changes.{StayFrom, before_then, kept_by, last_shown}, Cut.{Cut, IsItem, Item, Piece, all_bytes, entry, gap, id_width, is_cie, item_bytes, piece_of, pieces}, Faults.{CutFault, IsStuck, body_at, is_32}}
pub use Rattle.dw_section.specs.Fields.{Fields, FieldsFault, FieldsSpell, Judged, Number, NumberSpells, NumberValue, any, cie_fields, empty_string, end, factors, fde_fields, field, fixed, is_among, number_at, signed, sizes}
pub use Rattle.dw_section.specs.{Fields.{string_fault, unless, unsigned}, Fits.{CfaFits, HasBlock, RowFits, RuleFits}, Headers.{CieFieldsFault, CieHead, CieHolds, CieStuck, CiesHold, FdeHead, FdeHolds, FdeStuck, Has}}
pub use Rattle.dw_section.specs.{Headers.{HasFields, Head, Headers, HeadersFault, IsCie, IsFde, cie, cie_head, fde, fde_head, head_in}, Laws.{ChangesMean, LastChangeRules, OneCieRow, RulesFit}}
pub use Rattle.dw_section.specs.{Meaning.{AreFdes, ChangesOf, Covers, FdeSays, HasLengths, Lists, NoneCovers, Returns, RowStarts, RulesAt, Starts, total}, Meanings.SameMeaning, Opening.{AreChanged, CieLeaves, OpensBehind}}
pub use Rattle.dw_section.specs.{Overlap.{AreApart, Ascends, FirstOverlap, IsIndex, Precedes, Range, end_of, nonempty, range_of, with_range}, Pieces.{Entries, Pieces, entry_of}, Places.{cie_places, place_if}, Programs.CieBroken}
pub use Rattle.dw_section.specs.{Programs.{CieRuns, FdeBroken, FdeRuns, HasCfa, HasRules, InitialInstrs, Instrs, LacksCfa, LacksRule, factors_of}, Ranges.{AreIndexed, IsRanged, IsTable, Ranged, fde_in, range_in}, Stage.{FirstStuck, Then}}
pub use Rattle.dw_section.specs.{StandingFde.{BothStuck, FdeStands, LookUpFault, NamesCieAt, RefusesAs, Ruled, RulesOf, StandingFault, StandsAs, StandsIn}, Table.Section, declared.entry.{Kind.Kind, Placed.Placed}}
pub use Rattle.dw_section.specs.declared.{fields.CieFields.CieFields, fields.FdeFields.FdeFields, header.FdeEntry.FdeEntry, header.Initial.Initial, listed_fde.FoundFde.FoundFde, lookup.Fde.Fde, opening.CieRow.CieRow}
pub use Rattle.dw_section.specs.Inner.{Agree.{Agree, AgreeAt}, Changes.{Among, Before, Passed, ShownBehind, Shows, changes_among, is_before, repeats}, Counted.{StartsOf, moves_in}, Fields.{Passes, behind_id}}
pub use Rattle.dw_section.specs.Inner.{Fields.fields_at, Heads.{FdeFits, HasBytes, HeadsRise, cie_at_of, cie_ats, head_at, head_program}, Index.{AreJudged, IsFound, PlacesRise}}
pub use Rattle.dw_section.specs.Inner.{Initials.{AreAmong, AreCies, AreOf, FirstLacking, HasOrLacks, IsRead, cie_pieces, if_cie, place_of}, Left.{HeadsLeft, PiecesLeft}}
pub use Rattle.dw_section.specs.Inner.{Lookup.{AreRowsOf, IsFoundIn, RunsSo, fde_of}, NarrowRow.NarrowedBy, PieceHeader.{SaysFde, Tells, cie_of_piece, contents_of, entry_head, entry_in, fde_of_piece}}
pub use Rattle.dw_section.specs.Inner.{PieceHeader.{initial_head, initial_in, program_of}, Pieces.{IsPlaced, item_of, piece_in}, Places.{IsAt, RiseBy, Rises}, Shown.{shown_if, shown_of}, StandingFde.{FoundStands, StandsAt}, Walks.{AreAway, AreLed, LedTo, led_by}}
