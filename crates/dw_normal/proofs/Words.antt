-- The words of specs and of std that the proofs cite, passed on from one place. Declares nothing.
unfoldable pub use Rattle.dw_num.specs.Shortest.{shortest_uleb}
pub use Rattle.dw_canon.proofs.Lent.{Canonical.{members_exist, normal_form_is_one, same_exactly}, Extra.{section_append}, InstrFits.{cie_fits, difference_fits}, Layout.laid_is, MemberPlaces.group_fits}
pub use Rattle.dw_canon.proofs.Lent.Rendered.{fits, nonempty, renders, stand}
pub use Rattle.dw_canon.specs.{Bound.{Shares, share}, Canon.return_registers, Difference.{either, move}, Group.group, Members.{AreMembers, IsMember, Member, changes_of, fde_of}, Written.{fde_field_bytes, missing}}
pub use Rattle.dw_canon.specs.Inner.{Canon.{canon, cie_instrs, fde_instrs, initial_of}, Difference.{cfa_difference, difference, later_changes, rule_difference, rule_to, with_register, with_registers}}
pub use Rattle.dw_canon.specs.Inner.{Fits.{ChangesStand, InstrFits, MemberStands}, Group.{initial_row, shared_by}, Laid.{GroupsRise, IsPart, cie_of, group_of, groups_of, part_of, parts_of, place_of}}
pub use Rattle.dw_canon.specs.Inner.{Spelling.{expression_bytes, instr_bytes, program_bytes}, Written.{Written, contents, entry_bytes, fde, filled, nop_count, section_bytes}}
pub use Rattle.dw_row.specs.{Agreement.{is_kept, kept}, Difference.{DiffersFirst, FirstDifference, place_behind}}
pub use Rattle.dw_row.specs.{RegisterSets.{AgreesBeside, Registers, SameBeside, has}, Rows.{AreSpecified, Rules, blank, is_specified, rule}}
pub use Rattle.dw_row.specs.{declared.rule.RegRule.RegRule, Inner.{Agreement.{agreed, is_agreed, same_rule}, RowEquality.rule_tells}}
pub use Rattle.dw_row.proofs.Lent.{Equal.{agreed_of, cfa_test_of, differs_of, test_of}, SameRows.same_rows}
pub use Rattle.dw_cfa.specs.declared.instr.Instr.{Instr}
pub use Rattle.dw_normal.specs.{Answers.{FitsCap, IsTooLong, IsWithinEither, NormalFault, RefusesWithin, SameFault, WentOut, Writes, too_long}, declared.begun.Begun.Begun, declared.output.Output.Output, declared.output.Stop.Stop}
pub use Rattle.dw_normal.specs.declared.{output.Stop.TheVariants.{Failed, Full, Memory}, error.SameError.SameError, error.Which.TheVariants.{First, Second}, error.WriteError.WriteError, known.CieSet.CieSet, known.Known.Known}
pub use Rattle.dw_normal.specs.Inner.{Answers.{IsMeasured, IsShort, LengthFault, blamed, unread, unwritten}, Apart.{NotesSame, StandsApart}, Begun.{IsBegun, IsReady, Walks}}
pub use Rattle.dw_normal.specs.Inner.{ChangeWalk.{BehindFirst, IsShown, ShownBehind, Stand, later_bytes, row_or_blank, shown_row}, Groups.{HasJoined, begun_with, initial_rows, joined_by, row_of, with_member}}
pub use Rattle.dw_normal.specs.Inner.{Known.{Agree, AgreesAt, AreLess, AreSame, HoldsAt, Notes, NotesAgree}, Lengths.{cie_with, cies_bytes, fdes_bytes}, Places.{RowsRise, cie_place, fde_with, place_in}}
pub use Rattle.dw_normal.specs.Inner.{Puts.{Fills, Holds, Place, Puts, Sends, Takes, sink_at}, RegisterWalk.{from_on, rules_from}, Writing.{LacksRoom, Likens, table_of, unsized}}
pub use Rattle.dw_num.proofs.Lent.FixedLaws.{length-fixed}
pub use Rattle.dw_num.specs.{Fixed.fixed_bytes, Input.AreBytes, Refusals.Refuses, Target.{address_limit, byte_count}, declared.error.ReadError.ReadError, declared.refusal.Refusal.Refusal, declared.target.Order.Order, declared.target.Size.Size}
pub use Rattle.dw_num.specs.declared.target.Target.{Target}
pub use Rattle.dw_section.proofs.Lent.Judged.{all_get}
pub use Rattle.dw_section.specs.{Accepted.{Accepted, CheckFault}, Changes.{Changing, GivesAddress, before_then, kept_by}, Fits.{HasBlock, RowFits}, Meaning.{AreFdes, ChangesOf, HasLengths}, Opening.{AreChanged, CieLeaves, OpensBehind}}
pub use Rattle.dw_section.specs.{Table.Section, declared.change.Behind.Behind, declared.lookup.Fde.Fde}
pub use Rattle.std.proofs.Common.{BTreeMap, Bool, Decides, Equal, Err, Greater, IfErr, IfOk, IfSome, IsErrAnd, IsSome, IsTrue, Less, List, None, Ok, OnErr, OnOk, Option, Result, Some, [], ap, append-nil, append_assoc, arith, cond, drop}
pub use Rattle.std.proofs.Common.{eq-eqb, false, flat_map, get_or, if◌then◌else◌, inl, inr, is_ok, is_some, le-ltb, length, length-append, length-drop, lt-ltb, map, nat_cmp, nat_eq, nat_lt, ne_eqb, not, refl, replicate, rules, subst, suc}
pub use Rattle.std.proofs.{Common.{sym, take, take-add, take-append-drop, take_all, true, true≢false, zero, ℕ, ◌↔◌, ◌%◌, ◌*◌, ◌++◌, ◌+◌, ◌-◌, ◌/◌, ◌<◌, ◌^◌, ◌||◌, ◌∙◌, ◌∷◌, ◌≡◌, ◌≤◌, ◌⊎◌}, KnownBytes.{Appends-kept, Appends-nil, Appends-trans, Keeps-refl}}
pub use Rattle.std.proofs.{Math.ListN.get_or-map, Math.Seq.{take-append-add, take-append_seam}, lemmas.Bool.{cases_Bool, cases_lt}}
pub use Rattle.std.proofs.lemmas.List.{length-map, length-take-le, nil_from_length, take-append-le, take-replicate, take_more, take_more_same, take_rest}
pub use Rattle.std.specs.{BTreeMap.{IsUnchanged, Updates, get, insert_entry, is_at}, Io.KnownBytes.Appends, List.AllByRecursion, Map.{keys_of, lookup, set_value}, declared.alloc.AllocError.AllocError}
