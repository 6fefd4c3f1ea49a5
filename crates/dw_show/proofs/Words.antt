-- The words of specs and of std that the proofs cite, passed on from one place. Declares nothing.
unfoldable pub use Rattle.std.specs.Fmt.{digits}
pub use Rattle.std.specs.{Fmt.{digit_glyph, digits_onto}, Io.KnownBytes.{Appends, Keeps, append_known}, List.{AllByRecursion, AllZip}}
pub use Rattle.std.proofs.Common.{Bool, Err, IsOk, List, None, Ok, OnOk, Option, Result, Some, [], ap, append-nil, append_assoc, arith, codes, decimal, drop, eq-or-lt_of_le, eqb-true, false, get_or, if◌then◌else◌, inl, inr, length}
pub use Rattle.std.proofs.Common.{length-drop, length-take, length-take-le, map, min, pow-suc, refl, rules, slice_index, subst, suc, sym, take, take-add, take-append-drop, true, zero, ℕ, ⊎_elim, ◌%◌, ◌*◌, ◌++◌, ◌+◌, ◌-◌, ◌/◌, ◌<◌, ◌==◌}
pub use Rattle.std.proofs.{Common.{◌^◌, ◌∙◌, ◌∷◌, ◌≡◌, ◌≤◌, ◌⊎◌, ◌&&◌}, KnownBytes.{Appends-kept, Appends-nil, Appends-trans, Keeps-refl, append_known-moved}, Math.Seq.take-append_seam}
pub use Rattle.std.proofs.lemmas.{List.{drop-take, drop_min, drop_more, length-map, take_min, take_rest}, Nat.leading_top, Result.err_from_is_err_and}
pub use Rattle.clap.specs.Words.{Text}
pub use Rattle.hex.specs.Hex.{encode_lower, lower_digits}
pub use Rattle.itoa.proofs.Decimal.{PAIRS_at, decimal_pair, decimal_two}
pub use Rattle.dw_num.specs.{Input.AreBytes, declared.target.{Size.Size, Target.Target}}
pub use Rattle.dw_op.specs.declared.op.Op.{Op, TheVariants.{Addr, Implicit}}
pub use Rattle.dw_row.specs.Rows.{Rules, blank}
pub use Rattle.dw_section.specs.{Accepted.Accepted, Among.IsAmong, Meaning.{AreFdes, ChangesOf, RowStarts, total}, Table.Section, declared.lookup.Fde.Fde}
pub use Rattle.dw_canon.specs.Members.{AreMembers, IsMember, Member, changes_of, fde_of}
pub use Rattle.dw_canon.proofs.Lent.Canonical.{members_exist}
pub use Rattle.dw_files.specs.declared.files.LoadError.{LoadError}
pub use Rattle.dw_show.specs.{Addresses.{addresses_of, behind_line, lines_in}, Answers.{HasCounts, Loads, LoadsDump, LoadsText, Prints, PrintsOf, Tells, TellsOf, change_count}, OpTexts.op_text}
pub use Rattle.dw_show.specs.{RowTexts.{At, at_text, cfa_text, column_text, fde_text, member_text, next_text, operations_text, row_text}, Texts.{entry_text, least_text, line_end, lines, numbered, register_text}}
pub use Rattle.dw_show.specs.{declared.failure.Failure.Failure, Listing.{Adds, Finishes, Stays, output_of, put_so_far}}
pub use Rattle.dw_show.specs.Inner.{Lines.{ReadUpTo, behind, line_len}, Room.Fills}
unfoldable pub use Rattle.hex.specs.Hex.{encode_with}
