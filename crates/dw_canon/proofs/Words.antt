-- The words of specs and of std that the proofs cite, passed on from one place. Declares nothing.
pub use Rattle.std.specs.{Int.{byte_at, bytes_high_first, bytes_low_first, is_negative, is_positive}, List.{AllByRecursion, AllZip, cons_option, list_all}, Map.keys_of}
pub use Rattle.std.proofs.Common.{Bool, FitsSigned, IsTrue, List, None, Option, Some, [], ap, append-nil, append_assoc, arith, cond, count_by, eq-eqb, eqb-true, false, filter, flat_map, if◌then◌else◌}
pub use Rattle.std.proofs.Common.{inl, inr, int_eq, le-leb, le-ltb, length, length-append, lt-ltb, ltb-false, ltb-true, map, mul-le-mul, nat_eq, nat_le, nat_lt, ne_eqb, neg_ℤ, negsuc, pos}
pub use Rattle.std.proofs.Common.{refl, replicate, rules, subst, suc, suc-mul, sym, true, unsigned_abs, w64, zero, ℕ, ℤ, ◌%◌, ◌*◌, ◌++◌, ◌+◌, ◌-◌, ◌/◌, ◌<◌, ◌==◌, ◌^◌, ◌↔◌, ◌∙◌, ◌∷◌, ◌≡◌, ◌≤◌, ◌⊎◌}
pub use Rattle.std.proofs.lemmas.{Bool.{and_parts, cases_Bool, cases_lt, eqb-false}, Bool.Decides.{Decides-int_eq, eqb_tells}, List.{length-map, length-replicate}}
unfoldable pub use Rattle.dw_num.specs.Shortest.{shortest_sleb, shortest_uleb}
pub use Rattle.dw_num.specs.{Fixed.{Address, Fixed, fixed_bytes}, Input.AreBytes, Leb.{IsLeb, Register}, Span.Span, Target.{address_limit, byte_count}}
pub use Rattle.dw_num.specs.declared.target.{Form.TheVariants.Dwarf32, Order.Order, Order.TheVariants.{Big, Little}, Size.Size, Size.TheVariants.{Eight, Four}, Target.Target}
pub use Rattle.dw_num.proofs.Lent.{FixedLaws.length-fixed, Shortest.{leb_some, shortest_sleb-spells, shortest_uleb-most, shortest_uleb-one, shortest_uleb-spells, shortest_uleb-ten, signed_length}}
pub use Rattle.dw_op.specs.{Expression.Expression, Least.LeastBlock, OpSpells.{AnyTwo, Both, Code}, declared.op.Op.Op}
unfoldable pub use Rattle.dw_op.specs.Inner.LeastBlock.{least_block}
pub use Rattle.dw_op.specs.Inner.ByOperation.{Alone, Const1s, Const1u, Const2s, Const2u, Const4s, Const4u, Const8s, Const8u, ConstForm, Consts, Constu, Lit}
pub use Rattle.dw_op.proofs.Lent.LeastBlocks.{block_of_least, least_block_exists, least_no_longer}
pub use Rattle.dw_row.specs.{Rows.{AreSpecified, Rules, blank, is_specified, rule, rule_in}, declared.rule.{CfaRule.CfaRule, RegRule.RegRule}}
pub use Rattle.dw_cfa.specs.{Column.{cfa_after, cfa_change, rule_after, rule_change, with_offset}, InitialRules.{HoldsAfter, initial_cfa, initial_rule}}
pub use Rattle.dw_cfa.specs.{InstrSpells.{BlockSpells, InstrSpells, IsOffset, ProgramSpells}, Kept.{CieKept, FdeKept, in_cie, keeps_half}}
pub use Rattle.dw_cfa.specs.declared.instr.Instr.{Instr}
pub use Rattle.dw_cfa.specs.declared.instr.Instr.TheVariants.{Advance, DefCfa, DefCfaExpression, DefCfaOffset, DefCfaRegister, Nop, Restore, Set, SetLoc}
pub use Rattle.dw_cfa.specs.declared.instr.Factors.{Factors}
pub use Rattle.dw_cfa.specs.declared.execution.LocatedRow.{LocatedRow}
pub use Rattle.dw_cfa.specs.Location.{moves_location, onto, row_starts}
unfoldable pub use Rattle.dw_cfa.specs.Inner.Runs.{fde_rows}
pub use Rattle.dw_row.specs.Inner.{Agreement.{agreed, same_cfa, same_rule}, RowEquality.{cfa_tells, rule_tells}}
pub use Rattle.dw_row.proofs.Lent.SameRows.{same_rows}
pub use Rattle.dw_cfa.specs.Inner.{Machine.{State, after, begun, fde_fault, half_fault}, Runs.{Placed, fault_or, row_if}}
pub use Rattle.dw_cfa.proofs.Lent.{InstrCounts.{counts_exists, one_count}, RowsAt.{Gives, instrs_of, never_falls, rows_at}}
pub use Rattle.dw_cfa.proofs.Lent.Spellings.{AdvanceSpells, Factored, IsSpelled, Plain, RuleSpells, SignedFactored, by_table, in_table}
pub use Rattle.dw_section.specs.{Accepted.Accepted, Among.IsAmong, Changes.{AreChanges, HoldsAt, kept_by}, Cut.{Cut, IsItem, Piece, is_cie, pieces}, Fits.{CfaFits, HasBlock, RowFits, RuleFits}}
pub use Rattle.dw_section.specs.{Headers.{CieHead, FdeHead, Has, Head, Headers}, Meaning.{AreFdes, ChangesOf, FdeSays, HasLengths, Lists, RowStarts, RulesAt, Starts, total}, Overlap.{AreApart, Ascends, IsIndex}}
pub use Rattle.dw_section.specs.{Overlap.{Precedes, Range, end_of, nonempty}, Places.{cie_places, place_if}, Programs.{CieRuns, FdeRuns, HasCfa, HasRules, InitialInstrs, Instrs, factors_of}, declared.lookup.Fde.Fde}
pub use Rattle.dw_section.specs.Inner.{Agree.{Agree, AgreeAt}, Heads.{HasBytes, head_at}}
pub use Rattle.dw_section.proofs.Lent.{Agrees.{agree_nops, agree_sym, agree_then, cfa_agree, changes_agree, holds_agree}, FdeLookup.one_fdes, Heads.{all_in, fde_or, heads_bytes, heads_rise}}
pub use Rattle.dw_section.proofs.Lent.{Nops.{cie_kept_nops, fde_kept_nops, initial_cfa_nops, nops, nops_spelled, program_append, row_starts_nops}, Rowed.{agree_changes, agree_row, one_changes}}
pub use Rattle.dw_section.proofs.Lent.{Sames.{AllAgree, all_agree_sym, changes_there, one_change_list, same_meaning}, Sections.{begin_low, cfa_programs, changes_programs, fdes_exist, fdes_zip}}
pub use Rattle.dw_section.proofs.Lent.{Sections.{listed_programs, one_programs, one_rules, programs_rules, row_exists, rules_covered}, Sounds.{Held, held_all, sound_section}, Totals.least_starts}
pub use Rattle.dw_canon.specs.{Canon.return_registers, Difference.{cfa_to, either, move}, Group.{BeginsWithRule, IsShared, group}, Members.{AreMembers, IsMember, Member, changes_of, fde_of}, Normal.IsNormalForm}
pub use Rattle.dw_canon.specs.{Spelling.{advance_bytes, counted_block, packed}, Written.{cie_field_bytes, fde_field_bytes, missing, written}, Inner.Canon.{canon, cie_at, cie_bytes, cie_instrs, fde_bytes, fde_instrs, initial_of}}
pub use Rattle.dw_canon.specs.Inner.{Difference.{cfa_difference, difference, later_changes, rule_difference, rule_to, with_register, with_registers}, Fits.{ChangesStand, InstrFits, MemberStands, RestsOn, RowStands}}
pub use Rattle.dw_canon.specs.Inner.{Group.{initial_row, shared_by}, Laid.{Group, GroupsRise, HasGroup, IsGroup, IsLaid, IsPart, IsPartOf, Part, PartsApart, cie_of, fde_in, group_of, groups_of, laid, part_of, parts_of, place_of}}
pub use Rattle.dw_canon.specs.Inner.{Renders.{IsRendered, Readback, ReadsBack, Renders}, Spelling.{expression_bytes, instr_bytes, program_bytes, rule_bytes}, Written.{Fits, IsOne, IsSection, Runs, SaysFdes, StandsAt, Written}}
pub use Rattle.dw_canon.specs.Inner.Written.{cie, cie_id, cie_spelling, cies_at, contents, entry_bytes, factors, fde, fields_of, filled, head_of, heads_at, item_of, nops_of, program_of, ranges_at, section_bytes, span_of}
