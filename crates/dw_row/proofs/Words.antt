-- The words of specs and of std that the proofs cite, passed on from one place. Declares nothing.
pub use Rattle.std.specs.{BTreeMap.{insert_entry, is_at, Range.range_contains}, Bool.one_answer, Int.{bit_at, bit_not, trailing_zeros, w128}, declared.ops.Bound.{Bound, TheVariants.Unbounded}}
pub use Rattle.std.proofs.Common.{All, Bool, Decides, Err, FitsSigned, IsTrue, List, None, Ok, OnErr, OnOk, Option, Result, Some, [], ap, append-nil, arith, bit_and, bit_or, cond, div-le_self, drop, eq-eqb, eqb-true, false, filter, get_or}
pub use Rattle.std.proofs.Common.{get_or-set_other, get_or-set_same, pos, if◌then◌else◌, inl, inr, is_some, length, length-append, ltb-false, ltb-true, nat_cmp, nat_eq, nat_lt, not, option_copied, pow-add, refl, reverse, rules, shr-shr}
pub use Rattle.std.proofs.Common.{subst, suc, sym, take, true, unwrap_or, w64, zero, ℕ, ℤ, ◌%◌, ◌*◌, ◌++◌, ◌+◌, ◌-◌, ◌/◌, ◌<◌, ◌^◌, ◌||◌, ◌↔◌, ◌∙◌, ◌∷◌, ◌≡◌, ◌≤◌, ◌⊎◌}
pub use Rattle.std.proofs.lemmas.{Bool.{cases_Bool, cases_eq, cases_lt, eqb-false, ne_eqb, Decides.{nat_tests, not_from_Decides}}, Int.to_z-of_z}
pub use Rattle.std.proofs.lemmas.{Nat.Bits.{bit_at-lt, bit_at-trailing_zeros, bit_at-zero, bit_at_above, bit_at_and, bit_at_cat_low, bit_at_clear_other, bit_at_clear_same, bit_at_or, bit_at_set_other, bit_at_set_same}}
pub use Rattle.std.proofs.lemmas.{Map.Made.filter_same_pairs, Result.{err_from_is_err_and, on_err_weaker, on_ok_weaker}}
pub use Rattle.dw_row.specs.{Agreement.{InCommon, IsAgreed, is_kept, kept}, Difference.{DiffersFirst, FirstDifference, SameBetween, place_behind}}
pub use Rattle.dw_row.specs.declared.{entries.Entries.Entries, rule.{CfaRule.{CfaRule, TheVariants.Unset}, RegRule.{RegRule, TheVariants.{SameValue, Unspecified}}}, slot.{Slot.Slot, Slots.Slots}}
pub use Rattle.dw_row.specs.{RegisterSets.{AgreesBeside, Registers, has}, Rows.{AreSpecified, BeginsWithOffset, IsOffset, Rules, is_specified, rule, rule_in, listed, put, with_cfa, with_rule}}
pub use Rattle.dw_row.specs.States.{BeganWith, Held, Restored, first_if, remembering, with_row}
pub use Rattle.dw_row.specs.Inner.Entries.{EntriesSo, FirstBit, FirstIn, HasRoom, HasSlot, Holds, IsSlotOf, LeavesAmong, LeavesAt, LeavesBelow, NoneHasSlot, SameOutside, SameSlots, entries_of, far_behind, kind_rule, left, listed_near}
pub use Rattle.dw_row.specs.Inner.{Entries.{near_rule, rule_if, set_at, slot_at, slot_rule}, Agreement.{agreed, is_agreed, same_cfa, same_rule}, Difference.{SameUnset, start_behind}, Among.{CopiedUpTo, SameUnlisted, in_mask, in_tree}}
pub use Rattle.dw_row.specs.Inner.{Kept.KeptSo, RowEquality.{cfa_tells, rows_tell, rule_tells, same_rows}, States.{SameBefore, StatesSo, TakenBack, held, row_at, saved_if, shown, stacked}}
unfoldable pub use Rattle.dw_row.specs.Inner.{Changes.{has_register, registers_before}, Entries.listed_from, States.{Ascend, rows_before}}
