-- The words of specs and of std that the proofs cite, passed on from one place. Declares nothing.
pub use Rattle.std.specs.List.{AllByRecursion}
pub use Rattle.std.proofs.Common.{Bool, Err, FitsSigned, IfOk, List, None, Ok, Option, Result, Some, SomeIff, [], add-one, add-zero, add_assoc, ap, append-nil, append_assoc, arith, cond, drop, drop-cons}
pub use Rattle.std.proofs.Common.{drop_at, false, get_or, if◌then◌else◌, get_or-append-add, get_or-drop, get_or-take, inl, inr, le-leb, le-ltb, leb, leb-false, leb-true, length, length-append}
pub use Rattle.std.proofs.Common.{length-drop, length-take, lit<, lt-ltb, ltb-false, ltb-true, nat_lt, negsuc, of_z, pos, pow-add, pow-suc, refl, subst, suc, sym, take, take-add, take-append-drop}
pub use Rattle.std.proofs.{Common.{to_z, true, w64, zero, zero-add, ℕ, ℤ, ◌%◌, ◌*◌, ◌++◌, ◌+◌, ◌-ℤ◌, ◌-◌, ◌/◌, ◌<◌, ◌==◌, ◌^◌, ◌∙◌, ◌∷◌, ◌≡◌, ◌≤◌, ◌⊎◌}, Math.Nat.{pow-le-pow_right, pow-succ'}}
pub use Rattle.std.proofs.lemmas.{Bool.{cases_Bool, cases_lt, lt-leb}, Grind.pow_more, Int.ints, List.{get_or_past, take_more}, Nat.{be_bytes_2, be_bytes_4, be_bytes_8, le_bytes_2, le_bytes_4, le_bytes_8, mul-le, shl_whole}}
pub use Rattle.byteorder.specs.Numbers.{big_from-append, big_from-lt, big_number-reads_back, length-bytes_high_first, length-bytes_low_first, little_from-append, little_from-lt, little_number-reads_back}
unfoldable pub use Rattle.dw_num.specs.{Front.{address_at, fixed_at, register_at, sleb_at, uleb_at, unit_length_at}, Shortest.{shortest_sleb, shortest_uleb}}
pub use Rattle.dw_num.specs.{Fixed.{Address, Fixed, IsWidth, LengthFits, SpellsLength, fixed_bytes, fixed_number, length_bytes}, Front.{Read, Reads, fault, fits_signed, leb_len, length_of, long_length_at}}
pub use Rattle.dw_num.specs.{Front.{register_of, sleb_of, uleb_of, ◌>>=◌}, Input.{AreBytes, Input, Takes, behind}, Leb.{IsLeb, Register, Sleb, Uleb, groups, groups_from, is_negative, last_byte, signed_groups}}
pub use Rattle.dw_num.specs.{Shortest.{leb_of, turned, turned_leb}, ShortestLeb.{PutsSleb, PutsUleb}, Target.byte_count, declared.refusal.Code.TheVariants.{NumberTooLarge, RegisterTooLarge, ReservedLength, Truncated}}
pub use Rattle.dw_num.specs.{declared.refusal.Refusal.Refusal, declared.target.Order.Order, declared.target.Order.TheVariants.{Big, Little}, declared.target.Target.Target, Inner.Scan.{IsTotal, as_signed, further, turned_from}}
