-- The words of specs and of std that the proofs cite, passed on from one place. Declares nothing.
pub use Rattle.std.specs.{List.{AllByRecursion, AllZip, Sorted.{IsNonDecreasingBy, IsPartitionPoint}}, Option.option_or}
pub use Rattle.std.proofs.Common.{Bool, Err, IfErr, IfOk, IsPermutation, List, MatchBool, MatchResult, None, Ok, Option, Result, Some, [], add-one, add-zero, ap, append-nil, append_assoc, ap₂, arith, codes, cond, drop, false, get_or, inl}
pub use Rattle.std.proofs.Common.{inr, is_some, leb-false, leb-true, length, length-append, length-drop, mul-le-mul, nat_le, option_and_then, pow-suc, refl, rules, slice_get, slice_index, subst, suc, sum_by, sym, take, true, true≢false}
pub use Rattle.std.proofs.{Common.{zero, ℕ, ⊎_elim, ◌*◌, ◌++◌, ◌+◌, ◌-◌, ◌<◌, ◌==◌, ◌^◌, ◌∙◌, ◌∷◌, ◌≡◌, ◌≢◌, ◌≤◌, ◌⊎◌}, lemmas.{Bool.{cases_Bool, cases_eq, cases_lt, Decides.{Decides-eqb, eqb_tells, leb_tells}}}}
pub use Rattle.std.proofs.lemmas.{List.{append_cancel_left, get_or_default, take_rest, Sorted.{All-permutation, IsNonDecreasingBy-from_sort_by_key, IsPartitionPoint-from_clause, IsPartitionedBy-leb, IsPermutation-sym, sum_by-IsPermutation}, Sums.{sum_by-append, sum_by-cons, sum_by_push}}}
pub use Rattle.std.proofs.lemmas.{Option.{slice_get-get_or, slice_get_past}, Slice.Zip.AllZip-long}
pub use Rattle.hex.specs.Hex.{decode_of}
pub use Rattle.dw_num.specs.{Digits.{digit, number_behind}, Target.address_limit}
pub use Rattle.dw_eval.specs.Registers.{held}
pub use Rattle.dw_dump.specs.{Dump.{FirstFault, IsFaulty, Say, SaysWithin}, Laws.{NamesLine, OneDump}, Lines.{in_front, lines_of}, Ranges.{byte_among, byte_of, covers, end_of}}
pub use Rattle.dw_dump.specs.Spelling.{CounterLine, HexPairs, Hexadecimal, LineSays, MemoryLine, RegisterLine, RegisterName, SkippedLine}
pub use Rattle.dw_dump.specs.Statement.{DumpItem, Fits, Statement, byte, counter, counter_is, given, memory_is, nothing, register, register_is, times, told}
pub use Rattle.dw_dump.specs.declared.{fault.{DumpCode.{DumpCode, TheVariants.{BadLine, Repeated, ValueTooLarge}}, DumpFault.DumpFault}, dump.Gathered.Gathered, memory.Range.Range}
pub use Rattle.dw_dump.specs.Inner.{Gathered.{Gathers, IsWhole, Keeps, Takes, bytes_by, bytes_of, ranges_of}, Ranges.{AreApart, IsSoundRange, Meet, cover_count}, Spelling.{Lacks, MemoryHead, len_until}}
