-- The numbers and names of the faults.
use Rattle.std.specs.Prelude.{ℕ, List, codes}
use Rattle.dw_num.specs.declared.refusal.{Code.Code, Code.TheVariants.{Truncated, ReservedLength, EntryPastEnd, BadVersion, Augmentation}}
use Rattle.dw_num.specs.declared.refusal.Code.TheVariants.{AddressSize, SegmentSelector, NumberTooLarge, RegisterTooLarge, NoSuchCie}
use Rattle.dw_num.specs.declared.refusal.Code.TheVariants.{RangeTooLarge, UnknownInstruction, NotInCie, LocationBackwards, LocationTooLarge}
use Rattle.dw_num.specs.declared.refusal.Code.TheVariants.{EmptyStateStack, StateStackFull, CfaNotRegister, OffsetTooLarge, UnknownOperation}
use Rattle.dw_num.specs.declared.refusal.Code.TheVariants.{NotInFrame, BadBranch, BadDerefSize, NoCfaRule, Overlap, SectionTooLarge, NormalTooLong}

-- number and name of each
abbrev pub code_entry : Code → ℕ × List ℕ
code_entry Truncated = (1, codes "Truncated")
code_entry ReservedLength = (2, codes "ReservedLength")
code_entry EntryPastEnd = (3, codes "EntryPastEnd")
code_entry BadVersion = (4, codes "BadVersion")
code_entry Augmentation = (5, codes "Augmentation")
code_entry AddressSize = (6, codes "AddressSize")
code_entry SegmentSelector = (7, codes "SegmentSelector")
code_entry NumberTooLarge = (8, codes "NumberTooLarge")
code_entry RegisterTooLarge = (9, codes "RegisterTooLarge")
code_entry NoSuchCie = (10, codes "NoSuchCie")
code_entry RangeTooLarge = (11, codes "RangeTooLarge")
code_entry UnknownInstruction = (12, codes "UnknownInstruction")
code_entry NotInCie = (13, codes "NotInCie")
code_entry LocationBackwards = (14, codes "LocationBackwards")
code_entry LocationTooLarge = (15, codes "LocationTooLarge")
code_entry EmptyStateStack = (16, codes "EmptyStateStack")
code_entry StateStackFull = (17, codes "StateStackFull")
code_entry CfaNotRegister = (18, codes "CfaNotRegister")
code_entry OffsetTooLarge = (19, codes "OffsetTooLarge")
code_entry UnknownOperation = (20, codes "UnknownOperation")
code_entry NotInFrame = (21, codes "NotInFrame")
code_entry BadBranch = (22, codes "BadBranch")
code_entry BadDerefSize = (23, codes "BadDerefSize")
code_entry NoCfaRule = (24, codes "NoCfaRule")
code_entry Overlap = (25, codes "Overlap")
code_entry SectionTooLarge = (26, codes "SectionTooLarge")
code_entry NormalTooLong = (27, codes "NormalTooLong")
