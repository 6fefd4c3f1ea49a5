-- The numbers and names of the faults.
use Rattle.std.specs.Prelude.{ℕ, List, codes}
use Rattle.dw_eval.specs.declared.error.{Kind.Kind, Kind.TheVariants.{StackUnderflow, DivideByZero, NoRegister, Unreadable, Device}}
use Rattle.dw_eval.specs.declared.error.Kind.TheVariants.{StepLimit, EmptyResult, NotAValue, NoFrameBase, NoCfa, NoObject, MissingPiece}

-- number and name of each
abbrev pub kind_entry : Kind → ℕ × List ℕ
kind_entry StackUnderflow = (1, codes "StackUnderflow")
kind_entry DivideByZero = (2, codes "DivideByZero")
kind_entry (NoRegister r) = (3, codes "NoRegister")
kind_entry (Unreadable a k) = (4, codes "Unreadable")
kind_entry Device = (5, codes "Device")
kind_entry StepLimit = (6, codes "StepLimit")
kind_entry EmptyResult = (7, codes "EmptyResult")
kind_entry NotAValue = (8, codes "NotAValue")
kind_entry NoFrameBase = (9, codes "NoFrameBase")
kind_entry NoCfa = (10, codes "NoCfa")
kind_entry NoObject = (11, codes "NoObject")
kind_entry MissingPiece = (12, codes "MissingPiece")
