-- Where the faults of programs lie: DWARF 5, 6.4.2.
use Rattle.std.specs.Prelude.{◌⊎◌, ℕ, ◌+◌, ◌≤◌, length}
use Rattle.dw_num.specs.{Input.{Input, AreBytes}, declared.refusal.Refusal.Refusal}
use Rattle.dw_row.specs.declared.rule.CfaRule.{CfaRule}
use Rattle.dw_cfa.specs.{Faults.{CieFault, FdeFault, RunFault}, declared.instr.Factors.Factors}

-- a place from the program's first byte to its end
abbrev pub LiesInProgram : Input → Refusal → Type 0
LiesInProgram i r = (i.at ≤ r.at) × (r.at ≤ i.at + length i.bytes)

-- the first fault of a CIE's program lies in it
abbrev pub CieFaultsWithin : Type 0
CieFaultsWithin = (f : Factors) (cie : Input) (r : Refusal) → AreBytes cie.bytes → CieFault f cie r → LiesInProgram cie r

-- that of an FDE's program too
abbrev pub FdeFaultsWithin : Type 0
FdeFaultsWithin = (f : Factors) (initial : CfaRule) (fde : Input) (begin : ℕ) (r : Refusal) → AreBytes fde.bytes → FdeFault f initial fde begin r → LiesInProgram fde r

-- that of both lies in one of them
abbrev pub RunFaultsWithin : Type 0
RunFaultsWithin = (f : Factors) (cie fde : Input) (begin : ℕ) (r : Refusal) → AreBytes cie.bytes → AreBytes fde.bytes → RunFault f cie fde begin r → LiesInProgram cie r ⊎ LiesInProgram fde r
