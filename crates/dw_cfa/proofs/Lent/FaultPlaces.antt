-- The first faults of programs lie in them.
use Rattle.dw_cfa.specs.FaultPlaces.{LiesInProgram, CieFaultsWithin, FdeFaultsWithin, RunFaultsWithin}
use Rattle.dw_cfa.proofs.{Words.{◌≡◌, ◌+◌, List, ◌∷◌, length, ap, arith, inl, inr, length-append, AreBytes, Code, Factors, Input, Instr, Refusal, FaultBehind}, Lent.Listings.stuck_within, Stuck.fault_stuck}

fault_within : (i : Input) (f : Factors) (instrs : List Instr) (Breaks : Instr → Code → Type 0) (r : Refusal) → AreBytes i.bytes → FaultBehind f i instrs Breaks r → LiesInProgram i r
fault_within i f instrs Breaks r are (inl h) = stuck_within f i h.front (h.code ∷ h.operands) r are h.whole (fault_stuck f i.target (i.at + length h.front) h.code h.operands r h.fault)
fault_within i f instrs Breaks r are (inr h) =
    let len : length i.bytes ≡ length h.front + (length h.spelling + length h.rest) = simp length-append at (ap length h.whole) in
    let place = h.place in
    (omega (arith, place), omega (arith, place, len))

pub cie_within : CieFaultsWithin
cie_within f cie r are h = fault_within cie f h.0 _ r are h.2

pub fde_within : FdeFaultsWithin
fde_within f initial fde begin r are h = fault_within fde f h.0 _ r are h.1.1

pub run_within : RunFaultsWithin
run_within f cie fde begin r cie_are fde_are (inl h) = inl (cie_within f cie r cie_are h)
run_within f cie fde begin r cie_are fde_are (inr h) = inr (fde_within f _ fde begin r fde_are h.3)
