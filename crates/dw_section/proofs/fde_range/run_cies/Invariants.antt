use Rattle.dw_section.proofs.Words.{take, AllByRecursion, CieRuns, Initial, initial_in}
use Rattle.dw_section.proofs.fde_range.run_cies.Given as goal

abbrev pub invariant-loop-cie : goal.invariant-loop-cie
invariant-loop-cie l = AllByRecursion (λ (cie : Initial). CieRuns l.fn.target (initial_in cie)) (take l.cie-index l.initials)
