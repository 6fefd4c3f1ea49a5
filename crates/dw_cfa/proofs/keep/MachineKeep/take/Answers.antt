use Rattle.std.proofs.Common.{rules}
use Rattle.dw_cfa.proofs.{Words.state_of, RunSteps.settled}
use Rattle.dw_cfa.proofs.keep.MachineKeep.take.Goals as goal

pub returns-in-Some : goal.returns-in-Some
returns-in-Some c =
    let m = c.args.self.now in let d = c.in_default in
    let is = settled c.args.instr m.limit (state_of m) m.initial d.not-SetLoc d.not-Advance d.not-Restore d.not-RememberState d.not-RestoreState in search (rules, is)
