use Rattle.std.proofs.Common.{rules}
use Rattle.dw_cfa.proofs.{Words.{address_limit, state_of}, RunSteps.settled}
use Rattle.dw_cfa.specs.Inner.LookUp.{look_up_at}
use Rattle.dw_cfa.proofs.look_up.LookUpKeep.take.Goals as goal

pub returns-in-Some : goal.returns-in-Some
returns-in-Some c =
    let k = c.args.self.now in let m = look_up_at k.initial.value (address_limit k.size.value) k.row k.location in let d = c.in_default in
    let is = settled c.args.instr m.limit (state_of m) m.initial d.not-SetLoc d.not-Advance d.not-Restore d.not-RememberState d.not-RestoreState in search (rules, is)
