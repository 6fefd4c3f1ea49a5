use Rattle.dw_frame.proofs.{Words.{FrameIs, FrameFails, stopped}, ColumnLaws.{over_answered, over_failed, over_device}}
use Rattle.dw_frame.proofs.machine.unwind_row.Goals as goal

pub returns-clause-answered : goal.returns-clause-answered
returns-clause-answered g c =
    let a = c.args in let world = stopped a.target a.registers.now (g.M.Memory.byte a.memory.now) in let after = g.M.Memory.failures c.frame.new.memory in
    over_answered (FrameIs world a.steps a.default a.row.now a.return_register) (FrameFails world a.steps a.default a.row.now a.return_register) (g.M.Memory.failures a.memory.now) c.frame.result after c.frame.ensures.so

pub returns-clause-failed : goal.returns-clause-failed
returns-clause-failed g c =
    let a = c.args in let world = stopped a.target a.registers.now (g.M.Memory.byte a.memory.now) in let after = g.M.Memory.failures c.frame.new.memory in
    over_failed (FrameIs world a.steps a.default a.row.now a.return_register) (FrameFails world a.steps a.default a.row.now a.return_register) (g.M.Memory.failures a.memory.now) c.frame.result after c.frame.ensures.so

pub returns-clause-device : goal.returns-clause-device
returns-clause-device g c =
    let a = c.args in let world = stopped a.target a.registers.now (g.M.Memory.byte a.memory.now) in let after = g.M.Memory.failures c.frame.new.memory in
    over_device (FrameIs world a.steps a.default a.row.now a.return_register) (FrameFails world a.steps a.default a.row.now a.return_register) (g.M.Memory.failures a.memory.now) c.frame.result after c.frame.ensures.so
