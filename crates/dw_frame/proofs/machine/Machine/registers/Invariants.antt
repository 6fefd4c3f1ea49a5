use Rattle.dw_frame.proofs.Words.{◌≡◌, ◌≤◌, ListedBelow, IsLeft}
use Rattle.dw_frame.proofs.machine.Machine.registers.Given as goal

abbrev pub invariant-registers : goal.invariant-registers
invariant-registers g l = record {
  same : g.M.Memory.byte l.memory ≡ g.M.Memory.byte l.initial.memory;
  count : g.M.Memory.failures l.memory ≡ g.M.Memory.failures l.initial.memory;
  most : l.from ≤ 65536;
  left : IsLeft l.self.row.now l.from l.register-iterator;
  so_far : ListedBelow l.self (g.M.Memory.byte l.initial.memory) l.cfa l.from l.room;
}
