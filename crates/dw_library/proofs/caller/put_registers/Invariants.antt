use Rattle.dw_library.proofs.Words.{◌≡◌, ◌++◌, drop, map, take, told_register}
use Rattle.dw_library.proofs.caller.put_registers.Given as goal

abbrev pub invariant-entries : goal.invariant-entries
invariant-entries l = l.out ≡ map told_register (take l.place l.entries) ++ drop l.place l.initial.out
