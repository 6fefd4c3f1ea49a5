use Rattle.dw_row.proofs.Words.{◌≡◌, ◌↔◌, filter, is_kept, kept}
use Rattle.dw_row.proofs.row.Row.specifies_all.Given as goal

abbrev pub invariant-loop-register : goal.invariant-loop-register
invariant-loop-register l = (filter (is_kept l.fn.self.registers) l.register-iterator ≡ l.register-iterator) ↔ (kept l.fn.other l.fn.self ≡ l.fn.other)
