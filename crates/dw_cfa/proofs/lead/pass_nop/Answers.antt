use Rattle.std.proofs.Common.{◌≡◌, ℕ, Ok, Err, Result, IsTrue, is_ok}
use Rattle.dw_num.specs.{Front.{Reads, fixed_at}, declared.refusal.Refusal.Refusal}
use Rattle.dw_cfa.specs.{declared.instr.Instr.TheVariants.{Nop}, Inner.FrontInstr.instr_at}
use Rattle.dw_cfa.proofs.Tabled.{nop_passed}
use Rattle.dw_cfa.proofs.lead.pass_nop.Goals as goal

pub returns-then-rest-eq0-clause-passed : goal.returns-then-rest-eq0-clause-passed
returns-then-rest-eq0-clause-passed c is f = by_read c.byte.result c.byte.ensures.exact (rw c.is_ok.ensures.value at is)
  where
    by_read : (r : Result ℕ Refusal) → Reads (λ b. b) r c.args.cursor.now (fixed_at 1 c.args.cursor.now) c.byte.new.self → IsTrue (is_ok r) → instr_at f c.args.cursor.now ≡ Ok (Nop, c.byte.new.self)
    by_read (Ok b) e _ = nop_passed f c.args.cursor.now c.byte.new.self b (rw c.rest.ensures at c.if-rest-eq0.true) e
    by_read (Err r) e none = absurd cc
