use Rattle.dw_cfa.proofs.{Words.{arith, program_input}, UpTo.up_to}
use Rattle.dw_cfa.proofs.room.RowRoom.run_to.Goals as goal

pub returns : goal.returns
returns c =
    let so = up_to c.args.factors (program_input c.args.cie_program c.args.target) (program_input c.args.fde_program c.args.target) c.args.begin c.are_bytes.ensures c.are_bytes-2.ensures (omega (arith, c.requires.begin)) c.args.address
    c.run_any.result c.run_any.new.self c.requires.start c.run_any.ensures in
    record { found = λ o runs. (so.0 o runs).0; err = λ o runs. (so.0 o runs).1; up_to = so.1; none = so.2 }
