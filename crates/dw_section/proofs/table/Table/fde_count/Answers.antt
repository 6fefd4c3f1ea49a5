use Rattle.dw_section.proofs.{Words.{length, ap, arith, length-map, fde_in}, Lent.FdeLookup.listed_are}
use Rattle.dw_section.proofs.table.Table.fde_count.Goals as goal

pub returns : goal.returns
returns c = λ fs are.
    let list = c.index.result.now in
    omega (arith, ap length (listed_are c.args.self.now.target c.args.self.now.bytes list c.index.ensures fs are), length-map list fde_in)
