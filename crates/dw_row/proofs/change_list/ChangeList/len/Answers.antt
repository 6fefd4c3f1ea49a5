use Rattle.dw_row.proofs.{Words.arith, ChangeLaws.count_listed}
use Rattle.dw_row.proofs.change_list.ChangeList.len.Goals as goal

pub returns : goal.returns
returns c = let s = c.self.inside in rw (← c.self.view_is) (omega (arith, c.len.ensures, count_listed s.kinds s.registers s.numbers s.count s.rest.items))
