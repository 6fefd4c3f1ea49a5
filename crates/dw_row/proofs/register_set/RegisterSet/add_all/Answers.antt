use Rattle.dw_row.proofs.RegisterSets.{all_added, all_stay, no_others}
use Rattle.dw_row.proofs.register_set.RegisterSet.add_all.Goals as goal

pub returns : goal.returns
returns c =
    let old = c.args.self.now in let other = c.args.other.now in let new = c.add_each.new.self in record {
      added = all_added c.add_each.result _ _ old other new c.self.view_is c.other.view_is c.other.invariant c.add_each.ensures.added;
      more = all_stay c.add_each.result _ _ old other new c.self.view_is c.other.view_is c.add_each.ensures.more;
      others = no_others c.add_each.result _ _ old other new c.self.view_is c.other.view_is c.other.invariant c.add_each.ensures.others;
    }
