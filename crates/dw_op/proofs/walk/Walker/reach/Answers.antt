use Rattle.dw_op.proofs.{Words.{◌-◌, Shifted}, Walkers.window_moved}
use Rattle.dw_op.proofs.walk.Walker.reach.Goals as goal

pub returns-clause-so : goal.returns-clause-so
returns-clause-so c =
    let moved : Shifted c.args.self.now.measure c.args.self.now.window (c.args.end - 32768) c.advance.result c.advance.new.window = rw c.saturating_sub-low.ensures at c.advance.ensures.shifted in
    record {
      small = c.requires.small;
      before = window_moved c.args.self.now c.args.end c.advance.result c.advance.new.window c.requires moved;
      here = c.requires.here;
      marks = c.fill.ensures;
      low = c.requires.low;
      place = c.requires.place;
    }
