use Rattle.dw_num.proofs.{Words.{subst, Input, AreBytes, Fixed, fixed_at}, Lent.FixedLaws.{fixed_found, fixed_only}, Lent.LebLaws.{found_of, only_of}}
use Rattle.dw_num.proofs.cursor.Cursor.fixed.Goals as goal

pub returns-clause-found : goal.returns-clause-found
returns-clause-found c = found_of (Fixed c.args.self.now.target.order c.args.n) c.read_fixed.result c.args.self.now c.read_fixed.new.self (fixed_at c.args.n c.args.self.now) (λ v rest e. fixed_found c.args.n c.args.self.now rest v c.requires (subst (λ (i : Input). AreBytes i.bytes) c.self.view_is c.are_bytes.ensures) e) c.read_fixed.ensures

pub returns-clause-only : goal.returns-clause-only
returns-clause-only c = λ v b rest u e. only_of c.read_fixed.result c.args.self.now c.read_fixed.new.self _ (fixed_at c.args.n c.args.self.now) v c.read_fixed.ensures (fixed_only c.args.n c.args.self.now v b rest u e)
