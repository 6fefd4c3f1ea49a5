use Rattle.dw_num.proofs.{Words.{subst, Input, AreBytes, Sleb, sleb_at}, Lent.LebLaws.{found_of, only_of}, Lent.SlebLaws.{sleb_found, sleb_only}}
use Rattle.dw_num.proofs.cursor.Cursor.sleb.Goals as goal

pub returns-clause-found : goal.returns-clause-found
returns-clause-found c = found_of (Sleb) c.read_sleb.result c.args.self.now c.read_sleb.new.self (sleb_at c.args.self.now) (λ v rest e. sleb_found c.args.self.now rest v (subst (λ (i : Input). AreBytes i.bytes) c.self.view_is c.are_bytes.ensures) e) c.read_sleb.ensures

pub returns-clause-only : goal.returns-clause-only
returns-clause-only c = λ v b rest u e. only_of c.read_sleb.result c.args.self.now c.read_sleb.new.self _ (sleb_at c.args.self.now) v c.read_sleb.ensures (sleb_only c.args.self.now v b rest u e)
