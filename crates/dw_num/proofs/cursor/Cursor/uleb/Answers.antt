use Rattle.dw_num.proofs.{Words.{subst, Input, AreBytes, Uleb, uleb_at}, Lent.LebLaws.{uleb_found, uleb_only, found_of, only_of}}
use Rattle.dw_num.proofs.cursor.Cursor.uleb.Goals as goal

pub returns-clause-found : goal.returns-clause-found
returns-clause-found c = found_of (Uleb) c.read_uleb.result c.args.self.now c.read_uleb.new.self (uleb_at c.args.self.now) (λ v rest e. uleb_found c.args.self.now rest v (subst (λ (i : Input). AreBytes i.bytes) c.self.view_is c.are_bytes.ensures) e) c.read_uleb.ensures

pub returns-clause-only : goal.returns-clause-only
returns-clause-only c = λ v b rest u e. only_of c.read_uleb.result c.args.self.now c.read_uleb.new.self _ (uleb_at c.args.self.now) v c.read_uleb.ensures (uleb_only c.args.self.now v b rest u e)
