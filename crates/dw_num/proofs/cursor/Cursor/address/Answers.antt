use Rattle.dw_num.proofs.{Words.{subst, Input, AreBytes, Address, address_at}, Lent.FixedLaws.{address_found, address_only}, Lent.LebLaws.{found_of, only_of}}
use Rattle.dw_num.proofs.cursor.Cursor.address.Goals as goal

pub returns-clause-found : goal.returns-clause-found
returns-clause-found c = found_of (Address c.args.self.now.target) c.read_address.result c.args.self.now c.read_address.new.self (address_at c.args.self.now) (λ v rest e. address_found c.args.self.now rest v (subst (λ (i : Input). AreBytes i.bytes) c.self.view_is c.are_bytes.ensures) e) c.read_address.ensures

pub returns-clause-only : goal.returns-clause-only
returns-clause-only c = λ v b rest u e. only_of c.read_address.result c.args.self.now c.read_address.new.self _ (address_at c.args.self.now) v c.read_address.ensures (address_only c.args.self.now v b rest u e)
