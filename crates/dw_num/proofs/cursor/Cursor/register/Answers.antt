use Rattle.dw_num.proofs.{Words.{subst, Input, AreBytes, Register, register_at}, Lent.LebLaws.{register_found, register_only, found_of, only_of}}
use Rattle.dw_num.proofs.cursor.Cursor.register.Goals as goal

pub returns-clause-found : goal.returns-clause-found
returns-clause-found c = found_of Register c.read_register.result c.args.self.now c.read_register.new.self (register_at c.args.self.now) (λ v rest e. register_found c.args.self.now rest v (subst (λ (i : Input). AreBytes i.bytes) c.self.view_is c.are_bytes.ensures) e) c.read_register.ensures

pub returns-clause-only : goal.returns-clause-only
returns-clause-only c = λ v b rest u e. only_of c.read_register.result c.args.self.now c.read_register.new.self _ (register_at c.args.self.now) v c.read_register.ensures (register_only c.args.self.now v b rest u e)
