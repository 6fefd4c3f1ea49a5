use Rattle.dw_num.proofs.{Words.{subst, Input, AreBytes, SpellsLength, unit_length_at}, Lent.FixedLaws.{unit_length_found, unit_length_only}, Lent.LebLaws.{found_of, only_of}}
use Rattle.dw_num.proofs.cursor.Cursor.unit_length.Goals as goal

pub returns-clause-found : goal.returns-clause-found
returns-clause-found c = found_of (SpellsLength c.args.self.now.target.order) c.read_unit_length.result c.args.self.now c.read_unit_length.new.self (unit_length_at c.args.self.now) (λ u rest e. unit_length_found c.args.self.now rest u (subst (λ (i : Input). AreBytes i.bytes) c.self.view_is c.are_bytes.ensures) e) c.read_unit_length.ensures

pub returns-clause-only : goal.returns-clause-only
returns-clause-only c = λ u b rest s e. only_of c.read_unit_length.result c.args.self.now c.read_unit_length.new.self _ (unit_length_at c.args.self.now) u c.read_unit_length.ensures (unit_length_only c.args.self.now u b rest s e)
