use Rattle.dw_show.proofs.{Words.{◌++◌, ℕ, List, Adds, codes, append_assoc, subst, sym, operations_text}, Lent.Endings.on}
use Rattle.dw_show.proofs.texts.put_rule.Goals as goal

pub returns-in-Expression : goal.returns-in-Expression
returns-in-Expression g c =
    let ops = codes "=[expr(" ++ operations_text c.in-Expression.expression.ops in
    rw c.in-Expression.is (subst (λ (t : List ℕ). Adds g.W.Write.contents c.args.listing.now c.put_expr.new.out t) (sym (append_assoc ops (codes ")") (codes "]"))) c.put_expr.ensures)

pub returns-in-Register : goal.returns-in-Register
returns-in-Register g c = rw c.in-Register.is (on g.W.Write.contents _ _ _ _ _ c.text-in-Register.ensures.adds (rw c.from.ensures at c.decimal.ensures.adds))
