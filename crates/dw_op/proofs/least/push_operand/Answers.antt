use Rattle.dw_num.proofs.Lent.Shortest.{puts_uleb, puts_sleb}
use Rattle.dw_op.proofs.{Words.{rules, ◌∙◌, length}, LeastOf.{puts_by, puts_behind, puts_slice}}
use Rattle.dw_op.proofs.least.push_operand.Goals as goal

pub returns-in-Unsigned : goal.returns-in-Unsigned
returns-in-Unsigned c = rw c.in-Unsigned.is (puts_by c.put_uleb.result _ _ _ _ c.put_uleb.ensures.ok (puts_uleb c.in-Unsigned.value _ _) c.put_uleb.ensures.err)

pub returns-in-Signed : goal.returns-in-Signed
returns-in-Signed c = rw c.in-Signed.is (puts_by c.put_sleb.result _ _ _ _ c.put_sleb.ensures.ok (λ p. puts_sleb _ _ _ p ∙ search rules) c.put_sleb.ensures.err)

pub returns-in_ok-put_uleb-in-Offset : goal.returns-in_ok-put_uleb-in-Offset
returns-in_ok-put_uleb-in-Offset c =
    let s = c.put_sleb-in-Offset in
    rw c.in-Offset.is
    (puts_behind s.result _ _ _ _ _ (puts_uleb c.in-Offset.register _ _ (rw c.from-in-Offset.ensures at c.in_ok-put_uleb-in-Offset.ensures.ok)) (puts_by s.result _ _ _ _ s.ensures.ok (λ p. puts_sleb _ _ _ p ∙ search rules) s.ensures.err))

pub returns-in_ok-put_uleb-in-Pair : goal.returns-in_ok-put_uleb-in-Pair
returns-in_ok-put_uleb-in-Pair c =
    let s = c.put_uleb-in-Pair-2 in
    rw c.in-Pair.is (puts_behind s.result _ _ _ _ _ (puts_uleb c.in-Pair.first _ _ c.in_ok-put_uleb-in-Pair.ensures.ok) (puts_by s.result _ _ _ _ s.ensures.ok (puts_uleb c.in-Pair.second _ _) s.ensures.err))

pub returns-in_ok-put_uleb-in-Block : goal.returns-in_ok-put_uleb-in-Block
returns-in_ok-put_uleb-in-Block c = rw c.in-Block.is (puts_behind c.extend_from_slice.result _ _ _ _ _ (puts_uleb (length c.in-Block.bytes.now) _ _ c.in_ok-put_uleb-in-Block.ensures.ok) (puts_slice c.extend_from_slice.result _ _ _ c.extend_from_slice.ensures.items))
