use Rattle.dw_section.proofs.{Words.{◌-◌, ◌+◌, ◌<◌, ◌≤◌, length, get_or, arith, inl, inr, leb_tells, get_or_default}, Lent.FdeLookup.{none_above, none_covers, none}}
use Rattle.dw_section.proofs.standing_fde.place_of.Goals as goal

pub returns-then-begun-eq0-clause-none : goal.returns-then-begun-eq0-clause-none
returns-then-begun-eq0-clause-none c = λ is up apart. none_above c.args.address c.args.index.now (λ k d lt. (c.begun-begun.ensures.divides up).1 k d (omega (arith, c.if-begun-eq0.true)) lt)

pub returns-clause-none : goal.returns-clause-none
returns-clause-none c = λ is up apart.
    let xs = c.args.index.now in
    let i = c.begun-begun.result - 1 in
    let some = c.if-begun-eq0.false in
    let bound = c.begun-begun.ensures.bound in
    let lt : i < length xs = omega (arith, some, bound) in
    let x = get_or xs i none in
    let same = get_or_default xs i none x lt in
    let below : x.begin ≤ c.args.address = (c.begun-begun.ensures.divides up).0 i none (omega (arith, some)) in
    let past : x.begin + x.range ≤ c.args.address = elim (leb_tells (x.begin + x.range) c.args.address) [ inl p ↦ p.1 | inr p ↦ absurd (c.if-covers.ensures (below, p.1)) ] in
    none_covers c.args.address xs i x apart lt same below past (λ k d le l. (c.begun-begun.ensures.divides up).1 k d (omega (arith, some, le)) l)
