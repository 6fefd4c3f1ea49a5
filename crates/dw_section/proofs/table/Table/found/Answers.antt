use Rattle.dw_section.proofs.{Words.{◌∙◌, refl, sym, subst, arith, AreOf, Returns, entry_head, initial_head, range_in}, Lent.{FdeLookup.{one_register, same_fde}, Heads.heads_rise}}
use Rattle.dw_section.proofs.table.Table.found.Goals as goal

pub returns : goal.returns
returns c =
    let w = c.self.invariant.0.indexed in
    let are = w.hold.0.0.0 in
    let initials = subst (AreOf w.headers) (sym c.deref.ensures.value) (c.self.invariant.1.1 w.headers are) in
    let ranged = rw (sym c.self.view_is) at c.listed.ensures.ranged in
    let e = c.listed.result in
    let f = c.found_fde in
    let is = f.ensures.is w.headers are initials (ranged w.headers are) in
    let s = c.self.inside in
    let returns : Returns w.headers (range_in e) f.result.cie.return_register =
    rw (← f.ensures.at, ← f.ensures.begin, ← f.ensures.range) (record { own = entry_head f.result.own; named = initial_head f.result.cie; own_among = is.own; named_among = is.named; covers = refl; names = is.names; is = refl }) in
    let register = one_register w.headers (heads_rise s.target s.bytes.now w.headers are) (range_in e) f.result.cie.return_register e.return_register returns (ranged w.headers are) in
    record {
      found = rw (← c.self.view_is) (record { headers = w.headers; hold = w.hold; is = is; some = omega (arith, c.listed.ensures.some, f.ensures.range) });
      listed = λ fs are d. same_fde f.result.own.begin f.result.own.range f.result.cie.return_register e.begin e.range e.return_register f.ensures.begin f.ensures.range register ∙ c.listed.ensures.is fs are d;
    }
