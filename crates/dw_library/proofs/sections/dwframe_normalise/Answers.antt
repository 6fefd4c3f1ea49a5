use Rattle.dw_library.proofs.Words.{◌∙◌, arith, inl, rules, sym}
use Rattle.dw_library.proofs.sections.dwframe_normalise.Goals as goal

pub returns-in-Ok : goal.returns-in-Ok
returns-in-Ok c =
    let found = c.in-Ok.ensures.found in
    rw (sym c.target_of.ensures ∙ c.in-Some.is) (inl ((_, found.0, found.1, omega (arith, c.len.ensures, c.in-Ok.normal.ok), rw c.deref.ensures.value at c.put_front.ensures), search rules))
