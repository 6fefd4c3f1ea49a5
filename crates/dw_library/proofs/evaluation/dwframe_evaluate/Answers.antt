use Rattle.dw_library.proofs.{Words.{◌≡◌, ◌∙◌, Err, refl, rules, sym, held_in, not_refused}, Evaluated.fault_told}
use Rattle.dw_library.proofs.evaluation.dwframe_evaluate.Goals as goal

pub returns-in-Err-Fault : goal.returns-in-Err-Fault
returns-in-Err-Fault c =
    let a = c.args in
    let f = c.in-Err-Fault in
    let none : c.default.result ≡ not_refused = search rules in
    rw (sym c.target_of.ensures ∙ c.in-Some.is) (fault_told c.in-Some.target c.in-Ok.list.target a.block.now c.in-Ok.list.ops a.context.now (held_in a.held.now) _
    f.kind f.index f.field-0 (Err f.field-0) c.in-Ok.ensures.found.0 c.in-Ok.ensures.found.1 f.field-0-is refl f.ensures (rw (c.fault_of_kind.ensures, none) refl))
