use Rattle.dw_eval.proofs.{Words.{◌≡◌, ◌∙◌, ℕ, List, Option, sym, subst, held}, RegisterLaws.view_holds}
use Rattle.dw_eval.proofs.registers.Registers.get.Goals as goal

pub returns : goal.returns
returns c =
    let i = c.self.inside in
    subst (λ (l : List (Option ℕ)). c.value_of.result ≡ held l c.args.register) c.self.view_is
    (c.value_of.ensures ∙ sym (view_holds i.known i.values i.far.items i.end c.self.invariant c.args.register))
