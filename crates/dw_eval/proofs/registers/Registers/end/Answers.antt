use Rattle.dw_eval.proofs.{Words.{◌≡◌, ℕ, List, Option, None, length, sym, subst, held, any_held}, RegisterLaws.{first_count, view_end}}
use Rattle.dw_eval.proofs.registers.Registers.end.Goals as goal

pub returns-clause-exact : goal.returns-clause-exact
returns-clause-exact c =
    let i = c.self.inside in
    subst (λ (l : List (Option ℕ)). i.end ≡ length l) c.self.view_is (sym (first_count i.end (any_held i.known i.values i.far.items)))

pub returns-clause-beyond : goal.returns-clause-beyond
returns-clause-beyond c = λ r le.
    let i = c.self.inside in
    subst (λ (l : List (Option ℕ)). held l r ≡ None) c.self.view_is (view_end i.known i.values i.far.items i.end c.self.invariant r le)
