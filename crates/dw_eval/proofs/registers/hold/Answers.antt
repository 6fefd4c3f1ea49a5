use Rattle.dw_eval.proofs.{Words.{◌≡◌, ℕ, Some, subst, arith, if◌then◌else◌, ◌==◌, any_held}, RegisterLaws.{far_put, near_put}}
use Rattle.dw_eval.proofs.registers.hold.Goals as goal

pub returns-then-index-lt-NEAR-clause-held : goal.returns-then-index-lt-NEAR-clause-held
returns-then-index-lt-NEAR-clause-held c =
    let a = c.args in
    let n = c.hold_near.new in
    let is : c.from-index.result ≡ a.register = omega (arith, c.from-index.ensures) in
    subst (λ (m : ℕ). (r : ℕ) → any_held n.known n.values a.far.now.items r ≡ (if r == m then Some a.value else any_held a.known.now a.values.now a.far.now.items r)) is
    (near_put a.known.now n.known a.values.now n.values a.far.now.items c.from-index.result a.value (omega (arith, c.if-index-lt-NEAR.true)) c.hold_near.ensures.held)

pub returns-clause-held : goal.returns-clause-held
returns-clause-held c =
    let a = c.args in
    let far = c.hold_far.new.far.items in
    let is : c.from-index.result ≡ a.register = omega (arith, c.from-index.ensures) in
    subst (λ (m : ℕ). (r : ℕ) → any_held a.known.now a.values.now far r ≡ (if r == m then Some a.value else any_held a.known.now a.values.now a.far.now.items r)) is
    (far_put a.known.now a.values.now a.far.now.items far c.from-index.result a.value (omega (arith, c.if-index-lt-NEAR.false)) c.in_ok-hold_far.ensures.held)
