use Rattle.dw_section.proofs.{Words.{◌≡◌, ◌&&◌, ℕ, Bool, List, [], ◌∷◌, Option, Some, None, Decides, Decides-ltb, lt-ltb, le-ltb, nat_lt, refl, sym, ap, subst, ◌∙◌, Before, LocatedRow, Outcome, Refusal, finished, is_before}, ChangesAmong.before_tells}
use Rattle.dw_section.proofs.change.is_visible.Goals as goal

-- the test of the row that comes next, where one does
seen : (rows : List LocatedRow) (fault : Option Refusal) (next end start : ℕ) → fault ≡ None → ((row : LocatedRow) (more : List LocatedRow) → rows ≡ row ∷ more → Some next ≡ Some row.location)
    → ((let o : Outcome = record { rows = rows; fault = fault } in o) ≡ finished → Some next ≡ None) → (nat_lt start next && nat_lt start end) ≡ is_before end start rows
seen [] fault next end start none first last = let same : Some next ≡ None = last (ap (λ (f : Option Refusal). let o : Outcome = record { rows = []; fault = f } in o) none) in absurd cc
seen (row ∷ more) fault next end start none first last = let same : Some next ≡ Some row.location = first row more refl in let is : next ≡ row.location = cc in rw is refl

pub returns-then-start-next-clause-visible : goal.returns-then-start-next-clause-visible
returns-then-start-next-clause-visible c = λ fault.
    let o = c.args.steps.now.steps.outcome in
    let start = c.args.start in let end = c.args.end in
    let is = seen o.rows o.fault c.in-Some.next end start fault c.in-Some.ensures.next c.in-Some.ensures.last in
    subst (λ (b : Bool). Decides b (Before end start o.rows)) (sym (rw (lt-ltb start c.in-Some.next c.if-start-next.true) at is)) (before_tells end start o.rows)

pub returns-else-start-next-clause-visible : goal.returns-else-start-next-clause-visible
returns-else-start-next-clause-visible c = λ fault.
    let o = c.args.steps.now.steps.outcome in
    let start = c.args.start in let end = c.args.end in
    let is = seen o.rows o.fault c.in-Some.next end start fault c.in-Some.ensures.next c.in-Some.ensures.last in
    subst (λ (b : Bool). Decides b (Before end start o.rows)) (sym (le-ltb start c.in-Some.next c.if-start-next.false ∙ rw (le-ltb start c.in-Some.next c.if-start-next.false) at is)) (before_tells end start o.rows)

pub returns-in-None-clause-visible : goal.returns-in-None-clause-visible
returns-in-None-clause-visible c = λ fault.
    subst (λ (rows : List LocatedRow). Decides (nat_lt c.args.start c.args.end) (Before c.args.end c.args.start rows)) (sym (ap (λ (o : Outcome). o.rows) (c.in-None.ensures.none refl))) (Decides-ltb c.args.start c.args.end)
