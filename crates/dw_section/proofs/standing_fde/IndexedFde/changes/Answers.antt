use Rattle.dw_section.proofs.Words.{◌≡◌, ◌<◌, ◌+◌, ◌∙◌, None, ℕ, Option, Refusal, inr, ap, subst, sym, arith, ChangesOf, IfSome, IsWithin, Led, Outcome, RunsSo, RunsTo, Stepping, fde_of, program_input, changes_among, range_in}
use Rattle.dw_section.proofs.{Lent.FdeLookup.led_to, StandChanges.{changes_own, changes_stand, fault_within, unanswered, whole_fault}, StandLaws.listed_stands, standing_fde.IndexedFde.changes.Goals.After-from-2}
use Rattle.dw_section.specs.{StandingChanges.StandingChanges, Inner.Changes.fault_of}
use Rattle.dw_section.proofs.standing_fde.IndexedFde.changes.Goals as goal

module _ (c : After-from-2) where
  abbrev o : Outcome
  o = c.go_to.new.self.steps.outcome

  runs : RunsSo c.self.inside.target c.self.inside.found o
  runs = let own = c.self.inside.found.own in subst (λ (l : Led). RunsTo l.factors l.program (program_input own.program l.program.target) own.begin o) c.lead.ensures.led c.go_to.ensures.runs

  fault : fault_of c.go_to.new.self.steps ≡ o.fault
  fault = unanswered c.go_to.new.self.steps (ap (λ (x : Stepping). x.error) c.go_to.ensures.steps)

  some : 0 < c.self.inside.found.own.range
  some = omega (arith, c.self.invariant.1.0, c.self.invariant.1.1)

  ends : c.self.inside.found.own.begin + c.self.inside.found.own.range ≡ c.from.result + c.from-2.result
  ends = omega (arith, c.from.ensures, c.from-2.ensures)

pub returns-clause-own : goal.returns-clause-own
returns-clause-own c = rw (← c.self.view_is) (λ index t leads.
    let w = (goal.at.returns-clause-own c).After-from-2 in
    let f = c.self.inside in
    let same = listed_stands f.target f.bytes.now t.indexed.headers (range_in leads.0) leads.0.return_register f.found t.indexed.hold.0.0.0 (led_to _ _ _ _ _ t leads) c.self.invariant.0 leads.3 in
    let own = changes_own f.target f.bytes.now f.found c.self.invariant.0 c.are_bytes-2.ensures c.are_bytes-3.ensures (o w) (runs w) c.are_bytes.ensures t.indexed.headers t.indexed.hold same.found (some w) in
    (fault w ∙ own.0, subst (λ (n : ℕ). ChangesOf f.target f.bytes.now (fde_of f.found) (changes_among n None (o w).rows)) (ends w) own.1))

pub returns-clause-found : goal.returns-clause-found
returns-clause-found c = rw (← c.self.view_is) (λ none.
    let w = (goal.at.returns-clause-found c).After-from-2 in
    let f = c.self.inside in
    let found = changes_stand f.target f.bytes.now f.found c.self.invariant.0 c.are_bytes-2.ensures c.are_bytes-3.ensures (o w) (runs w) (some w) (sym (fault w) ∙ none) in
    subst (λ (n : ℕ). StandingChanges f.target f.bytes.now f.found.own.at (fde_of f.found) (changes_among n None (o w).rows)) (ends w) found)

pub returns-clause-refused : goal.returns-clause-refused
returns-clause-refused c = rw (← c.self.view_is) (λ index leads r is.
    let w = (goal.at.returns-clause-refused c).After-from-2 in
    let f = c.self.inside in
    inr (f.found.own.at, leads, whole_fault f.target f.bytes.now f.found c.self.invariant.0 c.are_bytes-2.ensures c.are_bytes-3.ensures (o w) (runs w) f.address c.self.invariant.1.0 c.self.invariant.1.1 r (sym (fault w) ∙ is)))

pub returns-clause-within : goal.returns-clause-within
returns-clause-within c = rw (← c.self.view_is)
    (let w = (goal.at.returns-clause-within c).After-from-2 in
    let f = c.self.inside in
    subst (λ (x : Option Refusal). IfSome x (IsWithin f.bytes.now)) (sym (fault w)) (fault_within f.target f.bytes.now f.found c.self.invariant.0 c.are_bytes-2.ensures c.are_bytes-3.ensures (o w) (runs w)))
