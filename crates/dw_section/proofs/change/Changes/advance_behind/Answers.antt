use Rattle.dw_section.proofs.{Words.{◌≡◌, ℕ, Option, Some, ap, subst, Changing, Headers, LedTo, Section}, BehindCie.{all_shown, cie_shown}}
use Rattle.dw_section.proofs.change.Changes.advance_behind.Goals as goal

same : (c : goal.After-self-2-1) → ◌≡◌ {A = Section} (record { target = c.self.inside.target; bytes = c.self.inside.bytes.now }) c.args.self.now.section
same c = ap (λ (k : Changing). k.section) c.self.view_is

are : (c : goal.After-self-2-1) → Headers c.args.self.now.section.target c.args.self.now.section.bytes c.self.invariant.headers
are c = subst (λ (s : Section). Headers s.target s.bytes c.self.invariant.headers) (same c) c.self.invariant.are

-- the walk was led to the CIE at this place
led : (c : goal.After-self-2-1) → LedTo c.args.self.now.section.target c.self.invariant.headers (Some c.in-Some.cie_at) c.show_behind-shown.new.steps.led
led c =
    let w = c.self.inside.walks in
    rw (← same c, c.show_behind-shown.ensures.led) (subst (λ (place : Option ℕ). LedTo c.self.inside.target c.self.invariant.headers place w.walk.led) c.in-Some.is c.self.invariant.led.0)

pub returns-clause-changed : goal.returns-clause-changed
returns-clause-changed c =
    let shown = c.show_behind-shown in
    cie_shown c.args.self.now.section c.self.invariant.headers c.in-Some.cie_at shown.new.steps c.is_some-self-inside.result c.self.inside.kept (are c) (led c) c.if-not-self-2.true shown.new.changed c.in-Ok.behind
    (rw c.in-Ok.is at shown.ensures.cie) (rw c.in-Ok.is at shown.ensures.beside)

pub returns-clause-keeps : goal.returns-clause-keeps
returns-clause-keeps c =
    let shown = c.show_behind-shown in
    all_shown c.args.self.now.section c.self.invariant.headers c.in-Some.cie_at shown.new.steps c.is_some-self-inside.result c.self.inside.kept (are c) (led c) c.if-not-self-2.true c.self.inside.end c.in-Ok.behind
    (rw c.in-Ok.is at shown.ensures.keeps)
