use Rattle.dw_section.proofs.Words.{◌≡◌, ◌+◌, ◌∙◌, ap, arith, subst, sym, AreBytes, Changing, ChangesOf, IsAmong, IsFoundIn, List, LocatedRow, Section, changes_among, fde_of, initial_in, initial_head, led_by, Led, LedTo, None, Option}
use Rattle.dw_section.proofs.{Words.{Head, Outcome, RunsTo, Stepping, cie, inr, one_run, program_input, span_of, input_of, ℕ}, Lent.{HeaderLaws.one_headers, Heads.{cie_or, heads_rise, one_among}}, RowLookup.{Runs, runs_so}, StandChanges.unanswered, table.Table.go_on.Goals.After-are_bytes-2}
use Rattle.dw_section.proofs.table.Table.go_on.Goals as goal

module _ (c : After-are_bytes-2) where
  abbrev here : Section
  here = record { target = c.changes.inside.target; bytes = c.changes.inside.bytes.now }

  same : here ≡ c.args.self.now
  same = ap (λ (k : Changing). k.section) c.changes.view_is ∙ c.requires.section

  is_found : IsFoundIn here.target here.bytes c.found-found.result
  is_found = subst (λ (s : Section). IsFoundIn s.target s.bytes c.found-found.result) (sym same) c.found-found.ensures.found

  runs : Runs here.target here.bytes c.found-found.result
  runs = runs_so here.target here.bytes is_found.headers is_found.hold c.found-found.result is_found.is (subst (λ (s : Section). AreBytes s.bytes) (sym same) c.accepted.ensures.bytes)

  among : IsAmong (initial_in c.found-found.result.cie) c.changes.invariant.headers
  among =
      let hs = c.changes.invariant.headers in
      subst (IsAmong (initial_in c.found-found.result.cie)) (one_headers here.target here.bytes is_found.headers hs is_found.hold.0.0.0 c.changes.invariant.are) is_found.is.named

  abbrev RunsBy : Led → Outcome → Type 0
  RunsBy l o = let own = c.found-found.result.own in RunsTo l.factors l.program (program_input own.program l.program.target) own.begin o

  -- the walk was led to the FDE's CIE
  led : c.lead.new.self.walk.led ≡ led_by here.target (initial_head c.found-found.result.cie)
  led =
      let hs = c.changes.invariant.headers in
      let named = initial_head c.found-found.result.cie in
      let by = subst (λ (at : Option ℕ). LedTo here.target hs at c.lead.new.self.walk.led) c.lead.ensures.at (c.lead.ensures.led hs among c.changes.invariant.led).0 in
      by.3 ∙ ap (λ (h : Head). led_by here.target (cie_or named h)) (one_among 0 hs (cie by.0) (cie named) (heads_rise here.target here.bytes hs c.changes.invariant.are) by.1 among by.2)

  -- so its rows are those of the FDE
  ran : (o : Outcome) → RunsBy c.lead.new.self.walk.led o → o ≡ record { rows = runs.rows; fault = None }
  ran o to =
      let e = c.found-found.result in
      let one = one_run e.cie.factors (input_of here.target (span_of e.cie.program)) (input_of here.target (span_of e.own.program)) e.own.begin c.are_bytes.ensures c.are_bytes-2.ensures (omega (arith, runs.in_space)) in
      one.2 o (subst (λ (l : Led). RunsBy l o) led to) ∙ sym (one.2 (record { rows = runs.rows; fault = None }) (inr runs.give))

pub go_to-requires : goal.go_to-requires
go_to-requires c = let w = (goal.at.go_to-requires c).After-are_bytes-2 in rw (led w) (runs w).in_space

pub invariant_of-changes : goal.invariant_of-changes
invariant_of-changes c =
    let w = (goal.at.invariant_of-changes c).After-are_bytes-2 in
    record {
      no_fault = unanswered c.go_to.new.self.steps (ap (λ (x : Stepping). x.error) c.go_to.ensures.steps) ∙ ap (λ (o : Outcome). o.fault) (ran w c.go_to.new.self.steps.outcome c.go_to.ensures.runs);
      headers = c.changes.invariant.headers;
      are = c.changes.invariant.are;
      led = rw c.go_to.ensures.led (c.lead.ensures.led c.changes.invariant.headers (among w) c.changes.invariant.led);
    }

pub returns-clause-section : goal.returns-clause-section
returns-clause-section c = same (goal.at.returns-clause-section c).After-are_bytes-2

pub returns-clause-changes : goal.returns-clause-changes
returns-clause-changes c =
    let w = (goal.at.returns-clause-changes c).After-are_bytes-2 in
    let e = c.found-found.result in
    let end = c.from.result + c.from-2.result in
    let ends : e.own.begin + e.own.range ≡ end = omega (arith, c.from.ensures, c.from-2.ensures) in
    let given = subst (λ (n : ℕ). ChangesOf (here w).target (here w).bytes (fde_of e) (changes_among n None (runs w).rows)) ends ((runs w).changes c.found-found.ensures.found.some) in
    let mine = subst (λ (rows : List LocatedRow). ChangesOf (here w).target (here w).bytes (fde_of e) (changes_among end None rows)) (sym (ap (λ (o : Outcome). o.rows) (ran w c.go_to.new.self.steps.outcome c.go_to.ensures.runs))) given in
    λ fs are d. rw (← c.found-found.ensures.listed fs are d) (subst (λ (s : Section). ChangesOf s.target s.bytes (fde_of e) (changes_among end None c.go_to.new.self.steps.outcome.rows)) (same w) mine)
