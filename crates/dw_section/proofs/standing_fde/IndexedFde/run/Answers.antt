use Rattle.dw_section.proofs.Words.{◌≤◌, None, inr, refl, sym, subst, ◌∙◌, arith, err_from_is_err_and, Outcome, entry_head, initial_head, RulesAt, RulesOf, some_is, one_run, span_of, input_of, address_limit, range_in}
use Rattle.dw_section.proofs.{Lent.FdeLookup.led_to, RowLookup.runs_so, StandLaws.{listed_stands, stands_in_space}, StandFaults.{no_refusal, refuses_so, programs_within}, StandFits.standing_fits, standing_fde.IndexedFde.run.Goals.In_ok-run_to}
use Rattle.dw_section.proofs.standing_fde.IndexedFde.run.Goals as goal

pub returns-in_err-run_to-clause-own : goal.returns-in_err-run_to-clause-own
returns-in_err-run_to-clause-own c = rw (← c.self.view_is) (λ index t leads.
    let f = c.self.inside in
    let same = listed_stands f.target f.bytes.now t.indexed.headers (range_in leads.0) leads.0.return_register f.found t.indexed.hold.0.0.0 (led_to _ _ _ _ _ t leads) c.self.invariant.0 leads.3 in
    let runs = runs_so f.target f.bytes.now t.indexed.headers t.indexed.hold f.found same.found c.are_bytes.ensures in
    let e = err_from_is_err_and c.from_residual.result c.from_residual.ensures.1 in
    let all : Outcome = record { rows = runs.rows; fault = None } in
    let none = no_refusal c.in_err-run_to.field-0.0 None (c.in_err-run_to.ensures.err all (inr runs.give)) refl in
    rw (e.1, e.2, none) refl)

pub returns-in_err-run_to-clause-refused : goal.returns-in_err-run_to-clause-refused
returns-in_err-run_to-clause-refused c = rw (← c.self.view_is) (λ index leads.
    let f = c.self.inside in
    let e = err_from_is_err_and c.from_residual.result c.from_residual.ensures.1 in
    rw (e.1, e.2) (refuses_so _ _ c.in_err-run_to.field-0.0
    (λ r fault. inr (c.self.invariant.2, (f.found.own.at, leads, inr (entry_head f.found.own, initial_head f.found.cie, c.self.invariant.0, refl, c.self.invariant.1.0, c.self.invariant.1.1, fault)))) c.in_err-run_to.ensures.up_to))

pub returns-in_err-run_to-clause-within : goal.returns-in_err-run_to-clause-within
returns-in_err-run_to-clause-within c = rw (← c.self.view_is)
    (let f = c.self.inside in
    let w = err_from_is_err_and c.from_residual.result c.from_residual.ensures.1 in
    rw (w.1, w.2) (programs_within f.target f.bytes.now f.found c.self.invariant.0 c.are_bytes-2.ensures c.are_bytes-3.ensures (omega (arith, stands_in_space f.target f.bytes.now f.found c.self.invariant.0)) c.in_err-run_to.field-0.0 c.in_err-run_to.ensures.err))

ruled : (c : In_ok-run_to) → RulesOf c.args.self.now.target c.args.self.now.bytes c.args.self.now.at c.args.self.now.address (record { fde = c.args.self.now.fde; row = c.run_to.new.self })
ruled c =
    let f = c.self.inside in
    let e = f.found in
    let le : e.own.begin ≤ address_limit f.target.size = omega (arith, stands_in_space f.target f.bytes.now e c.self.invariant.0) in
    let runs = one_run e.cie.factors (input_of f.target (span_of e.cie.program)) (input_of f.target (span_of e.own.program)) e.own.begin c.are_bytes-2.ensures c.are_bytes-3.ensures le in
    rw (← c.self.view_is) (record {
      own = entry_head e.own;
      named = initial_head e.cie;
      stands = c.self.invariant.0;
      place = refl;
      begin = refl;
      end = refl;
      return_register = refl;
      covers = c.self.invariant.1;
      outcome = runs.0;
      runs = runs.1;
      row = c.in_ok-run_to.ensures.found runs.0 runs.1;
      unfaulted = c.in_ok-run_to.ensures.none;
    })

pub returns-clause-found : goal.returns-clause-found
returns-clause-found c = ruled (goal.at.returns-clause-found c).In_ok-run_to

pub returns-clause-fits : goal.returns-clause-fits
returns-clause-fits c = standing_fits _ _ _ _ _ (ruled (goal.at.returns-clause-fits c).In_ok-run_to)

pub returns-clause-own : goal.returns-clause-own
returns-clause-own c = rw (← c.self.view_is) (λ index t leads.
    let f = c.self.inside in
    let same = listed_stands f.target f.bytes.now t.indexed.headers (range_in leads.0) leads.0.return_register f.found t.indexed.hold.0.0.0 (led_to _ _ _ _ _ t leads) c.self.invariant.0 leads.3 in
    let runs = runs_so f.target f.bytes.now t.indexed.headers t.indexed.hold f.found same.found c.are_bytes.ensures in
    let row = runs.rules f.address c.self.invariant.1.0 c.self.invariant.1.1 in
    let one = some_is row.0 c.run_to.new.self (sym row.1 ∙ c.in_ok-run_to.ensures.found (record { rows = runs.rows; fault = None }) (inr runs.give)) in
    subst (RulesAt f.target f.bytes.now f.address) one row.2)
