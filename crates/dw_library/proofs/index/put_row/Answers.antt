use Rattle.std.proofs.{lemmas.Bool.lt-leb, Common.le-leb}
use Rattle.std.specs.Prelude.{nat_le, if◌then◌else◌}
use Rattle.dw_library.specs.Index.{TellsFde, TellsRow, TellsRules, Told}
use Rattle.dw_library.proofs.{Words.{length, arith, ◌≡◌, ℕ, refl, sym, inl, inr, rules, IsTable}, index.put_row.Goals.After-told_row}
use Rattle.dw_section.specs.StandingFde.{Ruled}
use Rattle.dw_library.proofs.index.put_row.Goals as goal

abbrev told : After-told_row → ℕ → Told
told c status = record { status = status; row = c.told_row.result; rules = c.told_row.new.out }

-- what was found is told, by the index of a section and by any
tells : (c : After-told_row) → (status : ℕ) → status ≡ (if nat_le c.told_row.result.count (length c.args.out.now) then 0 else 4)
    → (IsTable c.args.target c.args.bytes.now c.args.index.now → TellsRules c.args.target c.args.bytes.now c.args.address c.args.out.now (told c status))
    × TellsFde c.args.target c.args.bytes.now c.args.index.now c.args.address c.args.out.now (told c status)
tells c status e =
    let is = rw c.in-Some.is at c.in_ok-found.ensures.found in
    let found : Ruled = record { fde = c.fde.result; row = c.row.result.now } in
    let row : TellsRow found c.args.out.now (told c status) = record { row = c.told_row.ensures.told; rules = c.told_row.ensures.rules; status = rw (sym c.told_row.ensures.told.count) e } in (
      λ t.
          let among = rw c.in-Some.is at (c.in_ok-found.ensures.own t) in
          let all = c.in_ok-run.ensures.own c.args.index.now (rw (sym is.0, sym is.1) at t) (rw (sym is.2) at is.3) in
          inl (found, rw is.2 at c.fde.ensures.covers, rw c.row.ensures (rw (is.0, is.1, is.2) at all), rw c.fde.ensures.is among, row),
      inl (found, c.in-Some.found.at, is.3, rw (c.row.ensures, c.fde.ensures.is) (rw (is.0, is.1, is.2) at c.in_ok-run.ensures.found), row),
    )

pub returns-in_default-clause-any : goal.returns-in_default-clause-any
returns-in_default-clause-any c = inr (rw c.in_default.is at c.in_ok-found.ensures.found, search rules)

pub returns-in_err-run-clause-refused : goal.returns-in_err-run-clause-refused
returns-in_err-run-clause-refused c =
    let is = rw c.in-Some.is at c.in_ok-found.ensures.found in
    search (rules, rw (is.0, is.1, is.2) at (c.in_err-run.ensures.refused c.args.index.now (rw (sym is.2) at is.3)))

pub returns-then-row-out-clause-own : goal.returns-then-row-out-clause-own
returns-then-row-out-clause-own c = let w = tells (goal.at.returns-then-row-out-clause-own c).After-told_row 0 (rw (le-leb c.told_row.result.count (length c.args.out.now) (omega (arith, c.if-row-out.true))) refl) in λ t. w.0 t

pub returns-then-row-out-clause-any : goal.returns-then-row-out-clause-any
returns-then-row-out-clause-any c = let w = tells (goal.at.returns-then-row-out-clause-any c).After-told_row 0 (rw (le-leb c.told_row.result.count (length c.args.out.now) (omega (arith, c.if-row-out.true))) refl) in w.1

pub returns-clause-own : goal.returns-clause-own
returns-clause-own c = let w = tells (goal.at.returns-clause-own c).After-told_row 4 (rw (lt-leb c.told_row.result.count (length c.args.out.now) (omega (arith, c.if-row-out.false))) refl) in λ t. w.0 t

pub returns-clause-any : goal.returns-clause-any
returns-clause-any c = let w = tells (goal.at.returns-clause-any c).After-told_row 4 (rw (lt-leb c.told_row.result.count (length c.args.out.now) (omega (arith, c.if-row-out.false))) refl) in w.1
