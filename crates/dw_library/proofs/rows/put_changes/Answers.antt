use Rattle.dw_library.proofs.{Words.{◌≡◌, ℕ, List, ◌∷◌, [], ◌++◌, ◌∙◌, Some, ap, append-nil, subst, sym, append_snoc, err_from_is_err_and, Option, Rules, AreWritten}, Changed.{next_given, none_given}}
use Rattle.dw_num.specs.{Refusals.Refuses, declared.refusal.Refusal.Refusal}
use Rattle.dw_library.proofs.rows.put_changes.Goals as goal

pub told-preserved : goal.told-preserved
told-preserved c =
    let inv = c.told.invariant in
    let new = c.advance.new.self in
    let next = next_given c.told.changes new c.in_ok-address.field-0 c.in-Some.address c.in_ok-address.ensures c.in-Some.is in
    let x : ℕ × Rules = (c.in-Some.address, c.row.result.now) in (
      next.0 ∙ inv.0,
      λ none.
          let before = inv.1 none in
          let steps : c.told.changes.to_come ≡ x ∷ new.to_come = next.2 (inv.0 ∙ none) ∙ ap (λ (r : Rules). (c.in-Some.address, r) ∷ new.to_come) (sym c.row.ensures) in (
            before.0 ++ x ∷ [],
            append_snoc before.0 x new.to_come ∙ ap (λ (l : List (ℕ × Rules)). before.0 ++ l) (sym steps) ∙ before.1,
            c.put_change-totals.ensures before.0 c.args.out.now c.args.rules.now before.2,
          ),
    )

pub told-smaller : goal.told-smaller
told-smaller c = (next_given c.told.changes c.advance.new.self c.in_ok-address.field-0 c.in-Some.address c.in_ok-address.ensures c.in-Some.is).1

pub returns-in_err-address-clause-refused : goal.returns-in_err-address-clause-refused
returns-in_err-address-clause-refused c =
    let e = err_from_is_err_and c.from_residual.result c.from_residual.ensures.1 in
    rw (e.1, e.2) (subst (λ (x : Option Refusal). Refuses (λ r. x ≡ Some r) c.in_err-address.field-0.0) c.told.invariant.0 c.in_err-address.ensures)

pub returns-clause-written : goal.returns-clause-written
returns-clause-written c =
    let inv = c.told.invariant in
    let end = none_given c.told.changes c.advance.new.self c.in_ok-address.field-0 c.in_ok-address.ensures c.in_default.is in
    let none = sym inv.0 ∙ end.0 in
    let all = inv.1 none in
    let whole : all.0 ≡ c.args.changes.now.to_come = sym (append-nil all.0) ∙ ap (λ (l : List (ℕ × Rules)). all.0 ++ l) (sym end.1) ∙ all.1 in
    (none, subst (λ (l : List (ℕ × Rules)). AreWritten c.args.fde l c.args.out.now c.args.rules.now c.told.out c.told.rules c.told.totals) whole all.2)
