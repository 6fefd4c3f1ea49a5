use Rattle.dw_unwind.proofs.Words.{◌≡◌, map, refl, sym, subst, ◌∙◌, inr, Rules, fde_in, IsLed}
use Rattle.dw_row.specs.declared.rule.CfaRule.TheVariants.{Unset}
use Rattle.dw_section.proofs.Lent.FdeLookup.{are_fdes}
use Rattle.dw_unwind.proofs.by_index.row_at.Goals as goal

pub returns-in-Unset-clause-lacks : goal.returns-in-Unset-clause-lacks
returns-in-Unset-clause-lacks c =
    let found = rw c.in-Ok-Some.field-0-is at c.in-Ok-Some.ensures.found in
    let fde = c.in-Ok-Some.fde in
    let led : IsLed c.args.target c.args.bytes.now c.args.index.now c.args.address fde.return_register c.look_up.new.room = record { at = found.0; leads = found.1; fde = fde; returns = refl; rules = found.2 } in
    inr (fde.return_register, c.look_up.new.room, led, subst (λ (row : Rules). row.cfa ≡ Unset) c.row.ensures (sym c.cfa_rule.ensures ∙ c.in-Unset.is))

pub returns-in-Ok-None-clause-own : goal.returns-in-Ok-None-clause-own
returns-in-Ok-None-clause-own c = λ t.
    let none = rw c.in-Ok-None.field-0-is at (c.in-Ok-None.ensures.own t) in
    let are = are_fdes c.args.target c.args.bytes.now c.args.index.now t in
    inr (refl, (map fde_in c.args.index.now, are, none (map fde_in c.args.index.now) are))

pub returns-in_default-clause-own : goal.returns-in_default-clause-own
returns-in_default-clause-own c = λ t.
    let own = rw c.in-Ok-Some.field-0-is at (c.in-Ok-Some.ensures.own t) in
    let found = rw c.in-Ok-Some.field-0-is at c.in-Ok-Some.ensures.found in
    let are = are_fdes c.args.target c.args.bytes.now c.args.index.now t in
    record {
      fdes = map fde_in c.args.index.now;
      are = are;
      fde = c.in-Ok-Some.fde;
      among = own.1 (map fde_in c.args.index.now) are;
      covers = found.2.covers;
      returns = refl;
      rules = own.0;
    }

pub returns-in_default-clause-led : goal.returns-in_default-clause-led
returns-in_default-clause-led c =
    let found = rw c.in-Ok-Some.field-0-is at c.in-Ok-Some.ensures.found in
    record { at = found.0; leads = found.1; fde = c.in-Ok-Some.fde; returns = refl; rules = found.2 }

pub returns-in_default-clause-fits : goal.returns-in_default-clause-fits
returns-in_default-clause-fits c = rw c.in-Ok-Some.field-0-is at (c.in-Ok-Some.ensures.fits)
