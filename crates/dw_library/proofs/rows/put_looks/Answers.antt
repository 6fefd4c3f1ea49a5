use Rattle.dw_library.proofs.{Words.{refl, arith, rules, rules_in}, Written.{wrote_more, written_left}}
use Rattle.dw_library.proofs.rows.put_looks.Goals as goal

pub addresses-preserved : goal.addresses-preserved
addresses-preserved c =
    let w = c.addresses.invariant.wrote in
    let lt = c.addresses-test.true in
    let end = c.addresses.auto.place-end in
    let got = c.in-Ok.ensures.look in
    let before = rules_in w.looks in
    let now = c.addresses.rules in
    let written = written_left before got.0.rules c.args.rules.now now c.put_look.new.rules _ (search rules) w.rules_are got.3 in
    record {
      wrote = wrote_more w got.0 (omega (arith, lt, end)) (omega (arith, lt, end, c.requires.rows)) got.1 got.2 written got.4 (search rules);
      done = refl;
    }
