use Rattle.dw_normal.proofs.{Words.{◌∙◌, place_behind, refl, rules}, RegistersBehind.{Next, none_differs, one_differs}, RulesLeft.{put_behind, put_fits, put_next, put_ends, cfa_fits, rules_fit, shorter}, program.push_difference.Goals.In-Some}
use Rattle.dw_normal.proofs.program.push_difference.Goals as goal

next : (c : In-Some) → Next c.args.shared.now c.args.before.now c.args.after.now (place_behind c.registers.last) c.in-Some.register
next c = search (rules, one_differs, place_behind)

pub push_cfa-requires : goal.push_cfa-requires
push_cfa-requires c = cfa_fits c.args.target c.args.shared.now c.args.before.now c.args.after.now c.requires.fits.fits

pub registers-init : goal.registers-init
registers-init c = record { same = refl; fits = rules_fit c.args.target c.args.shared.now c.args.before.now c.args.after.now c.requires.fits.fits }

pub push_register-requires : goal.push_register-requires
push_register-requires c = put_fits c.registers.invariant (next (goal.at.push_register-requires c).In-Some)

pub registers-preserved : goal.registers-preserved
registers-preserved c = put_next c.registers.invariant (next (goal.at.registers-preserved c).In-Some) c.in_ok-push_register.ensures

pub registers-smaller : goal.registers-smaller
registers-smaller c = shorter (next (goal.at.registers-smaller c).In-Some)

pub returns : goal.returns
returns c = record {
  put =
      put_ends c.registers.invariant (none_differs c.args.shared.now c.args.before.now c.args.after.now (place_behind c.registers.last) c.in_default.ensures.first)
      ∙ put_behind c.args.target c.args.shared.now c.args.before.now c.args.after.now c.args.out.now.items c.push_cfa.new.out.items c.in_ok-push_cfa.ensures;
}
