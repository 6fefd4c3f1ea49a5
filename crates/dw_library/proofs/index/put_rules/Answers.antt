use Rattle.dw_library.proofs.{Words.{rules, ◌∙◌, sym, to_z-of_z, w64}, Overlays.{overlaid_more, overlaid_all}}
use Rattle.dw_library.proofs.index.put_rules.Goals as goal

pub rules-preserved-in-Some : goal.rules-preserved-in-Some
rules-preserved-in-Some c =
    overlaid_more c.rules.invariant c.in-Some.ensures.next (rw (to_z-of_z w64 c.in-Some.offset (search rules)) at c.told_rule.ensures) (search rules) c.put_at.ensures.inside c.put_at.ensures.outside

pub rules-preserved : goal.rules-preserved
rules-preserved c =
    overlaid_more c.rules.invariant (sym c.in_default.ensures.next ∙ c.in-Some-next.ensures.steps) c.any_rule.ensures.told c.any_rule.ensures.fits c.put_at-in-rules.ensures.inside c.put_at-in-rules.ensures.outside

pub returns-in_default-next-clause-rules : goal.returns-in_default-next-clause-rules
returns-in_default-next-clause-rules c = overlaid_all c.rules.invariant (sym c.in_default.ensures.next ∙ c.in_default-next.ensures.steps.0)
