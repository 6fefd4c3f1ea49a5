use Rattle.dw_normal.proofs.{Words.{length, place_behind, rules_from}, RulesLeft.PutBefore}
use Rattle.dw_normal.proofs.program.push_difference.Given as goal

abbrev pub invariant-registers : goal.invariant-registers
invariant-registers l = PutBefore l.target (rules_from l.shared l.before l.after 0) (rules_from l.shared l.before l.after (place_behind l.last)) l.initial.out.items l.out.items

abbrev pub decreases-registers : goal.decreases-registers
decreases-registers l = length (rules_from l.shared l.before l.after (place_behind l.last))
