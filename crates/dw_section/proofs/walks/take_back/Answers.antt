use Rattle.dw_section.proofs.Words.{ℕ, List, None, inl, inr, nat_cmp, cases_Bool, Walking, AreAway, Head, Target, BTreeMap}
use Rattle.std.specs.BTreeMap.{is_at, Updates}
use Rattle.dw_section.proofs.walks.take_back.Goals as goal

led_still : (target : Target) (hs : List Head) (old new : BTreeMap ℕ Walking) (place : ℕ) → Updates nat_cmp old new place None → AreAway target hs old → AreAway target hs new
led_still target hs old new place is all = λ other. elim (cases_Bool (is_at (nat_cmp place) other)) [ inl e ↦ rw (is.0 other, e) tt | inr e ↦ rw (is.0 other, e) (all other) ]

pub returns-in-Some-clause-away : goal.returns-in-Some-clause-away
returns-in-Some-clause-away c = λ hs all. led_still c.args.target hs c.args.away.now c.remove.new.self c.args.place c.remove.ensures.updates all

pub returns-in-None-clause-away : goal.returns-in-None-clause-away
returns-in-None-clause-away c = λ hs all. led_still c.args.target hs c.args.away.now c.remove.new.self c.args.place c.remove.ensures.updates all
