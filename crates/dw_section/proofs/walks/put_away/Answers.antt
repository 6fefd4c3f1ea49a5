use Rattle.dw_section.proofs.Words.{ℕ, List, subst, inl, inr, Some, Result, Ok, Err, OnOk, OnErr, nat_cmp, cases_Bool, Walking, AreAway, Head, LedTo, Target, BTreeMap}
use Rattle.std.specs.BTreeMap.{is_at, IsUnchanged, Updates}
use Rattle.std.proofs.lemmas.Map.{Lookups.exact_unsigned, Views.tells_apart}
use Rattle.dw_section.proofs.walks.put_away.Goals as goal

-- of a walk that is put at its CIE's place and of all others, and of all where none was put there
led_then : {A E : Type 0} (target : Target) (hs : List Head) (old new : BTreeMap ℕ Walking) (left : ℕ) (walk : Walking) (r : Result A E) → OnOk r (Updates nat_cmp old new left (Some walk)) → OnErr r (IsUnchanged old new)
    → LedTo target hs (Some left) walk.led → AreAway target hs old → AreAway target hs new
led_then target hs old new left walk (Ok a) is other led all = λ place. elim (cases_Bool (is_at (nat_cmp left) place)) [
  | inl e ↦ rw (is.0 place, e) (subst (λ (n : ℕ). LedTo target hs (Some n) walk.led) (tells_apart exact_unsigned left place e) led)
  | inr e ↦ rw (is.0 place, e) (all place)
]
led_then target hs old new left walk (Err e) put same led all = λ place. rw same (all place)

pub returns : goal.returns
returns c = λ target hs led all. led_then target hs c.args.away.now c.insert.new.self c.args.place c.args.walk c.insert.result c.insert.ensures.updates c.insert.ensures.err led all
