-- A walk over a block, and the parts that it reads.
use Rattle.dw_op.specs.Inner.Walks.{ended, put, on_read, on_left, walked_by}
use Rattle.dw_op.proofs.Words.{◌≡◌, ℕ, zero, suc, ◌+◌, ◌-◌, ◌<◌, ◌≤◌, true, List, [], ◌∷◌, ◌++◌, length, Option, Some, None, Ok, Err, refl, sym, ap, subst, ◌∙◌, append_assoc, arith, length-append, nil_from_length, bind_ok, cond_ok}
use Rattle.dw_op.proofs.Words.{Input, AreBytes, Takes, Read, fixed_at, done, taken_bytes, Profile, Frame, Location, OpForm, Step, judged, step_of, after_code, form_of, form_in_frame, joined, step_at, StepSpells, step_allowed}
use Rattle.dw_op.proofs.{Words.{NotInFrame, Refusal, Target, PlacedStep, item_of, Walk, walk}, Lent.ReadingLaws.step_found, ReadingAgain.step_again}

abbrev after_item : ℕ → Step → Walk → Walk
after_item at step w = put (item_of at step) w

-- in at most n steps
abbrev pub walk_by : Profile → ℕ → Input → Walk
walk_by profile n i = walked_by (step_at profile) item_of n i

-- a part spells this step, which the profile has
pub record Spelled (profile : Profile) (t : Target) (step : Step) (part : List ℕ) : Type 0 where
  pub spells : StepSpells t step part
  pub allowed : step_allowed profile step ≡ true
  pub some : 0 < length part

pub spelled : (profile : Profile) (t : Target) (step : Step) (part : List ℕ) → StepSpells t step part → step_allowed profile step ≡ true → Spelled profile t step part
unfolding step_at fixed_at
spelled profile t step [] h allowed = let e = step_again t profile step [] h allowed 0 [] in absurd cc
spelled profile t step (b ∷ part) h allowed = record { spells = h; allowed = allowed; some = omega arith }

-- each part spells its step
abbrev pub EachSpells : Profile → Target → List Step → List (List ℕ) → Type 0
EachSpells profile t [] [] = Unit {0}
EachSpells profile t [] (part ∷ parts) = ⊥
EachSpells profile t (step ∷ steps) [] = ⊥
EachSpells profile t (step ∷ steps) (part ∷ parts) = Spelled profile t step part × EachSpells profile t steps parts

-- the items of steps that these parts spell, from a place on
abbrev pub items_from : ℕ → List Step → List (List ℕ) → List PlacedStep
items_from at [] parts = []
items_from at (step ∷ steps) [] = []
items_from at (step ∷ steps) (part ∷ parts) = item_of at step ∷ items_from (at + length part) steps parts

abbrev pub input : ℕ → List ℕ → Target → Input
input at bytes t = record { at = at; bytes = bytes; target = t }

-- what follows is nothing, or is read as no operation
abbrev pub Ends : Profile → Input → Option Refusal → Type 0
Ends profile i None = i.bytes ≡ []
Ends profile i (Some r) = (0 < length i.bytes) × (step_at profile i ≡ Err r)

pub record Split (profile : Profile) (i : Input) (w : Walk) : Type 0 where
  pub steps : List Step
  pub parts : List (List ℕ)
  pub rest : List ℕ
  pub each : EachSpells profile i.target steps parts
  pub items : w.items ≡ items_from i.at steps parts
  pub whole : i.bytes ≡ joined parts ++ rest
  pub ends : Ends profile (input (i.at + length (joined parts)) rest i.target) w.fault

pub new_is : (i new : Input) (b : List ℕ) → Takes i b new → new ≡ input (i.at + length b) new.bytes i.target
new_is i new b t = ap (λ (n : ℕ). input n new.bytes new.target) t.at ∙ ap (λ (g : Target). input (i.at + length b) new.bytes g) t.target

same_place : (i : Input) → i ≡ input (i.at + 0) i.bytes i.target
same_place i = ap (λ (n : ℕ). input n i.bytes i.target) (omega arith)

-- one part more in front
more_split : (profile : Profile) (i : Input) (step : Step) (part bytes : List ℕ) (w : Walk) → Spelled profile i.target step part → i.bytes ≡ part ++ bytes
    → Split profile (input (i.at + length part) bytes i.target) w → Split profile i (after_item i.at step w)
more_split profile i step part bytes w h e s = record {
  steps = step ∷ s.steps;
  parts = part ∷ s.parts;
  rest = s.rest;
  each = (h, s.each);
  items = ap (λ (l : List PlacedStep). item_of i.at step ∷ l) s.items;
  whole = e ∙ ap (λ (l : List ℕ). part ++ l) s.whole ∙ sym (append_assoc part (joined s.parts) s.rest);
  ends = subst (λ (n : ℕ). Ends profile (input n s.rest i.target) w.fault) (omega (arith, length-append part (joined s.parts))) s.ends;
}

abbrev SplitBelow : Profile → ℕ → Type 0
SplitBelow profile n = (i : Input) → length i.bytes ≤ n → AreBytes i.bytes → Split profile i (walk_by profile n i)

read_split : (profile : Profile) (n : ℕ) (i : Input) (bytes : List ℕ) (r : Read Step) → SplitBelow profile n → length i.bytes ≤ suc n → AreBytes i.bytes → i.bytes ≡ bytes → step_at profile i ≡ r
    → Split profile i (on_left bytes (on_read r (λ e. ended (Some e)) (λ x. after_item i.at x.0 (walk_by profile n x.1))))
read_split profile n i [] r more le h is e = record { steps = []; parts = []; rest = []; each = tt; items = refl; whole = is; ends = refl }
read_split profile n i (b ∷ bytes) (Err r) more le h is e = record {
  steps = [];
  parts = [];
  rest = i.bytes;
  each = tt;
  items = refl;
  whole = refl;
  ends = subst (λ (j : Input). (0 < length j.bytes) × (step_at profile j ≡ Err r)) (same_place i) (omega (arith, ap length is), e);
}
read_split profile n i (b ∷ bytes) (Ok x) more le h is e =
    let found = step_found profile i x.1 x.0 h e in
    let place = new_is i x.1 found.part found.taken in
    let shorter : length i.bytes ≡ length found.part + length x.1.bytes = ap length found.taken.bytes ∙ length-append found.part x.1.bytes in
    let rest = more (input (i.at + length found.part) x.1.bytes i.target) (omega (arith, found.some)) (taken_bytes i x.1 found.part found.taken h) in
    subst (λ (j : Input). Split profile i (after_item i.at x.0 (walk_by profile n j))) (sym place)
    (more_split profile i x.0 found.part x.1.bytes (walk_by profile n (input (i.at + length found.part) x.1.bytes i.target)) (record { spells = found.spells; allowed = found.allowed; some = found.some }) found.taken.bytes rest)

pub split_by : (profile : Profile) (n : ℕ) (i : Input) → length i.bytes ≤ n → AreBytes i.bytes → Split profile i (walk_by profile n i)
unfolding walked_by
split_by profile zero i le h = record { steps = []; parts = []; rest = []; each = tt; items = refl; whole = nil_from_length i.bytes (omega arith); ends = refl }
split_by profile (suc n) i le h = read_split profile n i i.bytes (step_at profile i) (λ j l k. split_by profile n j l k) le h refl refl

-- the parts that a walk reads
pub split_of : (profile : Profile) (i : Input) → AreBytes i.bytes → Split profile i (walk profile i)
unfolding walk
split_of profile i h = split_by profile (length i.bytes) i (omega arith) h

-- ---- parts that are walked

on_some : (bytes : List ℕ) (w : Walk) → 0 < length bytes → on_left bytes w ≡ w
on_some [] w h = absurd (omega arith)
on_some (b ∷ bytes) w h = refl

step_walk_by : (profile : Profile) (n : ℕ) (i : Input) (x : Step × Input) → 0 < length i.bytes → step_at profile i ≡ done x → walk_by profile (suc n) i ≡ after_item i.at x.0 (walk_by profile n x.1)
unfolding walked_by
step_walk_by profile n i x some e = rw (on_some i.bytes _ some, e) refl

stuck_walk_by : (profile : Profile) (n : ℕ) (i : Input) (r : Refusal) → 0 < length i.bytes → step_at profile i ≡ Err r → walk_by profile (suc n) i ≡ ended (Some r)
unfolding walked_by
stuck_walk_by profile n i r some e = rw (on_some i.bytes _ some, e) refl

end_walk_by : (profile : Profile) (n at : ℕ) (t : Target) → walk_by profile n (input at [] t) ≡ ended None
unfolding walked_by
end_walk_by profile zero at t = refl
end_walk_by profile (suc n) at t = refl

ends_walk_by : (profile : Profile) (n at : ℕ) (rest : List ℕ) (t : Target) (f : Option Refusal) → length rest ≤ n → Ends profile (input (at + 0) rest t) f → walk_by profile n (input at rest t) ≡ ended f
ends_walk_by profile n at rest t None le h = subst (λ (l : List ℕ). walk_by profile n (input at l t) ≡ ended None) (sym h) (end_walk_by profile n at t)
ends_walk_by profile zero at rest t (Some r) le h = absurd (omega (arith, h.0))
ends_walk_by profile (suc n) at rest t (Some r) le h = stuck_walk_by profile n (input at rest t) r h.0 (subst (λ (j : Input). step_at profile j ≡ Err r) (sym (same_place (input at rest t))) h.1)

pub joined_walk_by : (profile : Profile) (t : Target) (steps : List Step) (parts : List (List ℕ)) (n at : ℕ) (rest : List ℕ) (f : Option Refusal) → EachSpells profile t steps parts
    → length (joined parts ++ rest) ≤ n → Ends profile (input (at + length (joined parts)) rest t) f
    → walk_by profile n (input at (joined parts ++ rest) t) ≡ record { items = items_from at steps parts; fault = f }
joined_walk_by profile t [] [] n at rest f h le ends = ends_walk_by profile n at rest t f le ends
joined_walk_by profile t (step ∷ steps) (part ∷ parts) zero at rest f h le ends = absurd (omega (arith, h.0.some, length-append (part ++ joined parts) rest, length-append part (joined parts)))
joined_walk_by profile t (step ∷ steps) (part ∷ parts) (suc n) at rest f h le ends =
    let more = joined parts ++ rest in
    let same : (part ++ joined parts) ++ rest ≡ part ++ more = append_assoc part (joined parts) rest in
    let len : length ((part ++ joined parts) ++ rest) ≡ length part + length more = ap length same ∙ length-append part more in
    let read = step_again t profile step part h.0.spells h.0.allowed at more in
    let place : at + length (part ++ joined parts) ≡ (at + length part) + length (joined parts) = omega (arith, length-append part (joined parts)) in
    let later = joined_walk_by profile t steps parts n (at + length part) rest f h.1 (omega (arith, h.0.some)) (subst (λ (m : ℕ). Ends profile (input m rest t) f) place ends) in
    ap (λ (l : List ℕ). walk_by profile (suc n) (input at l t)) same
    ∙ step_walk_by profile n (input at (part ++ more) t) (step, input (at + length part) more t) (omega (arith, h.0.some, length-append part more)) read
    ∙ ap (λ (w : Walk). after_item at step w) later
joined_walk_by profile t steps parts n at rest f h le ends = absurd h

pub joined_walk : (profile : Profile) (t : Target) (steps : List Step) (parts : List (List ℕ)) (at : ℕ) (rest : List ℕ) (f : Option Refusal) → EachSpells profile t steps parts
    → Ends profile (input (at + length (joined parts)) rest t) f
    → walk profile (input at (joined parts ++ rest) t) ≡ record { items = items_from at steps parts; fault = f }
unfolding walk
joined_walk profile t steps parts at rest f h ends = joined_walk_by profile t steps parts (length (joined parts ++ rest)) at rest f h (omega arith) ends

-- ---- one operation further

-- enough steps are as good as more
walk_enough : (profile : Profile) (n : ℕ) (i : Input) → length i.bytes ≤ n → AreBytes i.bytes → walk_by profile n i ≡ walk profile i
walk_enough profile n i le h =
    let s = split_of profile i h in
    let w = walk profile i in
    let is : i ≡ input i.at (joined s.parts ++ s.rest) i.target = ap (λ (l : List ℕ). input i.at l i.target) s.whole in
    let a = joined_walk_by profile i.target s.steps s.parts n i.at s.rest w.fault s.each (omega (arith, ap length s.whole)) s.ends in
    ap (λ (j : Input). walk_by profile n j) is ∙ a ∙ ap (λ (l : List PlacedStep). record { items = l; fault = w.fault }) (sym s.items)

pub step_shorter : (profile : Profile) (i : Input) (step : Step) (new : Input) → AreBytes i.bytes → step_at profile i ≡ done (step, new) → length new.bytes < length i.bytes
step_shorter profile i step new h e =
    let found = step_found profile i new step h e in
    let len : length i.bytes ≡ length found.part + length new.bytes = ap length found.taken.bytes ∙ length-append found.part new.bytes in
    omega (arith, found.some)

pub walk_step : (profile : Profile) (i : Input) (x : Step × Input) → AreBytes i.bytes → step_at profile i ≡ done x → walk profile i ≡ after_item i.at x.0 (walk profile x.1)
unfolding walk
walk_step profile i x h e =
    let found = step_found profile i x.1 x.0 h e in
    let lt = step_shorter profile i x.0 x.1 h e in
    let some : length i.bytes ≡ suc (length i.bytes - 1) = omega arith in
    ap (λ (n : ℕ). walk_by profile n i) some
    ∙ step_walk_by profile (length i.bytes - 1) i x (omega arith) e
    ∙ ap (λ (w : Walk). after_item i.at x.0 w) (walk_enough profile (length i.bytes - 1) x.1 (omega arith) (taken_bytes i x.1 found.part found.taken h))

pub walk_stuck : (profile : Profile) (i : Input) (r : Refusal) → 0 < length i.bytes → step_at profile i ≡ Err r → walk profile i ≡ ended (Some r)
unfolding walk
walk_stuck profile i r some e = let long : length i.bytes ≡ suc (length i.bytes - 1) = omega arith in ap (λ (n : ℕ). walk_by profile n i) long ∙ stuck_walk_by profile (length i.bytes - 1) i r some e

pub walk_end : (profile : Profile) (i : Input) → length i.bytes ≡ 0 → walk profile i ≡ ended None
unfolding walk
walk_end profile i e = ap (λ (l : List ℕ). walk_by profile (length l) (input i.at l i.target)) (nil_from_length i.bytes e) ∙ end_walk_by profile 0 i.at i.target

-- ---- what a profile reads is read as a location description

judged_located : (profile : Profile) (at : ℕ) (o : Option OpForm) (i : Input) (x : Step × Input) → judged profile at o i ≡ done x → judged Location at o i ≡ done x
judged_located Location at o i x e = e
judged_located Frame at None i x e = e
judged_located Frame at (Some form) i x e = (cond_ok (form_in_frame form) (step_of form i) (record { code = NotInFrame; at = at }) x e).1

step_located : (profile : Profile) (i : Input) (x : Step × Input) → step_at profile i ≡ done x → step_at Location i ≡ done x
unfolding step_at
step_located profile i x e = let p = bind_ok (fixed_at 1 i) (after_code profile i.at) x e in rw p.1 (judged_located profile i.at (form_of p.0.1.target p.0.0) p.0.1 x p.2)

abbrev read_by : Profile → ℕ → ℕ → List ℕ → Read Step → Walk
read_by profile n at l r = on_left l (on_read r (λ e. ended (Some e)) (λ x. after_item at x.0 (walk_by profile n x.1)))

located_by : (profile : Profile) (n : ℕ) (i : Input) → (walk_by profile n i).fault ≡ None → walk_by Location n i ≡ walk_by profile n i
unfolding walked_by
located_by profile zero i h = refl
located_by profile (suc n) i h = go i.bytes (step_at profile i) (λ j k. located_by profile n j k) refl h
  where
    go : (l : List ℕ) (r : Read Step) → ((j : Input) → (walk_by profile n j).fault ≡ None → walk_by Location n j ≡ walk_by profile n j) → step_at profile i ≡ r → (read_by profile n i.at l r).fault ≡ None
        → read_by Location n i.at l (step_at Location i) ≡ read_by profile n i.at l r
    go [] r more is h = refl
    go (b ∷ l) (Ok x) more is h = rw (step_located profile i x is) (ap (λ (w : Walk). after_item i.at x.0 w) (more x.1 h))
    go (b ∷ l) (Err r) more is h = absurd cc

pub walk_located : (profile : Profile) (i : Input) → (walk profile i).fault ≡ None → walk Location i ≡ walk profile i
unfolding walk
walk_located profile i h = located_by profile (length i.bytes) i h

pub located_none : (profile : Profile) (i : Input) → (walk profile i).fault ≡ None → (walk Location i).fault ≡ None
located_none profile i h = ap (λ (w : Walk). w.fault) (walk_located profile i h) ∙ h
