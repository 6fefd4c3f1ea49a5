-- Values stay below 2 ^ N.
use Rattle.dw_eval.specs.{Space.{AreInSpace, ArePlacesInSpace}, declared.place.Piece.Piece}
use Rattle.dw_eval.proofs.Words.{◌≡◌, ℕ, zero, suc, ◌<◌, List, [], ◌∷◌, length, Option, None, Result, Ok, refl, sym, subst, inl, inr, arith, Kind, address_limit, Op, Whole, Place, Context, index_of, value_step, value_start, top_of, PlaceState}
use Rattle.dw_eval.proofs.{Words.{place_here, place_index, place_step, place_start, pieces_of, Runs, ValuesInSpace, LocationsInSpace}, Effects.{InSpace, StepTells, ValueLeads, value_tells}, PlaceSteps.{Leads, StateInSpace, here_in_space, step_tells}}

-- what every state of a run keeps
runs_keep : {S : Type 0} (index : S → ℕ) (step : Op → S → Result S Kind) (ops : List Op) (start : S) (P : S → Type 0) → P start → ((op : Op) (s s' : S) → P s → step op s ≡ Ok s' → P s') → (n : ℕ) (s : S) → Runs index step ops start n s → P s
runs_keep index step ops start P h keeps zero s r = subst P (sym r) h
runs_keep index step ops start P h keeps (suc n) s r = keeps r.1 r.0 s (runs_keep index step ops start P h keeps n r.0 r.2) r.4

top_in_space : (size : _) (len : ℕ) (stack : List ℕ) (v : ℕ) → AreInSpace size stack → Ok v ≡ top_of len stack → v < address_limit size
top_in_space size len [] v h e = absurd (cc)
top_in_space size len (t ∷ below) v h e = let same : v ≡ t = cc in let most = h.0 in omega (arith, same, most)

pub values_in_space : ValuesInSpace
values_in_space ops c first limit v h (inl e) =
    top_in_space c.target.size (length ops) e.state.stack v
    (runs_keep index_of (value_step c) ops (value_start first) (λ s. InSpace c s.stack) h (λ op s s' w goes. (subst (StepTells c (ValueLeads c op s)) goes (value_tells c op s)).1 w) e.steps e.state e.run) e.gives
values_in_space ops c first limit v h (inr (inl e)) = let is = e.gives in absurd (cc)
values_in_space ops c first limit v h (inr (inr e)) = let is = e.gives in absurd (cc)

last_in_space : (c : Context) (len : ℕ) (s : PlaceState) (pending : Option Place) (stack : List ℕ) (pieces ended : List Piece) → s.pending ≡ pending → s.stack ≡ stack → s.pieces ≡ pieces → StateInSpace c s
    → Ok ended ≡ pieces_of len pending stack pieces → ArePlacesInSpace c.target.size ended
last_in_space c len s pending stack [] ended p t q h e =
    let piece : Piece = record { place = place_here s.pending s.stack; part = Whole } in
    let same : piece ∷ [] ≡ ended = cc (sym e) in
    subst (ArePlacesInSpace c.target.size) same (here_in_space c s.pending s.stack h.pending h.stack, tt)
last_in_space c len s None [] (piece ∷ pieces) ended p t q h e =
    let same : s.pieces ≡ ended = cc (sym e) in
    subst (ArePlacesInSpace c.target.size) same h.pieces
last_in_space c len s pending stack pieces ended p t q h e = absurd (cc)

pub locations_in_space : LocationsInSpace
locations_in_space ops c limit pieces (inl e) =
    let begun : StateInSpace c place_start = record { stack = tt; pending = tt; pieces = tt } in
    let kept = runs_keep place_index (place_step c) ops place_start (StateInSpace c) begun (λ op s s' w goes. (subst (StepTells c (Leads c op s)) goes (step_tells c op s)).1 w) e.steps e.state e.run in
    last_in_space c (length ops) e.state e.state.pending e.state.stack e.state.pieces pieces refl refl refl kept e.gives
locations_in_space ops c limit pieces (inr (inl e)) = let is = e.gives in absurd (cc)
locations_in_space ops c limit pieces (inr (inr e)) = let is = e.gives in absurd (cc)
