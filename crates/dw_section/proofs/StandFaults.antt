-- What is refused where an entry stands is its first fault.
use Rattle.dw_section.specs.{declared.entry.Placed.Placed, Inner.{StandingFde.of_steps, Pieces.{IsPlaced, item_of}, Reads.Gives}, StandingFde.{CieAt, ItemFault, NoneStands, PairFault}}
use Rattle.dw_section.proofs.Words.{◌≡◌, ℕ, ◌+◌, ◌≤◌, List, [], ◌∷◌, length, drop, take, Some, Err, refl, sym, subst, ◌∙◌, inl, inr, None, take-append-drop, NoSuchCie, Refusal, ReadError, Refuses, Outcome, Target, Input, input_of}
use Rattle.dw_section.proofs.Words.{◌++◌, append_assoc, ok_is, cie, fde, CieFields, CieHead, FdeFields, FdeHead, FdeStands, FieldsFault, IsCie, Span, StandingFault, Then}
use Rattle.dw_section.proofs.Words.{Piece, id_width, Head, Has, FdeStuck, cie_at, fde_at, fixed_only, BothStuck, NamesCieAt, RefusesAs, StandsAs, ◌<◌, Option, Result, Ok, ap, arith, IfOk, IfErr, IfSome, MatchOption, MatchResult}
use Rattle.dw_section.proofs.Words.{length-drop, Read, AreBytes, span_of, address_limit, FoundFde, Item, IsWithin, item_at, cie_fields, fde_fields, StandsIn, RunsSo, run_within, refused_where_fault, one_run, FoundStands, entry_in}
use Rattle.dw_section.proofs.{Words.{initial_in, IsItem, Takes, item_bytes, piece_in}, Lent.{HeaderLaws.{cie_faulty, fde_faulty, fields_apart, has_fde}, Heads.has_at}, StandLaws.{cie_from, fde_from, never_gap, never_stuck, one_piece, stands_here}, FaultPlaces.{has_good, item_stays}}
use Rattle.dw_section.proofs.FaultPlaces.{stand_ends, stuck_within}
use Rattle.dw_num.proofs.Lent.Stays.{Stays}
use Rattle.dw_num.specs.declared.error.ReadError.TheVariants as reading
use Rattle.dw_section.specs.declared.entry.Kind.TheVariants as kind

-- ---- fields

-- no CIE stands where it says
pub no_cie : (target : Target) (own : Piece) (at : ℕ) → own.kind ≡ kind.Fde → NamesCieAt target own at → FdeStuck target [] own (record { code = NoSuchCie; at = own.contents.at })
no_cie target own at is names =
    let n = id_width own.form in
    let bytes = own.contents.bytes in
    (is, inr (at, record { at = own.contents.at + length (take n bytes); bytes = drop n bytes; target = target }, fixed_only n (input_of target own.contents) at (take n bytes) (drop n bytes) names (sym (take-append-drop n bytes)), refl))

pub own_stuck : (target : Target) (s : List ℕ) (own named : Piece) (at : ℕ) (r : Refusal) → own.kind ≡ kind.Fde → StandsAs target s kind.Cie at named → fde_at target (at ∷ []) own ≡ Err r → BothStuck target own (Some named) r
own_stuck target s own named at r is stands stuck = inl (is, fde_faulty target (named.at ∷ []) own r (subst (λ (n : ℕ). fde_at target (n ∷ []) own ≡ Err r) (sym stands.2) stuck))

pub named_stuck : (target : Target) (s : List ℕ) (own named : Piece) (at : ℕ) (h : Head) (r : Refusal) → StandsAs target s kind.Cie at named → Has target (at ∷ []) own h → cie_at target named ≡ Err r → BothStuck target own (Some named) r
named_stuck target s own named at h r stands has stuck = inr (has_fde target (named.at ∷ []) own h (subst (λ (n : ℕ). Has target (n ∷ []) own h) (sym stands.2) has), (stands.1, cie_faulty target named r stuck))

-- ---- where an FDE stands with its CIE, nothing is refused before their programs

item_never : (target : Target) (s : List ℕ) (p : Piece) (at : ℕ) (r : Refusal) → StandsIn target.order s p → p.at ≡ at → ItemFault target s at r → ⊥
item_never target s p at r w e fault = never_stuck target s p at (record { at = at; bytes = drop at s; target = target }) r refl fault.1 w e

-- its first field is the place of its CIE
names_one : (target : Target) (places : List ℕ) (p : Piece) (h : FdeHead) (at : ℕ) → Has target places p (fde h) → NamesCieAt target p at → at ≡ h.cie_at
names_one target places p h at has names =
    let f = fde_from target places p h has in
    let is = f.2.1 in
    let v = is.spells in
    let n = id_width p.form in
    let i = input_of target p.contents in
    let whole : i.bytes ≡ v.2.front ++ (v.2.back ++ f.1.bytes) = is.whole ∙ ap (λ (l : List ℕ). l ++ f.1.bytes) v.2.whole ∙ append_assoc v.2.front v.2.back f.1.bytes in
    let read = sym (fixed_only n i at (take n i.bytes) (drop n i.bytes) names (sym (take-append-drop n i.bytes))) ∙ fixed_only n i v.0 v.2.front (v.2.back ++ f.1.bytes) v.2.first whole in
    ap (λ (x : ℕ × Input). x.0) (ok_is _ _ read) ∙ sym (ap (λ (x : FdeHead). x.cie_at) f.3 ∙ ap (λ (x : FdeFields). x.cie_at) v.2.second.2.second.2.second.0)

module _ (target : Target) (s : List ℕ) (own : FdeHead) (named : CieHead) (w : FdeStands target s own named) where
  own_here : w.piece.at ≡ own.at
  own_here = sym (has_at target (own.cie_at ∷ []) w.piece (fde own) w.own_is)

  named_here : w.named_piece.at ≡ own.cie_at
  named_here = sym (has_at target [] w.named_piece (cie named) w.named_is) ∙ sym w.names

  named_said : (f : CieFields) × (program : Span) × IsCie target w.named_piece f program
  named_said = let c = cie_from target [] w.named_piece named w.named_is in (c.0, c.1, c.2)

  both_never : (o : Option Piece) (r : Refusal) → CieAt target s own.cie_at o → BothStuck target w.piece o r → ⊥
  both_never None r none stuck = none.0 w.named_piece (w.named_stands, named_said.2.0, named_here)
  both_never (Some p) r at (inl stuck) =
      let f = fde_from target (own.cie_at ∷ []) w.piece own w.own_is in
      let fields = subst (λ (n : ℕ). FieldsFault (fde_fields target.size (n ∷ []) w.piece.form) (input_of target w.piece.contents) r) at.2 stuck.1 in
      fields_apart (fde_fields target.size (own.cie_at ∷ []) w.piece.form) target w.piece f.0 f.1 r f.2.1 fields
  both_never (Some p) r at (inr stuck) =
      let same : p ≡ w.named_piece = one_piece target.order s p w.named_piece at.0 w.named_stands (at.2 ∙ sym named_here) in
      let fields = subst (λ (q : Piece). FieldsFault (cie_fields target.size q.form) (input_of target q.contents) r) same stuck.1.1 in
      fields_apart (cie_fields target.size w.named_piece.form) target w.named_piece named_said.0 named_said.1 r named_said.2.1 fields

  pair_never : (r : Refusal) → PairFault target s w.piece r → ⊥
  pair_never r (at, names, fault) =
      let is = names_one target (own.cie_at ∷ []) w.piece own at w.own_is names in
      let here = subst (λ (n : ℕ). Then (ItemFault target s n) (CieAt target s n) (BothStuck target w.piece) r) is fault in
      elim here [ inl item ↦ item_never target s w.named_piece own.cie_at r w.named_stands named_here item | inr both ↦ both_never both.0 r both.1 both.2 ]

  pub never_refused : (r : Refusal) → Then (ItemFault target s own.at) (StandsAs target s kind.Fde own.at) (PairFault target s) r → ⊥
  never_refused r (inl item) = item_never target s w.piece own.at r w.stands own_here item
  never_refused r (inr (p, at, pair)) =
      let same : p ≡ w.piece = one_piece target.order s p w.piece at.0 w.stands (at.2 ∙ sym own_here) in
      pair_never r (subst (λ (q : Piece). PairFault target s q r) same pair)

-- where none stands that covers an address, and nothing is refused before programs, nothing is
pub misled : (target : Target) (s : List ℕ) (at a : ℕ) → NoneStands target s at a → ((r : Refusal) → Then (ItemFault target s at) (StandsAs target s kind.Fde at) (PairFault target s) r → ⊥) → (r : Refusal) → StandingFault target s at a r → ⊥
misled target s at a none before r (inl fault) = before r fault
misled target s at a none before r (inr p) = none p.0 p.1 p.2 p.3 p.4 p.5

-- ---- errors

pub refuses_so : (P Q : Refusal → Type 0) (e : ReadError) → ((r : Refusal) → P r → Q r) → Refuses P e → RefusesAs Q (of_steps e)
refuses_so P Q (reading.Refused r) f h = f r h
refuses_so P Q reading.OutOfMemory f h = tt

-- what has no fault fails for want of memory alone
pub no_refusal : (e : ReadError) (fault : Option Refusal) → Refuses (λ r. fault ≡ Some r) e → fault ≡ None → e ≡ reading.OutOfMemory
no_refusal reading.OutOfMemory fault h none = refl
no_refusal (reading.Refused r) fault h none = let bad = sym h ∙ none in absurd cc

-- ---- the place of a fault

-- what keeps an item from standing at a place
pub item_within : (target : Target) (s : List ℕ) (at : ℕ) (i : Input) (r : Refusal) → i ≡ record { at = at; bytes = drop at s; target = target } → at ≤ length s → item_at i ≡ Err r → IsWithin s r
item_within target s at i r is inside stuck =
    let stays : Stays {X = Item} i (Err r) = subst (λ (read : Read Item). Stays i read) stuck (item_stays i) in
    omega (arith, rw is at stays.1, inside, length-drop at s)

-- what is read at a place is what stands there
pub read_here : (target : Target) (s : List ℕ) (at : ℕ) (i new : Input) (r : Result (Option Placed) Refusal) → i ≡ record { at = at; bytes = drop at s; target = target } → at < length s
    → IfOk r (λ o. IsItem (item_of o) × Takes i (item_bytes i.target.order (item_of o)) new) → IfOk r (IsPlaced i) → Gives item_of r (item_at i) new
    → IfOk r (λ o. IfSome o (λ p. (p.at ≡ at) × StandsIn target.order s (piece_in p))) × IfErr r (IsWithin s) × IfErr r (ItemFault target s at) × IfOk r (λ o. (q : Refusal) → ItemFault target s at q → ⊥)
    × ((q : Piece) → StandsIn target.order s q → q.at ≡ at → MatchResult r (λ o. MatchOption o ⊥ (λ p. piece_in p ≡ q)) (λ _. ⊥))
read_here target s at i new (Err r) is inside found placed read = (tt, item_within target s at i r is (omega (arith, inside)) read, (inside, rw is at read), tt, λ q stands e. never_stuck target s q at i r is read stands e)
read_here target s at i new (Ok None) is inside found placed read = (tt, tt, tt, (λ r fault. let bad = sym (rw is at read) ∙ fault.1 in absurd cc), λ q stands e. never_gap target s q at i new is read stands e)
read_here target s at i new (Ok (Some p)) is inside found placed read =
    let here = placed.0 ∙ ap (λ (j : Input). j.at) is in
    let stands = stands_here target s at i new p is (omega (arith, inside)) found.0 found.1 placed in
    ((here, stands), tt, tt, (λ r fault. let bad = sym (rw is at read) ∙ fault.1 in absurd cc), λ q w e. one_piece target.order s (piece_in p) q stands w (here ∙ sym e))

-- what is wrong in the fields of an entry
pub cie_within : (target : Target) (s : List ℕ) (p : Piece) (r : Refusal) → StandsIn target.order s p → cie_at target p ≡ Err r → IsWithin s r
cie_within target s p r w stuck = stuck_within (cie_fields target.size p.form) target s p r w (cie_faulty target p r stuck)

pub fde_within : (target : Target) (places s : List ℕ) (p : Piece) (r : Refusal) → StandsIn target.order s p → fde_at target places p ≡ Err r → IsWithin s r
fde_within target places s p r w stuck = stuck_within (fde_fields target.size places p.form) target s p r w (fde_faulty target places p r stuck)

-- what is wrong in the programs of an FDE
pub programs_within : (target : Target) (s : List ℕ) (e : FoundFde) → FoundStands target s e → AreBytes (span_of e.cie.program).bytes → AreBytes (span_of e.own.program).bytes → e.own.begin ≤ address_limit target.size → (error : ReadError)
    → ((o : Outcome) → RunsSo target e o → Refuses (λ r. o.fault ≡ Some r) error) → RefusesAs (IsWithin s) (of_steps error)
programs_within target s e w cb fb le reading.OutOfMemory h = tt
programs_within target s e w cb fb le (reading.Refused r) h =
    let cie = input_of target (span_of e.cie.program) in
    let fde = input_of target (span_of e.own.program) in
    let one = one_run e.cie.factors cie fde e.own.begin cb fb le in
    let fault = (refused_where_fault e.cie.factors cie fde e.own.begin cb fb le one.0 one.1 r).0 (h one.0 one.1) in
    let own = has_good target (e.own.cie_at ∷ []) (length s) w.piece (entry_in e.own) (stand_ends target.order s w.piece w.stands) fb w.own_is in
    let named = has_good target [] (length s) w.named_piece (initial_in e.cie) (stand_ends target.order s w.named_piece w.named_stands) cb w.named_is in
    elim (run_within e.cie.factors cie fde e.own.begin r cb fb fault) [ inl lies ↦ omega (arith, lies.1, named.0.1) | inr lies ↦ omega (arith, lies.1, own.0.1) ]
