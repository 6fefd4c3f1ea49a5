use Rattle.dw_section.proofs.{Words.{◌≡◌, ℕ, [], ◌∷◌, ◌∙◌, ap, subst, sym, Some, None, inl, inr, fde, entry_head, entry_in, initial_head, piece_in, FoundFde, FoundStands, Piece, Refusal, rules, StandsAs, StandsIn, Then}, Lent.Heads.has_at, StandLaws.{among_first, named_of, fde_from, fde_never, cie_never, stands_joined}}
use Rattle.dw_section.proofs.{StandFaults.{never_refused, no_cie, own_stuck, named_stuck, cie_within, fde_within}, Stages.handed_on, standing_fde.standing.Goals.{After-pointer_of-pointer, In-Some-2, In_ok-cie}}
use Rattle.dw_section.specs.StandingFde.{ItemFault, PairFault}
use Rattle.dw_section.specs.declared.entry.Kind.TheVariants as kind
use Rattle.dw_section.proofs.standing_fde.standing.Goals as goal

-- the entry at the place
here : (c : After-pointer_of-pointer) → ((piece_in c.in-Some.own).at ≡ c.args.at) × StandsIn c.args.target.order c.args.bytes.now (piece_in c.in-Some.own)
here c = rw c.in-Some.is at c.in_ok-own.ensures.found

own_is : (c : After-pointer_of-pointer) → StandsAs c.args.target c.args.bytes.now kind.Fde c.args.at (piece_in c.in-Some.own)
own_is c = let w = here c in (w.1, c.in-Fde.is, w.0)

pub returns-in_err-own-clause-only : goal.returns-in_err-own-clause-only
returns-in_err-own-clause-only c = λ w. absurd (c.in_err-own.ensures.only w.2.piece w.2.stands (sym (has_at c.args.target (w.0.cie_at ∷ []) w.2.piece (fde w.0) w.2.own_is) ∙ w.3))

pub returns-in_default-clause-only : goal.returns-in_default-clause-only
returns-in_default-clause-only c = λ w. absurd (rw c.in_default.is at (c.in_ok-own.ensures.only w.2.piece w.2.stands (sym (has_at c.args.target (w.0.cie_at ∷ []) w.2.piece (fde w.0) w.2.own_is) ∙ w.3)))

pub returns-in_default-kind-clause-only : goal.returns-in_default-kind-clause-only
returns-in_default-kind-clause-only c = λ w.
    let same = rw c.in-Some.is at (c.in_ok-own.ensures.only w.2.piece w.2.stands (sym (has_at c.args.target (w.0.cie_at ∷ []) w.2.piece (fde w.0) w.2.own_is) ∙ w.3)) in
    let fde = (fde_from c.args.target (w.0.cie_at ∷ []) w.2.piece w.0 w.2.own_is).2.0 in
    absurd (c.in_default-kind.not-Fde (ap (λ (q : Piece). q.kind) same ∙ fde))

pub returns-in_default-clause-unfaulted : goal.returns-in_default-clause-unfaulted
returns-in_default-clause-unfaulted c = λ r fault. elim fault [ inl item ↦ c.in_ok-own.ensures.none r item | inr p ↦ absurd (rw c.in_default.is at (c.in_ok-own.ensures.only p.0 p.1.0 p.1.2)) ]

pub returns-in_default-kind-clause-unfaulted : goal.returns-in_default-kind-clause-unfaulted
returns-in_default-kind-clause-unfaulted c = λ r fault. elim fault [
  | inl item ↦ c.in_ok-own.ensures.none r item
  | inr p ↦ absurd (c.in_default-kind.not-Fde (ap (λ (q : Piece). q.kind) (rw c.in-Some.is at (c.in_ok-own.ensures.only p.0 p.1.0 p.1.2)) ∙ p.1.1))
]

pub returns-in_err-named-clause-only : goal.returns-in_err-named-clause-only
returns-in_err-named-clause-only c = λ w.
    let p = c.pointer_of-pointer in
    let named = named_of c.args.target c.args.bytes.now c.args.at (piece_in c.in-Some.own) w (here (goal.at.returns-in_err-named-clause-only c).After-pointer_of-pointer) p.result.0 p.ensures.only in
    absurd (c.in_err-named.ensures.only w.2.named_piece w.2.named_stands named.0 named.1)

pub returns-in_default-2-clause-only : goal.returns-in_default-2-clause-only
returns-in_default-2-clause-only c = λ w.
    let p = c.pointer_of-pointer in
    let named = named_of c.args.target c.args.bytes.now c.args.at (piece_in c.in-Some.own) w (here (goal.at.returns-in_default-2-clause-only c).After-pointer_of-pointer) p.result.0 p.ensures.only in
    rw c.in_default-2.is at (c.in_ok-named.ensures.only w.2.named_piece w.2.named_stands named.0 named.1)

pub returns-in_default-2-clause-fault : goal.returns-in_default-2-clause-fault
returns-in_default-2-clause-fault c =
    let p = c.pointer_of-pointer in
    let none = c.in_ok-named.ensures in
    let own = piece_in c.in-Some.own in
    let is = own_is (goal.at.returns-in_default-2-clause-fault c).After-pointer_of-pointer in
    inr (own, is, (p.result.0, p.ensures.names, inr (None, (λ q w. rw c.in_default-2.is at (none.only q w.0 w.2 w.1), none.none), rw c.refusal.ensures (no_cie c.args.target own p.result.0 is.1 p.ensures.names))))

-- the CIE that it names
named_is : (c : In-Some-2) → StandsAs c.args.target c.args.bytes.now kind.Cie c.pointer_of-pointer.result.0 (piece_in c.in-Some-2.named)
named_is c = let w = rw c.in-Some-2.is at c.in_ok-named.ensures.found in (w.2, w.1, w.0)

pub returns-in_err-header : goal.returns-in_err-header
returns-in_err-header c =
    let p = c.pointer_of-pointer in
    let own = piece_in c.in-Some.own in
    let own-here = (goal.at.returns-in_err-header c).After-pointer_of-pointer in
    let is = own_is own-here in
    let cie = named_is (goal.at.returns-in_err-header c).In-Some-2 in
    let stuck = c.in_err-header.ensures.stuck (p.result.0 ∷ []) (among_first p.result.0 []) in
    let handed = λ (Q : Refusal → Type 0). handed_on c.from_residual-in_err-header.result Q c.from_residual-in_err-header.ensures.1 in
    record {
      found = search rules;
      within = handed _ (fde_within c.args.target (p.result.0 ∷ []) c.args.bytes.now own _ is.0 stuck);
      fault = handed _ (inr (own, is, (p.result.0, p.ensures.names, inr (Some _, cie, own_stuck c.args.target c.args.bytes.now own (piece_in c.in-Some-2.named) p.result.0 _ is.1 cie stuck))));
      unfaulted = search rules;
      only = λ w. absurd (fde_never c.args.target (p.result.0 ∷ []) own w.0 _ (named_of c.args.target c.args.bytes.now c.args.at own w (here own-here) p.result.0 p.ensures.only).2 stuck);
    }

pub returns-in_err-cie : goal.returns-in_err-cie
returns-in_err-cie c =
    let p = c.pointer_of-pointer in
    let own = piece_in c.in-Some.own in
    let own-here = (goal.at.returns-in_err-cie c).After-pointer_of-pointer in
    let cie = named_is (goal.at.returns-in_err-cie c).In-Some-2 in
    let stuck = c.in_err-cie.ensures.exact in
    let both = named_stuck c.args.target c.args.bytes.now own (piece_in c.in-Some-2.named) p.result.0 (entry_in c.in_ok-header.header) _ cie (c.in_ok-header.ensures.found (p.result.0 ∷ []) (among_first p.result.0 [])) stuck in
    let handed = λ (Q : Refusal → Type 0). handed_on c.from_residual-in_err-cie.result Q c.from_residual-in_err-cie.ensures.1 in
    record {
      found = search rules;
      within = handed _ (cie_within c.args.target c.args.bytes.now (piece_in c.in-Some-2.named) _ cie.0 stuck);
      fault = handed _ (inr (own, own_is own-here, (p.result.0, p.ensures.names, inr (Some _, cie, both))));
      unfaulted = search rules;
      only = λ w.
          let named = named_of c.args.target c.args.bytes.now c.args.at own w (here own-here) p.result.0 p.ensures.only in
          let same = rw c.in-Some-2.is at (c.in_ok-named.ensures.only w.2.named_piece w.2.named_stands named.0 named.1) in
          absurd (cie_never c.args.target w.2.named_piece w.1 _ w.2.named_is (rw same at stuck));
    }

-- both stand
stands : (c : In_ok-cie) → let e : FoundFde = record { own = c.in_ok-header.header; cie = c.in_ok-cie.cie } in (e.own.at ≡ c.args.at) × FoundStands c.args.target c.args.bytes.now e
stands c =
    let own = here (goal.at.In_ok-cie c).After-pointer_of-pointer in
    let cie = named_is (goal.at.In_ok-cie c).In-Some-2 in
    let p = c.pointer_of-pointer.result.0 in
    let joined = stands_joined c.args.target c.args.bytes.now (piece_in c.in-Some.own) (piece_in c.in-Some-2.named) p (record { own = c.in_ok-header.header; cie = c.in_ok-cie.cie }) own.1 cie.0 cie.2 (c.in_ok-header.ensures.found (p ∷ []) (among_first p [])) (c.in_ok-cie.ensures.found []) in
    (joined.0 ∙ own.0, joined.1)

pub returns-clause-found : goal.returns-clause-found
returns-clause-found c = stands (goal.at.returns-clause-found c).In_ok-cie

pub returns-clause-unfaulted : goal.returns-clause-unfaulted
returns-clause-unfaulted c =
    let w = stands (goal.at.returns-clause-unfaulted c).In_ok-cie in
    let s = c.args.bytes.now in
    λ r fault. never_refused c.args.target s (entry_head c.in_ok-header.header) (initial_head c.in_ok-cie.cie) w.1 r (subst (λ (n : ℕ). Then (ItemFault c.args.target s n) (StandsAs c.args.target s kind.Fde n) (PairFault c.args.target s) r) (sym w.0) fault)
