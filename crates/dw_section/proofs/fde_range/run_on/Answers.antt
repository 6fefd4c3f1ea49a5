use Rattle.dw_section.proofs.Words.{◌≡◌, List, ◌∷◌, Some, None, map, refl, ap, subst, sym, ◌∙◌, ℕ, inl, inr, cie_places, AllZip, IsAmong, entry_in, AllByRecursion, piece_in, initial_in, Has, Head, HeadsLeft, FdeHolds, FdeStuck, FdeRuns, FdeBroken, Pieces, PiecesLeft}
use Rattle.dw_section.proofs.{Words.refuses_by, Between.{between_next, between_stuck, between_among, between_later, both, Walk, walk_start, walk_next, walk_end, walk_stuck}, FdeWalk.{says_holds, says_tells, says_fits}}
use Rattle.dw_section.proofs.{FdeWalk.{headers_exist, fields_fault}, KeptCies.{all_among, of_headers, some_headers, places_are}, Items.one_pieces, Left.{left_all, heads_next, heads_none, stays_then}, Stages.{all_push, handed_on}}
use Rattle.dw_section.proofs.{Tables.judged_cie, fde_range.run_on.Goals.{In-Some, In-Some-2, In_ok-fde}}
use Rattle.dw_section.proofs.fde_range.run_on.Goals as goal

-- the header of the piece that comes next
next : (c : In-Some) (hs : List Head) → HeadsLeft c.args.places.now c.pieces.cursor hs
    → (h : Head) × (more : List Head) × (hs ≡ h ∷ more) × Has c.args.target c.args.places.now (piece_in c.in-Some.piece) h × HeadsLeft c.args.places.now c.next_piece.new.cursor more
next c hs w = heads_next c.args.target c.args.places.now c.pieces.cursor c.next_piece.new.cursor (piece_in c.in-Some.piece) hs c.pieces.invariant.1.stays.target w (c.in-Some.ensures.gives w.parts w.left) c.in-Some.ensures.on.0

-- the fields of the pieces up to it hold
held : (c : In_ok-fde) → Walk PiecesLeft (Pieces c.args.target c.args.bytes.now) (λ ps. AllByRecursion (FdeHolds c.args.target c.args.places.now)) (record { at = 0; bytes = c.args.bytes.now; target = c.args.target }) c.next_piece.new.cursor
held c = walk_next _ _ _ c.pieces.invariant.0 c.in-Some.ensures.on.0 c.in-Some.ensures.gives
    (λ ps p w more is. all_push (FdeHolds c.args.target c.args.places.now) w.front (piece_in c.in-Some.piece) w.so (says_holds c.args.target c.args.places.now (piece_in c.in-Some.piece) c.in_ok-fde.field-0 c.in_ok-fde.ensures.found))

pub pieces-init : goal.pieces-init
pieces-init c =
    let q = c.requires.cies in
    let t = c.args.target in
    let s = c.args.bytes.now in
    let places = c.args.places.now in
    rw (c.new-cursor.ensures, c.requires.none.0, c.requires.none.1) (
      walk_start (left_all t s) (λ ps p. tt),
      walk_start (λ hs p. record { parts = p.entries; left = left_all t s p.entries p.cut; each = subst (λ (l : List ℕ). AllZip (Has t l) p.entries hs) (sym (q.2.are ∙ ap cie_places (one_pieces t s q.0 p.entries q.1 p.cut))) p.each }) (λ hs p. record { run = tt; first = tt; are = refl; each = tt }),
      λ hs all. c.requires.led hs,
    )

pub judge-requires : goal.judge-requires
judge-requires c =
    let q = c.requires.cies in
    let cs = c.args.initials.now in
    let places = places_are c.args.target q.0 c.args.places.now cs q.2 in
    let ks = map initial_in cs in
    let all = all_among ks cs (some_headers cs) in
    let says = rw c.in-Some-2.is at c.in_ok-fde.ensures.found in
    let at = rw c.in-Some-2.is at c.in_ok-fde.ensures.at in
    record {
      fits = rw places (says_fits c.args.target c.args.places.now (piece_in c.in-Some.piece) (Some c.in-Some-2.fde) _ c.in-Some.ensures.below says at);
      each = (ks, all, c.pieces.invariant.2 ks all);
    }

-- a CIE more
pub pieces-preserved-in_default-2 : goal.pieces-preserved-in_default-2
pieces-preserved-in_default-2 c =
    let t = c.args.target in
    let places = c.args.places.now in (
      held (goal.at.pieces-preserved-in_default-2 c).In_ok-fde,
      record {
        stays = stays_then _ c.pieces.cursor c.next_piece.new.cursor c.pieces.invariant.1.stays c.in-Some.ensures.on.0;
        at = λ hs headers.
            let w = c.pieces.invariant.1.at hs headers in
            let h = next (goal.at.pieces-preserved-in_default-2 c).In-Some w.rest w.left in
            let tells = says_tells t places (piece_in c.in-Some.piece) None h.0 (rw c.in_default-2.is at c.in_ok-fde.ensures.found) h.3 in
            between_next hs w h.0 h.1 h.2 h.4 (judged_cie t hs w.front h.0 c.pieces.judged.lacking c.pieces.judged.list.items tells w.so);
      },
      c.pieces.invariant.2,
    )

-- the header of the FDE that was judged
told : (c : In-Some-2) (h : Head) → Has c.args.target c.args.places.now (piece_in c.in-Some.piece) h → h ≡ entry_in c.in-Some-2.fde
told c h has = says_tells c.args.target c.args.places.now (piece_in c.in-Some.piece) (Some c.in-Some-2.fde) h (rw c.in-Some-2.is at c.in_ok-fde.ensures.found) has

pub pieces-preserved : goal.pieces-preserved
pieces-preserved c =
    let q = c.requires.cies in
    let t = c.args.target in
    let places = c.args.places.now in
    let judge = c.in_default-judge.ensures in (
      held (goal.at.pieces-preserved c).In_ok-fde,
      record {
        stays = stays_then _ c.pieces.cursor c.next_piece.new.cursor c.pieces.invariant.1.stays c.in-Some.ensures.on.0;
        at = λ hs headers.
            let w = c.pieces.invariant.1.at hs headers in
            let h = next (goal.at.pieces-preserved c).In-Some w.rest w.left in
            let of = of_headers t c.args.bytes.now q.0 places c.args.initials.now q.1 q.2 hs headers in
            let all = all_among hs c.args.initials.now of in
            let is = told (goal.at.pieces-preserved c).In-Some-2 h.0 h.3 in
            let among = subst (λ (x : Head). IsAmong x hs) is (between_among hs w h.0 h.1 h.2) in
            between_next hs w h.0 h.1 h.2 h.4 (rw is (judge.found hs w.front all (c.requires.run hs of) (c.pieces.invariant.2 hs all) among w.so));
      },
      λ hs all. judge.led hs all (c.pieces.invariant.2 hs all),
    )

pub returns-in_err-fde-clause-first : goal.returns-in_err-fde-clause-first
returns-in_err-fde-clause-first c =
    let q = c.requires.cies in
    handed_on c.from_residual.result _ c.from_residual.ensures.1
    (inl (inl (inl (fields_fault c.args.target c.args.bytes.now q.0 c.args.places.now c.args.initials.now q.1 q.2 _ (walk_stuck _ _ c.pieces.invariant.0 c.in-Some.ensures.gives _ _ _ q.0 q.1 (λ front so. so) c.in_err-fde.ensures.stuck)))))

pub returns-in-Err-clause-first : goal.returns-in-Err-clause-first
returns-in-Err-clause-first c =
    let q = c.requires.cies in
    let t = c.args.target in
    let s = c.args.bytes.now in
    let places = c.args.places.now in
    let w = (held (goal.at.returns-in-Err-clause-first c).In_ok-fde).at q.0 q.1 in
    elim (c.or_fields_fault.ensures w.rest w.left) [
      | inl fields ↦ refuses_by c.or_fields_fault.result _ _ (λ r h. inl (inl (inl (fields_fault t s q.0 places c.args.initials.now q.1 q.2 r (between_later (FdeHolds t places) (FdeStuck t places) q.0 w r w.so h))))) fields
      | inr broken ↦
          let hs = headers_exist t s q.0 places c.args.initials.now q.1 q.2 (subst (AllByRecursion (FdeHolds t places)) (sym w.whole) (both (FdeHolds t places) w.front w.rest w.so broken.1)) in
          let v = c.pieces.invariant.1.at hs.0 hs.1 in
          let h = next (goal.at.returns-in-Err-clause-first c).In-Some v.rest v.left in
          let of = of_headers t s q.0 places c.args.initials.now q.1 q.2 hs.0 hs.1 in
          let runs = c.requires.run hs.0 of in
          let all = all_among hs.0 c.args.initials.now of in
          let is = told (goal.at.returns-in-Err-clause-first c).In-Some-2 h.0 h.3 in
          rw broken.0 (refuses_by c.in-Err.broken _ _ (λ r stuck. inl (inr (hs.0, (hs.1, runs), between_stuck (FdeRuns t hs.0) (FdeBroken t hs.0) hs.0 v h.0 h.1 r h.2 v.so.run (rw is stuck))))
          (c.in-Err.ensures.stuck hs.0 all runs (c.pieces.invariant.2 hs.0 all)))
    ]

pub returns-clause-found : goal.returns-clause-found
returns-clause-found c =
    let q = c.requires.cies in
    let t = c.args.target in
    let s = c.args.bytes.now in
    let places = c.args.places.now in
    let hs = headers_exist t s q.0 places c.args.initials.now q.1 q.2 (walk_end _ c.pieces.invariant.0 c.in_default.ensures.gives q.0 q.1) in
    let none = λ (ks : List Head) (left : HeadsLeft places c.pieces.cursor ks). heads_none c.pieces.cursor.target places left.parts ks (c.in_default.ensures.gives left.parts left.left) left.each in
    (hs.0, (hs.1, c.requires.run hs.0 (of_headers t s q.0 places c.args.initials.now q.1 q.2 hs.0 hs.1)), walk_end _ c.pieces.invariant.1 none hs.0 hs.1)
