use Rattle.dw_section.proofs.{Words.{inr, map-append, piece_in, Has, CieHolds, head_in, all_zipped_more}, Between.{between_among, walk_start, walk_next, walk_end, walk_stuck}, Lent.{Index.all_in, HeaderLaws.has_fde}, Left.headers_so}
use Rattle.dw_section.proofs.{Left.left_all, Stages.{all_from_zip, handed_on}}
use Rattle.dw_section.proofs.header.read_headers.Goals as goal

pub pieces-init : goal.pieces-init
pieces-init c = rw (c.new-cursor.ensures, c.in_ok-headers.ensures.items) (walk_start (λ ps p. left_all c.args.target c.args.bytes.now ps p.0) (λ ps p. tt))

pub header_of-requires-clause-holds : goal.header_of-requires-clause-holds
header_of-requires-clause-holds c =
    let q = c.requires.cies in
    let w = c.pieces.invariant.at q.0 q.1 in
    let g = c.in-Some.ensures.gives w.rest w.left in
    all_in (CieHolds c.args.target) q.0 (piece_in c.in-Some.piece) q.1.1 (between_among q.0 w (piece_in c.in-Some.piece) g.0 g.1)

pub pieces-preserved : goal.pieces-preserved
pieces-preserved c = rw (c.in_ok-push.ensures.items, map-append) (walk_next _ _ _ c.pieces.invariant c.in-Some.ensures.on.0 c.in-Some.ensures.gives
    (λ ps p w more is. all_zipped_more (Has c.args.target c.args.places.now) w.front _ (piece_in c.in-Some.piece) (head_in c.in_ok-header_of.field-0) w.so c.in_ok-header_of.ensures.found))

pub returns-in_err-header_of-clause-first : goal.returns-in_err-header_of-clause-first
returns-in_err-header_of-clause-first c =
    let q = c.requires.cies in
    let hold = all_from_zip _ _ (has_fde c.args.target c.args.places.now) in
    handed_on c.from_residual-in_err-header_of.result _ c.from_residual-in_err-header_of.ensures.1
    (inr (q.0, q.1, rw (← q.2) (walk_stuck _ _ c.pieces.invariant c.in-Some.ensures.gives _ _ _ q.0 q.1 (λ front so. hold front _ so) c.in_err-header_of.ensures.stuck)))

pub returns-clause-found : goal.returns-clause-found
returns-clause-found c =
    let q = c.requires.cies in
    headers_so c.args.target c.args.bytes.now q.0 c.args.places.now _ q.1.0 q.2 (walk_end _ c.pieces.invariant c.in_default.ensures.gives q.0 q.1)
