use Rattle.dw_section.proofs.Words.{◌∙◌, sym, inr, arith, drop_more, length-drop, all_zipped_more, CieHolds, CieStuck, IsRead, cie_pieces}
use Rattle.dw_section.proofs.{Between.{between_start, between_next, between_end, between_stuck}, KeptCies.{piece_places, next_cie, none_of, all_hold, read_holds, first_cie}, Stages.handed_on}
use Rattle.dw_section.proofs.header.read_cies.Goals as goal

pub loop-at-init : goal.loop-at-init
loop-at-init c = λ ps cut e. rw c.in_ok-initials.ensures.items (between_start (cie_pieces ps) (piece_places c.args.target ps ∙ sym e) tt)

pub read_cie_at-requires-clause-stands : goal.read_cie_at-requires-clause-stands
read_cie_at-requires-clause-stands c =
    let q = c.requires.pieces in
    let w = c.loop-at.invariant q.0 q.1 q.2 in
    let n = next_cie c.args.target c.args.bytes.now q.0 _ _ q.1 w (w.left ∙ drop_more c.args.places.now c.loop-at.at-index 0 c.loop-at-test.true) in
    (n.0, n.5, n.3, n.6)

pub loop-at-preserved : goal.loop-at-preserved
loop-at-preserved c = λ ps cut e.
    let w = c.loop-at.invariant ps cut e in
    let n = next_cie c.args.target c.args.bytes.now ps _ _ cut w (w.left ∙ drop_more c.args.places.now c.loop-at.at-index 0 c.loop-at-test.true) in
    rw c.in_ok-push.ensures.items
    (between_next (cie_pieces ps) w n.0 n.1 n.2 n.4 (all_zipped_more (IsRead c.args.target) w.front c.loop-at.initials.items n.0 c.in_ok-read_cie_at.field-0 w.so (c.in_ok-read_cie_at.ensures.found n.0 n.5 n.3 n.6)))

pub returns-in_err-read_cie_at-clause-first : goal.returns-in_err-read_cie_at-clause-first
returns-in_err-read_cie_at-clause-first c =
    let t = c.args.target in
    let q = c.requires.pieces in
    let w = c.loop-at.invariant q.0 q.1 q.2 in
    let n = next_cie t c.args.bytes.now q.0 _ _ q.1 w (w.left ∙ drop_more c.args.places.now c.loop-at.at-index 0 c.loop-at-test.true) in
    handed_on c.from_residual-in_err-read_cie_at.result _ c.from_residual-in_err-read_cie_at.ensures.1
    (inr (q.0, q.1, first_cie t q.0 _ (between_stuck (CieHolds t) (CieStuck t) (cie_pieces q.0) w n.0 n.1 _ n.2 (read_holds t w.front c.loop-at.initials.items w.so) (c.in_err-read_cie_at.ensures.stuck n.0 n.5 n.3 n.6))))

pub returns-clause-found : goal.returns-clause-found
returns-clause-found c = λ ps cut e.
    let w = c.loop-at.invariant ps cut e in
    let read = between_end (cie_pieces ps) w (none_of w.rest w.left (omega (arith, c.loop-at-test.false, length-drop c.loop-at.at-index c.args.places.now))) in
    record { hold = all_hold c.args.target ps (read_holds c.args.target (cie_pieces ps) c.loop-at.initials.items read); are = e; read = read }
