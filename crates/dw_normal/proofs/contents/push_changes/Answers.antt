use Rattle.dw_normal.proofs.{Words.{◌≡◌, ◌++◌, ◌≤◌, ◌∙◌, ℕ, List, arith, refl, length-append, ap, length, later_bytes, Holds}, Filled.{fills_more, left_more}, contents.push_changes.Goals.In-Some}
use Rattle.dw_normal.proofs.contents.push_changes.Goals as goal

-- what there is of the entry, and what comes behind it
there : (c : In-Some) (front : List ℕ) → Holds c.args.out.now front
    → (mid : List ℕ) × Holds (record { bytes = c.push_later.new.out; gone = c.changes.out.gone; room = c.changes.out.room; counts = c.changes.out.counts }) mid
    × (mid ++ later_bytes c.args.target c.args.shared.now c.in-Some.next c.push_later.new.changes ≡ front ++ later_bytes c.args.target c.args.shared.now c.args.begin c.args.changes.now)
there c front h =
    let before = c.changes.invariant.left front h in
    let is = before.1 in
    let goes = rw c.in-Some.is at c.in_ok-next.ensures.goes in (
      is.lost ++ c.push_later.new.out.items,
      record { lost = is.lost; whole = refl; gone = is.gone; within = is.within; kept = is.kept },
      left_more is _ _ _ before.2 _ goes.2,
    )

pub let_go-requires : goal.let_go-requires
let_go-requires c = (c.changes.invariant.left c.requires.holds.0 c.requires.holds.1).1.within

pub returns-in_err-let_go-clause-contents : goal.returns-in_err-let_go-clause-contents
returns-in_err-let_go-clause-contents c = λ front h.
    let now = there (goal.at.returns-in_err-let_go-clause-contents c).In-Some front h in
    let left = later_bytes c.args.target c.args.shared.now c.in-Some.next c.push_later.new.changes in
    let le : length now.0 ≤ length (front ++ later_bytes c.args.target c.args.shared.now c.args.begin c.args.changes.now) = omega (arith, ap length now.2, length-append now.0 left) in
    fills_more now.0 _ c.from_residual-in_err-let_go.result _ _ _ _ c.from_residual-in_err-let_go.ensures.1 c.changes.invariant.room.0 le (c.in_err-let_go.ensures.holds now.0 now.1)

pub changes-preserved : goal.changes-preserved
changes-preserved c =
    let goes = rw c.in-Some.is at c.in_ok-next.ensures.goes in
    let inv = c.changes.invariant in record {
      stand = goes.0;
      left = λ front h. let now = there (goal.at.changes-preserved c).In-Some front h in (now.0, c.in_ok-let_go.ensures.holds now.0 now.1, now.2);
      room = (c.in_ok-let_go.ensures.room.0 ∙ inv.room.0, c.in_ok-let_go.ensures.room.1 ∙ inv.room.1);
      section = c.in_ok-next.ensures.section ∙ inv.section;
    }
