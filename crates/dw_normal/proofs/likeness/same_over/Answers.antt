use Rattle.dw_normal.specs.Inner.Writing.{table_of}
use Rattle.dw_normal.proofs.Words.{◌≡◌, ◌<◌, ◌∙◌, ap, List, length, get_or, inl, inr, refl, arith, take_all, Member, AreMembers, fde_with, unsized}
use Rattle.dw_normal.proofs.{Alike.{alike, fdes_more_like, fdes_over, fdes_same, lacks_on, unlike}, Joined.held_kept, Grouped.no_member, Placed.as_many, likeness.same_over.Goals.After-ne}
use Rattle.dw_normal.proofs.likeness.same_over.Goals as goal

pub fdes-init : goal.fdes-init
fdes-init c = record { same = λ ms ns are others. refl; walks = c.requires.walks; ready = (refl, refl); kept = c.requires.kept; rooms = (refl, refl) }

pub fill_next-requires : goal.fill_next-requires
fill_next-requires c =
    let inv = c.fdes.invariant in
    record { room = inv.kept.0.1; place = rw inv.ready.0 (λ fs are. omega (arith, c.requires.count fs are, c.fdes-test.true)); walks = inv.walks.0 }

pub fill_next-requires-in-fdes : goal.fill_next-requires-in-fdes
fill_next-requires-in-fdes c =
    let inv = c.fdes.invariant in
    record { room = inv.kept.1.1; place = rw inv.ready.1 (λ fs are. omega (arith, c.requires.other_count fs are, c.fdes-test.true)); walks = inv.walks.1 }

-- the FDEs that were built of both
mine : (c : After-ne) (ms : List Member) → AreMembers (table_of c.args.one.now).target (table_of c.args.one.now).bytes ms
    → c.fill_next.new.out.bytes.items ≡ unsized (table_of c.args.one.now).target (fde_with (table_of c.args.one.now).target ms (get_or ms c.fdes.place no_member))
mine c ms are =
    let built = rw c.fdes.invariant.ready.0 at c.in_ok-fill_next.ensures.contents in
    let t = (table_of c.args.one.now).target in
    held_kept {bytes = unsized t (fde_with t ms (get_or ms c.fdes.place no_member))} (built ms are no_member) (c.in_ok-fill_next.ensures.room.1 ∙ c.fdes.invariant.kept.0.0)

other : (c : After-ne) (ns : List Member) → AreMembers (table_of c.args.two.now).target (table_of c.args.two.now).bytes ns
    → c.fill_next-in-fdes.new.out.bytes.items ≡ unsized (table_of c.args.two.now).target (fde_with (table_of c.args.two.now).target ns (get_or ns c.fdes.place no_member))
other c ns others =
    let built = rw c.fdes.invariant.ready.1 at c.in_ok-fill_next-2.ensures.contents in
    let t = (table_of c.args.two.now).target in
    held_kept {bytes = unsized t (fde_with t ns (get_or ns c.fdes.place no_member))} (built ns others no_member) (c.in_ok-fill_next-2.ensures.room.1 ∙ c.fdes.invariant.kept.1.0)

pub returns-then-ne-clause-compares : goal.returns-then-ne-clause-compares
returns-then-ne-clause-compares c = λ ms ns are others.
    let at = (goal.at.returns-then-ne-clause-compares c).After-ne in
    (λ e. absurd (unlike _ _ c.ne.result c.ne.ensures c.if-ne.true (fdes_same c.requires.target ms ns c.fdes.place no_member _ _ (mine at ms are) (other at ns others) e)), λ yes. absurd cc)

pub fdes-preserved : goal.fdes-preserved
fdes-preserved c =
    let at = (goal.at.fdes-preserved c).After-ne in
    let inv = c.fdes.invariant in
    let one = c.in_ok-fill_next.ensures in
    let two = c.in_ok-fill_next-2.ensures in record {
      same = λ ms ns are others.
          let lt : c.fdes.place < length ms = omega (arith, as_many are c.requires.count, c.fdes-test.true) in
          let lt' : c.fdes.place < length ns = omega (arith, as_many others c.requires.other_count, c.fdes-test.true) in
          fdes_more_like c.requires.target ms ns c.fdes.place no_member lt lt' (inv.same ms ns are others) _ _ (mine at ms are) (other at ns others) (alike _ _ c.ne.result c.ne.ensures c.if-ne.false);
      walks = (one.walks, two.walks);
      ready = (one.ready ∙ inv.ready.0, two.ready ∙ inv.ready.1);
      kept = ((one.room.1 ∙ inv.kept.0.0, omega (arith, one.room.0, inv.kept.0.1)), (two.room.1 ∙ inv.kept.1.0, omega (arith, two.room.0, inv.kept.1.1)));
      rooms = (one.room.0 ∙ inv.rooms.0, two.room.0 ∙ inv.rooms.1);
    }

-- what there is no room for is an FDE of one of them
pub returns-in_err-fill_next-clause-full : goal.returns-in_err-fill_next-clause-full
returns-in_err-fill_next-clause-full c = λ ms ns are others.
    let inv = c.fdes.invariant in
    let lt : c.fdes.place < length ms = omega (arith, as_many are c.requires.count, c.fdes-test.true) in
    lacks_on c.from_residual.result c.in_err-fill_next.field-0.0 _ c.from_residual.ensures.1
    (λ full. inl (fdes_over _ (table_of c.args.one.now) c.fdes.place _ _ _ _ (ap (λ r. r.now.table) inv.ready.0) inv.rooms.0 c.in_err-fill_next.ensures.contents full ms are lt))

pub returns-in_err-fill_next-2-clause-full : goal.returns-in_err-fill_next-2-clause-full
returns-in_err-fill_next-2-clause-full c = λ ms ns are others.
    let inv = c.fdes.invariant in
    let lt : c.fdes.place < length ns = omega (arith, as_many others c.requires.other_count, c.fdes-test.true) in
    lacks_on c.from_residual-in_err-fill_next-2.result c.in_err-fill_next-2.field-0.0 _ c.from_residual-in_err-fill_next-2.ensures.1
    (λ full. inr (fdes_over _ (table_of c.args.two.now) c.fdes.place _ _ _ _ (ap (λ r. r.now.table) inv.ready.1) inv.rooms.1 c.in_err-fill_next-2.ensures.contents full ns others lt))

pub returns-clause-compares : goal.returns-clause-compares
returns-clause-compares c = λ ms ns are others.
    let count = as_many are c.requires.count in
    let other = as_many others c.requires.other_count in
    let same = c.fdes.invariant.same ms ns are others in
    (λ e. refl, λ yes. rw (take_all c.fdes.place ms (omega (arith, count, c.fdes-test.false)), take_all c.fdes.place ns (omega (arith, other, c.fdes-test.false))) at same)
