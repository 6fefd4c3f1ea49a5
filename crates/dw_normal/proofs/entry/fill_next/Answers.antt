use Rattle.dw_normal.proofs.Words.{◌≡◌, ℕ, ◌+◌, ◌<◌, List, get_or, refl, sym, ap, ◌∙◌, subst, Target, address_limit, Member, AreMembers, members_exist, IsReady, fde_with, unsized}
use Rattle.dw_normal.proofs.{Filled.fills_as, Grouped.no_member, Located.{Located, place_fits, place_own, begin_fits, begins_below, range_fits}, Placed.below, Summed.walks_on, entry.fill_next.Goals.In_ok-begin_fde}
use Rattle.dw_normal.specs.Inner.{Places.fde_at, Writing.table_of}
use Rattle.dw_normal.proofs.entry.fill_next.Goals as goal

-- the FDE is located among the members of the table
abbrev LocatedIn : In_ok-begin_fde → List Member → Member → Type 0
LocatedIn c ms d =
    let old = c.args.begun.now in
    Located (table_of old).target (table_of old).bytes ms c.args.fde.place d c.begin_fde.new.begun old.ready.now.rows.entries old.places.now.entries

located : (c : In_ok-begin_fde) (ms : List Member) → AreMembers (table_of c.args.begun.now).target (table_of c.args.begun.now).bytes ms → (d : Member) → LocatedIn c ms d
located c ms are d = record {
  bytes = c.accepted.ensures.bytes;
  accepted = c.accepted.ensures.accepted;
  are = are;
  low = c.requires.walks.low;
  lt = below c.args.fde.place are c.requires.place;
  is = c.in_ok-begin_fde.ensures.is ms are d;
  rows_are = c.requires.walks.rows ms are;
  kept = c.requires.walks.places;
  stands = rw c.in_ok-begin_fde.ensures.same.1 at c.in_ok-begin_fde.ensures.walks.stands;
}

-- which it has
somewhere : (c : In_ok-begin_fde) → (ms : List Member) × LocatedIn c ms no_member
somewhere c =
    let some = members_exist (table_of c.args.begun.now).target (table_of c.args.begun.now).bytes c.accepted.ensures.bytes c.accepted.ensures.accepted in (some.0, located c some.0 some.1 no_member)

pub fill_fde-requires : goal.fill_fde-requires
fill_fde-requires c =
    let there = (somewhere (goal.at.fill_fde-requires c).In_ok-begin_fde).1 in
    let begun = c.begin_fde.new.begun in record {
      room = c.requires.room;
      ready = subst (λ (u : Target). IsReady u begun) (sym c.target.ensures) c.in_ok-begin_fde.ensures.ready;
      cie_at = place_fits there;
      begin = subst (λ (u : Target). begun.fde.begin < address_limit u.size) (sym c.target.ensures) (begin_fits there);
      rises = begins_below there;
      range = subst (λ (u : Target). begun.fde.end < begun.fde.begin + address_limit u.size) (sym c.target.ensures) (range_fits there);
    }

pub returns-clause-contents : goal.returns-clause-contents
returns-clause-contents c = λ ms are d.
    let t = (table_of c.args.begun.now).target in
    let m = get_or ms c.args.fde.place d in
    let there = located (goal.at.returns-clause-contents c).In_ok-begin_fde ms are d in
    let at = c.begin_fde.new.begun.cie_at in
    let is : unsized c.target.result (fde_at c.target.result at ms m) ≡ unsized t (fde_with t ms m) = ap (λ (u : Target). unsized u (fde_at u at ms m)) c.target.ensures ∙ ap (λ (p : ℕ). unsized t (fde_at t p ms m)) (place_own there) in
    fills_as _ _ c.fill_fde.result _ _ c.fill_fde.new.out refl is (c.fill_fde.ensures.contents ms m there.is)

pub returns-clause-walks : goal.returns-clause-walks
returns-clause-walks c = walks_on c.fill_fde.result c.begin_fde.new.begun c.fill_fde.new.begun c.in_ok-begin_fde.ensures.walks c.fill_fde.ensures.section c.fill_fde.ensures.kept
