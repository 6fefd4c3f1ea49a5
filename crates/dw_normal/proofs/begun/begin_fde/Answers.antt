use Rattle.dw_normal.proofs.Words.{get_or, List, map, ap, ◌∙◌, get_or-map, Member, AreMembers, fde_of, members_exist, Begun, IsBegun, Walks, IsReady, Known, NotesSame, row_or_blank, shown_row, StandsApart}
use Rattle.dw_normal.proofs.{Apartness.{known_first, still_same}, Filled.on_ok, Grouped.no_member, Located.has_place, Placed.{below, listed_row, listed_some, ready_at, same_row}, begun.begin_fde.Goals.After-list}
use Rattle.dw_normal.proofs.begun.begin_fde.Goals as goal

pub shared_row-shared-requires-clause-some : goal.shared_row-shared-requires-clause-some
shared_row-shared-requires-clause-some c = listed_some c.accepted.ensures.bytes c.accepted.ensures.accepted c.requires.walks.rows c.requires.place c.fde-begun.ensures

pub cie_of-begun-requires-clause-some : goal.cie_of-begun-requires-clause-some
cie_of-begun-requires-clause-some c =
    let ready = c.args.begun.now.ready.now in
    has_place ready.table.target ready.rows.entries c.args.begun.now.places.now.entries c.fde-begun.result.return_register c.requires.walks.places
    (listed_some c.accepted.ensures.bytes c.accepted.ensures.accepted c.requires.walks.rows c.requires.place c.fde-begun.ensures)

pub list-requires-clause-known : goal.list-requires-clause-known
list-requires-clause-known c =
    let ready = c.args.begun.now.ready.now in
    known_first ready.table ready.rows.entries c.fde-begun.result.return_register c.shared_row-shared.result.now c.shared_row-shared.ensures c.go_behind_first.new.changes c.in_ok-behind.behind
    c.go_behind_first.new.changed c.args.begun.now.apart.known.cies c.in_ok-behind.ensures.section c.in_ok-behind.ensures.stands c.requires.walks.known

abbrev new : After-list → Begun
new c = record {
  ready = c.args.begun.now.ready;
  places = c.args.begun.now.places;
  fde = c.fde-begun.result;
  shared = c.shared_row-shared.result;
  cie_at = c.cie_of-begun.result;
  changes = c.go_behind_first.new.changes;
  apart = c.list.new.self;
}

begins : (c : After-list) (ms : List Member) → AreMembers c.args.begun.now.ready.now.table.target c.args.begun.now.ready.now.table.bytes ms → (d : Member) → IsBegun ms (get_or ms c.args.fde.place d) (new c)
begins c ms are d =
    let behind = c.in_ok-behind.ensures.behind ms are d in record {
      fde = c.fde-begun.ensures (map fde_of ms) are.fdes (fde_of d) ∙ get_or-map fde_of ms c.args.fde.place d;
      shared = same_row _ _ _ c.shared_row-shared.ensures (listed_row c.accepted.ensures.bytes c.accepted.ensures.accepted c.requires.walks.rows c.requires.place c.fde-begun.ensures ms are d);
      first = ap row_or_blank behind.shown;
      later = behind.later;
    }

pub returns-clause-is : goal.returns-clause-is
returns-clause-is c = λ ms are d. on_ok c.list.result _ _ (λ apart. begins (goal.at.returns-clause-is c).After-list ms are d) c.list.ensures.stands

pub returns-clause-ready : goal.returns-clause-ready
returns-clause-ready c =
    let at = (goal.at.returns-clause-ready c).After-list in
    let t = c.args.begun.now.ready.now.table.target in
    let s = c.args.begun.now.ready.now.table.bytes in
    let some = members_exist t s c.accepted.ensures.bytes c.accepted.ensures.accepted in
    let is = begins at some.0 some.1 no_member in
    on_ok c.list.result (StandsApart c.list.new.self c.shared_row-shared.result.now (shown_row c.go_behind_first.new.changes)) (IsReady t (new at))
    (λ apart. ready_at t s c.accepted.ensures.bytes c.accepted.ensures.accepted some.0 some.1 c.args.fde.place no_member (below c.args.fde.place some.1 c.requires.place) (new at) is c.in_ok-behind.ensures.shown apart)
    c.list.ensures.stands

pub returns-clause-walks : goal.returns-clause-walks
returns-clause-walks c =
    let at = (goal.at.returns-clause-walks c).After-list in
    let ready = c.args.begun.now.ready.now in
    let shared = c.shared_row-shared.result.now in
    let behind = c.in_ok-behind.behind in
    let register = c.fde-begun.result.return_register in
    let known : Known = record { changed = c.go_behind_first.new.changed; cies = c.args.begun.now.apart.known.cies; alloc = c.args.begun.now.apart.known.alloc } in
    let cies = c.list.new.self.known.cies in
    on_ok c.list.result (NotesSame behind register known shared (shown_row c.go_behind_first.new.changes) cies) (Walks (new at))
    (λ notes. record {
      rows = c.requires.walks.rows;
      places = c.requires.walks.places;
      low = c.requires.walks.low;
      section = c.in_ok-behind.ensures.section;
      shared = c.shared_row-shared.ensures;
      stands = c.cie_of-begun.ensures;
      known =
          still_same ready.table ready.rows.entries register shared c.shared_row-shared.ensures c.go_behind_first.new.changes behind known cies
          (λ place x y. c.cited_laws.ensures.left ready.table.target ready.table.bytes place x y c.accepted.ensures.bytes) c.in_ok-behind.ensures.section c.in_ok-behind.ensures.stands c.requires.walks.known notes;
    })
    c.list.ensures.known
