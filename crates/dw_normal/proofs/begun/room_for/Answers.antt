use Rattle.dw_normal.proofs.{Located.has_place, Placed.listed_some}
use Rattle.dw_normal.proofs.begun.room_for.Goals as goal

pub index-requires : goal.index-requires
index-requires c = listed_some c.accepted.ensures.bytes c.accepted.ensures.accepted c.requires.rows c.requires.place c.fde-fde.ensures

pub index-requires-2 : goal.index-requires-2
index-requires-2 c =
    has_place c.args.ready.now.table.target c.args.ready.now.rows.entries c.args.places.now.entries c.fde-fde.result.return_register c.requires.places
    (listed_some c.accepted.ensures.bytes c.accepted.ensures.accepted c.requires.rows c.requires.place c.fde-fde.ensures)
