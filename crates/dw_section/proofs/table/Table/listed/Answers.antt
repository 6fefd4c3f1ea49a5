use Rattle.dw_section.proofs.{Words.{◌<◌, map, fde_in, length-map, List, length, get_or, ap, subst, ◌∙◌, arith, get_or_default, Head, IsAmong, IsRanged, Range, nonempty, range_in}, Lent.FdeLookup.{none, are_fdes, listed_are, listed_fde, ranged_of}}
use Rattle.dw_section.proofs.{Lent.HeaderLaws.one_headers, Lent.{Judged.all_get_map, Sections.range_head}, table.Table.listed.Goals.After-index}
use Rattle.dw_section.proofs.table.Table.listed.Goals as goal

inside : (c : After-index) → c.args.fde.place < length c.index.result.now
inside c =
    let list = c.index.result.now in
    omega (arith, c.requires (map fde_in list) (are_fdes c.args.self.now.target c.args.self.now.bytes list c.index.ensures), length-map list fde_in)

pub bounds-index-fde : goal.bounds-index-fde
bounds-index-fde c = inside (goal.at.bounds-index-fde c).After-index

pub offset_bounds-index-fde : goal.offset_bounds-index-fde
offset_bounds-index-fde c = omega (arith, inside (goal.at.offset_bounds-index-fde c).After-index, c.index.type_inv.1)

pub returns : goal.returns
returns c =
    let s = c.args.self.now in
    let list = c.index.result.now in
    let place = c.args.fde.place in
    let t = c.index.ensures in
    let e = get_or list place none in
    let lt = inside (goal.at.returns c).After-index in
    let is = get_or_default list place none e lt in record {
      ranged = λ hs headers. subst (λ (l : List Head). IsRanged l e) (one_headers s.target s.bytes t.indexed.headers hs t.indexed.hold.0.0.0 headers) (ranged_of s.target s.bytes list t place none lt);
      some = (range_head t.indexed.headers (range_in e) (all_get_map (λ (a : Range). IsAmong a (nonempty t.indexed.headers)) range_in list place none t.indexed.is_index.from lt)).some;
      is = λ fs are d. listed_fde list place e d lt is ∙ ap (λ l. get_or l place d) (listed_are s.target s.bytes list t fs are);
    }
