-- How the code holds what stands in a section.
use Rattle.std.specs.Prelude.{◌≡◌, ◌+◌, List, length, Option, Some, None}
use Rattle.dw_num.specs.{Fixed.length_bytes, Input.Input, Span.span_of}
use Rattle.dw_section.specs.{Cut.{Item, Piece, gap, entry, is_cie}, Places.cie_places, declared.entry.{EntryPlaces.EntryPlaces, Placed.Placed}}

abbrev pub piece_in : Placed → Piece
piece_in p = record { at = p.at; form = p.form; kind = p.kind; contents = span_of p.contents }

-- the item that was read: a gap, or an entry
abbrev pub item_of : Option Placed → Item
item_of None = gap
item_of (Some p) = entry p.form p.contents.bytes.now

-- an entry has its place and its kind, and its contents stand behind its length
abbrev pub IsPlaced : Input → Option Placed → Type 0
IsPlaced old None = Unit {0}
IsPlaced old (Some p) =
    (p.at ≡ old.at) × (p.kind ≡ is_cie p.form p.contents.bytes.now) × (p.contents.at ≡ old.at + length (length_bytes old.target.order p.form (length p.contents.bytes.now)))

-- the CIEs among pieces stand at these places, and so many are FDEs
pub record ArePlaced (ps : List Piece) (n : EntryPlaces) : Type 0 where
  pub cies : n.cies.items ≡ cie_places ps
  pub all : length n.cies.items + n.fdes ≡ length ps
