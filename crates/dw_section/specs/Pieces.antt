-- The entries of a section with their contents.
use Rattle.std.specs.Prelude.{◌≡◌, ℕ, ◌≤◌, List, length, map}
use Rattle.dw_num.specs.declared.target.Target.{Target}
use Rattle.dw_section.specs.{Cut.{Item, Piece, pieces, Cut}, declared.entry.Entry.Entry}

-- these are the pieces of the section
pub record Pieces (target : Target) (s : List ℕ) (ps : List Piece) : Type 0 where
  pub small : length s ≤ 2147483647
  pub items : List Item
  pub cut : Cut target.order s items
  pub are : ps ≡ pieces target.order 0 items

-- a piece without its contents
abbrev pub entry_of : Piece → Entry
entry_of p = record { at = p.at; kind = p.kind; form = p.form; length = length p.contents.bytes }

-- these are the entries of the section, in order
pub record Entries (target : Target) (s : List ℕ) (es : List Entry) : Type 0 where
  pub parts : List Piece
  pub cut : Pieces target s parts
  pub are : es ≡ map entry_of parts
