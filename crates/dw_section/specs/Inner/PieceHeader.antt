-- Reading the header of a piece as the code does it.
use Rattle.std.specs.Prelude.{◌≡◌, ℕ, List, Option, Some, None, Result, Ok}
use Rattle.dw_num.specs.{Front.{fixed_at, ◌>>=◌}, Input.Input, Span.{Span, span_of, input_of}}
use Rattle.dw_num.specs.declared.{refusal.Refusal.Refusal, target.Target.Target}
use Rattle.dw_section.specs.{Cut.{Piece, id_width}, Fields.{cie_fields, fde_fields}, Headers.{CieHead, FdeHead, Head, Has, cie, fde, cie_head, fde_head}}
use Rattle.dw_section.specs.declared.{fields.CieFields.CieFields, fields.FdeFields.FdeFields, header.FdeEntry.FdeEntry}
use Rattle.dw_section.specs.{declared.header.Initial.Initial, Inner.Fields.fields_at}
use Rattle.dw_section.specs.declared.entry.Kind.TheVariants as kind

abbrev pub contents_of : Target → Piece → Input
contents_of target p = input_of target p.contents

abbrev pub program_of : Input → Span
program_of i = record { at = i.at; bytes = i.bytes }

abbrev pub cie_of_piece : Piece → CieFields × Input → Result Head Refusal
cie_of_piece p f = Ok (cie_head p f.0 (program_of f.1))

-- the header of a CIE, or what is wrong in it
unfoldable pub cie_at : Target → Piece → Result Head Refusal
cie_at target p = fields_at (cie_fields target.size p.form) (contents_of target p) >>= cie_of_piece p

-- reading the place of its CIE at the front of an FDE leaves this
abbrev pub PointsBehind : Target → Piece → ℕ → Input → Type 0
PointsBehind target p cie_at behind = (fixed_at (id_width p.form) (contents_of target p) ≡ Ok (cie_at, behind)) × (behind.target ≡ target)

abbrev pub fde_of_piece : Piece → FdeFields × Input → Result Head Refusal
fde_of_piece p f = Ok (fde_head p f.0 (program_of f.1))

-- the header of an FDE, or what is wrong in it
unfoldable pub fde_at : Target → List ℕ → Piece → Result Head Refusal
fde_at target places p = fields_at (fde_fields target.size places p.form) (contents_of target p) >>= fde_of_piece p

-- ---- what the code holds

-- the header of a CIE that is kept
abbrev pub initial_head : Initial → CieHead
initial_head c =
    record { at = c.at; form = c.form; code_factor = c.factors.code_factor; data_factor = c.factors.data_factor; return_register = c.return_register; program = span_of c.program }

abbrev pub initial_in : Initial → Head
initial_in c = cie (initial_head c)

-- the header of an FDE that was read
abbrev pub entry_head : FdeEntry → FdeHead
entry_head e = record { at = e.at; form = e.form; cie_at = e.cie_at; begin = e.begin; range = e.range; program = span_of e.program }

abbrev pub entry_in : FdeEntry → Head
entry_in e = fde (entry_head e)

-- what a piece says that is an FDE; of a CIE it is nothing
abbrev pub SaysFde : Target → List ℕ → Piece → Option FdeEntry → Type 0
SaysFde target places p None = p.kind ≡ kind.Cie
SaysFde target places p (Some e) = Has target places p (entry_in e)

-- the same of its header
abbrev pub Tells : Option FdeEntry → Head → Type 0
Tells None (cie c) = Unit {0}
Tells None (fde f) = ⊥
Tells (Some e) h = h ≡ entry_in e
