-- Addresses in the lines of a text, one a line.
use Rattle.std.specs.Prelude.{◌≡◌, ⊤, ℕ, suc, List, [], ◌∷◌, codes, Option, Some, None, Result, Ok, Err}
use Rattle.clap.specs.Words.{Text}
use Rattle.dw_num.specs.declared.target.Size.{Size}
use Rattle.dw_dump.specs.declared.fault.{DumpCode.TheVariants.BadLine, DumpError.DumpError}
use Rattle.dw_dump.specs.declared.fault.DumpError.TheVariants as dump_error
use Rattle.dw_values.specs.Values.{address}

-- a line says this address, the lines behind it say those
abbrev pub behind_line : Option ℕ → ℕ → Result (List ℕ) ℕ → Result (List ℕ) ℕ
behind_line None number later = Err number
behind_line (Some a) number (Ok more) = Ok (a ∷ more)
behind_line (Some a) number (Err n) = Err n

-- the addresses that lines say, of which the first has this number; or the number of the first line that says none
abbrev pub addresses_of : Size → ℕ → List Text → Result (List ℕ) ℕ
addresses_of size number [] = Ok []
addresses_of size number (line ∷ lines) = behind_line (address size line) number (addresses_of size (suc number) lines)

-- lines are refused: the first one that says no address, counted from 1, or memory ran out
abbrev pub RefusesLine : Size → List Text → DumpError → Type 0
RefusesLine size lines (dump_error.Fault fault) = (fault.code ≡ BadLine) × (addresses_of size 1 lines ≡ Err fault.line)
RefusesLine size lines dump_error.OutOfMemory = ⊤

-- the path of the lines: standard input, where the words name no address
abbrev pub lines_in : List ℕ → Option Text
lines_in [] = Some (codes "-")
lines_in (a ∷ named) = None
