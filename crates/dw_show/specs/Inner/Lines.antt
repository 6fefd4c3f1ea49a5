-- Lines as the code reads them, one behind another.
use Rattle.std.specs.Prelude.{◌≡◌, ℕ, ◌+◌, suc, ◌==◌, ◌≤◌, if◌then◌else◌, List, [], ◌∷◌, ◌++◌, length, Result, Ok, Err}
use Rattle.dw_num.specs.declared.target.Size.{Size}
use Rattle.dw_dump.specs.Lines.{lines_of}
use Rattle.dw_show.specs.Addresses.{addresses_of}

-- how many characters stand before the first line feed, or all of them
abbrev pub line_len : List ℕ → ℕ
line_len [] = 0
line_len (c ∷ text) = if c == 10 then 0 else suc (line_len text)

-- what lines say behind these addresses
abbrev pub behind : List ℕ → Result (List ℕ) ℕ → Result (List ℕ) ℕ
behind done (Ok more) = Ok (done ++ more)
behind done (Err number) = Err number

-- the lines up to a rest, whose first line has this number, were read, and their addresses stand behind old ones
pub record ReadUpTo (size : Size) (text rest : List ℕ) (line : ℕ) (old new : List ℕ) : Type 0 where
  pub done : List ℕ
  pub are : new ≡ old ++ done
  pub left : addresses_of size 1 (lines_of text) ≡ behind done (addresses_of size line (lines_of rest))
  pub room : line + length rest ≤ length text + 1
