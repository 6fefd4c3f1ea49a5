-- What is printed: the texts of the answers, as lists of bytes. Numbers are decimal, addresses and values hexadecimal.
use Rattle.std.specs.{Prelude.{ℕ, suc, Bool, false, List, [], ◌∷◌, ◌++◌, codes, decimal, if◌then◌else◌, Option, Some, None}, Fmt.digits}
use Rattle.hex.specs.Hex.{encode_lower}
use Rattle.dw_num.specs.declared.target.{Form.Form, Form.TheVariants.{Dwarf32, Dwarf64}}
use Rattle.dw_op.specs.declared.op.Op.{Op}
use Rattle.dw_section.specs.declared.entry.{Entry.Entry, EntryCounts.EntryCounts, Kind.Kind, Kind.TheVariants.{Cie, Fde}}
use Rattle.dw_frame.specs.declared.frame.Frame.{Frame}
use Rattle.dw_show.specs.OpTexts.{op_text}

abbrev pub line_end : List ℕ
line_end = 10 ∷ []

-- a line, or more, of each
abbrev pub lines : {A : Type 0} → (A → List ℕ) → List A → List ℕ
lines text [] = []
lines text (x ∷ xs) = text x ++ lines text xs

-- in lower case, without leading zeros
abbrev pub hexadecimal : ℕ → List ℕ
hexadecimal n = codes "0x" ++ digits 16 false n

-- `check`: a section of so many bytes
abbrev pub counts_text : EntryCounts → ℕ → List ℕ
counts_text counts bytes = codes "ok cies=" ++ decimal counts.cies ++ codes " fdes=" ++ decimal counts.fdes ++ codes " bytes=" ++ decimal bytes ++ line_end

-- `same`
abbrev pub sameness_text : Bool → List ℕ
sameness_text same = if same then codes "same" ++ line_end else codes "different" ++ line_end

-- `eval`
abbrev pub value_text : ℕ → List ℕ
value_text value = hexadecimal value ++ line_end

-- ---- `expr`

-- operations, each behind its index, the first of them being this one
abbrev pub numbered : ℕ → List Op → List ℕ
numbered index [] = []
numbered index (op ∷ ops) = decimal index ++ codes " " ++ op_text op ++ line_end ++ numbered (suc index) ops

abbrev pub least_text : List ℕ → List ℕ
least_text [] = codes "least" ++ line_end
least_text least = codes "least " ++ encode_lower least ++ line_end

-- the operations of a block, and its least spelling
abbrev pub block_text : List Op → List ℕ → List ℕ
block_text ops least = numbered 0 ops ++ least_text least

-- ---- `entries`

abbrev pub kind_text : Kind → List ℕ
kind_text Cie = codes " cie "
kind_text Fde = codes " fde "

abbrev pub form_text : Form → List ℕ
form_text Dwarf32 = codes "32 "
form_text Dwarf64 = codes "64 "

abbrev pub entry_text : Entry → List ℕ
entry_text entry = hexadecimal entry.at ++ kind_text entry.kind ++ form_text entry.form ++ decimal entry.length ++ line_end

-- ---- `cost`

-- a name, of the section, of its normal form
abbrev pub cost_text : List ℕ → ℕ → ℕ → List ℕ
cost_text name source normal = name ++ decimal source ++ codes " " ++ decimal normal ++ line_end

-- ---- `unwind`

abbrev pub register_text : ℕ × Option ℕ → List ℕ
register_text (register, Some value) = codes "r" ++ decimal register ++ codes " 0x" ++ digits 16 false value ++ line_end
register_text (register, None) = codes "r" ++ decimal register ++ codes " undefined" ++ line_end

abbrev pub frame_text : Frame → List ℕ
frame_text frame = codes "cfa " ++ hexadecimal frame.cfa ++ line_end ++ codes "ra r" ++ decimal frame.return_register ++ line_end ++ lines register_text frame.registers
