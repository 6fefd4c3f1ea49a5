-- Reading the fields of an entry as the code does it: field by field of the table of specs/Fields.antt.
use Rattle.std.specs.Prelude.{◌≡◌, ℕ, ◌+◌, ◌==◌, ◌||◌, nat_le, Option, Some, None, Result, Ok, Err, position}
use Rattle.dw_num.specs.{Front.{Read, fault, ◌>>=◌}, Input.{Input, behind}, Target.{address_limit, byte_count}}
use Rattle.dw_num.specs.declared.{refusal.Code.Code, refusal.Code.TheVariants.{BadVersion, RangeTooLarge}, refusal.Refusal.Refusal, target.Size.Size}
use Rattle.dw_section.specs.Fields.{Fields, any, end, field, empty_string, fixed, number_at, string_fault, unless, sizes, factors}
use Rattle.dw_section.specs.declared.fields.{CieFields.CieFields, FdeFields.FdeFields}

abbrev pub judged : {X : Type 0} → Option Code → ℕ → Read X → Read X
judged None at rest = rest
judged (Some code) at rest = fault code at

abbrev pub behind_field : {X V : Type 0} → (V → Option Code) → ℕ → (V → Input → Read X) → V × Input → Read X
behind_field refused at rest v = judged (refused v.0) at (rest v.0 v.1)

abbrev pub fields_at : {X : Type 0} → Fields X → Input → Read X
fields_at (end x) i = Ok (x, i)
fields_at (field n refused rest) i = number_at n i >>= behind_field refused i.at (λ v. fields_at (rest v))
fields_at (empty_string rest) i = judged (string_fault (position (λ b. b == 0) i.bytes)) i.at (fields_at rest (behind 1 i))

-- a part of a table is read and leaves the rest, or is refused
abbrev pub Passes : {T X : Type 0} → Result T Refusal → Read X → (T → Read X) → Type 0
Passes (Ok v) whole rest = whole ≡ rest v
Passes (Err e) whole rest = whole ≡ Err e

-- the fields of a CIE behind its id
abbrev pub behind_id : Size → Fields CieFields
behind_id size = field (fixed 1) (λ v. unless (v == 1 || (v == 3 || v == 4)) BadVersion) (λ version. empty_string (sizes size version (factors version)))

-- the fields of an FDE behind the place of its CIE
abbrev pub behind_pointer : Size → ℕ → Fields FdeFields
behind_pointer size cie_at =
    field (fixed (byte_count size)) any (λ begin. field (fixed (byte_count size)) (λ n. unless (nat_le (begin + n) (address_limit size)) RangeTooLarge) (λ range.
    end (record { cie_at = cie_at; begin = begin; range = range })))
