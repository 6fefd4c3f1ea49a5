-- The fields of entries, with what is refused in each: DWARF 5, 6.4.1, and versions 1 and 3 before it.
use Rattle.std.specs.Prelude.{◌≡◌, ◌⊎◌, ℕ, zero, suc, ◌+◌, ◌==◌, ◌||◌, Bool, List, [], ◌∷◌, Option, Some}
use Rattle.std.specs.{Prelude.{None, Ok, Err, ℤ, nat_le, nat_lt, position, if◌then◌else◌}, List.list_any}
use Rattle.dw_num.specs.{Fixed.Fixed, Front.{Read, fixed_at, uleb_at, sleb_at}, Input.{Input, behind}, Leb.{Uleb, Sleb}, Target.{address_limit, byte_count}}
use Rattle.dw_num.specs.declared.refusal.{Code.Code, Code.TheVariants.{Truncated, BadVersion, Augmentation, AddressSize, SegmentSelector}}
use Rattle.dw_num.specs.declared.refusal.{Code.TheVariants.{RegisterTooLarge, NoSuchCie, RangeTooLarge}, Refusal.Refusal}
use Rattle.dw_num.specs.declared.target.{Form.Form, Size.Size, Target.Target}
use Rattle.dw_op.specs.OpSpells.{Both}
use Rattle.dw_section.specs.{Cut.id_width, declared.fields.CieFields.CieFields, declared.fields.FdeFields.FdeFields}

-- ---- numbers

-- one of so many bytes, and the LEB of an unsigned or signed one
pub data Number : Type 0 where
  fixed : ℕ → Number
  unsigned : Number
  signed : Number

abbrev pub NumberValue : Number → Type 0
NumberValue signed = ℤ
NumberValue other = ℕ

abbrev pub NumberSpells : Target → (n : Number) → NumberValue n → List ℕ → Type 0
NumberSpells t (fixed width) v bytes = Fixed t.order width v bytes
NumberSpells t unsigned v bytes = Uleb v bytes
NumberSpells t signed v bytes = Sleb v bytes

-- reading one, with its fault
abbrev pub number_at : (n : Number) → Input → Read (NumberValue n)
number_at (fixed width) i = fixed_at width i
number_at unsigned i = uleb_at i
number_at signed i = sleb_at i

-- ---- fields

-- fields one after another, to what they say: a number, the code with which a value of it is refused, and what stands behind a value
pub data Fields (X : Type 0) : Type 0 where
  end : X → Fields X
  field : (n : Number) → (NumberValue n → Option Code) → (NumberValue n → Fields X) → Fields X
  -- a string that has to be empty
  empty_string : Fields X → Fields X

-- ---- the table

abbrev pub any : {X : Type 0} → X → Option Code
any x = None

abbrev pub unless : Bool → Code → Option Code
unless allowed code = if allowed then None else Some code

-- what version 4 says of addresses and of segments
abbrev pub sizes : Size → ℕ → Fields CieFields → Fields CieFields
sizes size version rest =
    if version == 4 then field (fixed 1) (λ n. unless (n == byte_count size) AddressSize) (λ n. field (fixed 1) (λ k. unless (k == 0) SegmentSelector) (λ k. rest))
    else rest

-- the return address register, a byte in version 1
abbrev pub return_register : ℕ → (ℕ → Fields CieFields) → Fields CieFields
return_register version rest = if version == 1 then field (fixed 1) any rest else field unsigned (λ r. unless (nat_lt r 65536) RegisterTooLarge) rest

-- the factors and the register
abbrev pub factors : ℕ → Fields CieFields
factors version =
    field unsigned any (λ code. field signed any (λ factor. return_register version (λ r. end (record { code_factor = code; data_factor = factor; return_register = r }))))

-- a CIE: its id, the version, the augmentation, the sizes, the factors
abbrev pub cie_fields : Size → Form → Fields CieFields
cie_fields size form =
    field (fixed (id_width form)) any (λ id. field (fixed 1) (λ v. unless (v == 1 || (v == 3 || v == 4)) BadVersion) (λ version. empty_string (sizes size version (factors version))))

-- whether a place is among places
abbrev pub is_among : ℕ → List ℕ → Bool
is_among n places = list_any (λ c. c == n) places

-- an FDE, where CIEs stand at these places: the place of its CIE, the first address and the range
abbrev pub fde_fields : Size → List ℕ → Form → Fields FdeFields
fde_fields size places form =
    field (fixed (id_width form)) (λ p. unless (is_among p places) NoSuchCie) (λ cie_at. field (fixed (byte_count size)) any (λ begin.
    field (fixed (byte_count size)) (λ n. unless (nat_le (begin + n) (address_limit size)) RangeTooLarge) (λ range. end (record { cie_at = cie_at; begin = begin; range = range }))))

-- ---- what bytes say

-- the bytes spell fields that say this
abbrev pub FieldsSpell : {X : Type 0} → Target → Fields X → X → List ℕ → Type 0
FieldsSpell t (end y) x bytes = (x ≡ y) × (bytes ≡ [])
FieldsSpell t (field n refused rest) x bytes = (v : NumberValue n) × (refused v ≡ None) × Both (NumberSpells t n v) (FieldsSpell t (rest v) x) bytes
FieldsSpell t (empty_string rest) x bytes = Both (λ b. b ≡ 0 ∷ []) (FieldsSpell t rest x) bytes

-- ---- the first fault

-- there is a code, at this place; or there is none, but a fault behind
abbrev pub Judged : Option Code → ℕ → (Refusal → Type 0) → Refusal → Type 0
Judged (Some code) at Behind r = r ≡ record { code = code; at = at }
Judged None at Behind r = Behind r

-- what is wrong with a string in which a zero is first found here: it has no end, or is not empty
abbrev pub string_fault : Option ℕ → Option Code
string_fault None = Some Truncated
string_fault (Some zero) = None
string_fault (Some (suc n)) = Some Augmentation

-- the first field that can't be read, or whose value is refused
abbrev pub FieldsFault : {X : Type 0} → Fields X → Input → Refusal → Type 0
FieldsFault (end x) i r = ⊥
FieldsFault (field n refused rest) i r =
    (number_at n i ≡ Err r) ⊎ ((v : NumberValue n) × (j : Input) × (number_at n i ≡ Ok (v, j)) × Judged (refused v) i.at (FieldsFault (rest v) j) r)
FieldsFault (empty_string rest) i r = Judged (string_fault (position (λ b. b == 0) i.bytes)) i.at (FieldsFault rest (behind 1 i)) r
