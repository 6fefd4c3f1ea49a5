-- What a code says.
use Rattle.dw_cfa.proofs.Words.{◌≡◌, ℕ, ◌+◌, ◌-◌, ◌<◌, Option, Some, ap, subst, arith, inl, inr, if◌then◌else◌, cases_Bool, in_range, some_is, EachEntry, looked_up, range_is, within, above, Opcode, opcode_table, opcode_of}
use Rattle.dw_cfa.specs.declared.opcode.Opcode.TheVariants as opcodes

ranged : (P : Opcode → ℕ → Type 0) (lo hi code : ℕ) (make : ℕ → Opcode) (opcode : Opcode) (other : Option Opcode) → (if in_range lo hi code then Some (make (code - lo)) else other) ≡ Some opcode
    → ((n : ℕ) → n < hi - lo → P (make n) (lo + n)) → (other ≡ Some opcode → P opcode code) → P opcode code
ranged P lo hi code make opcode other e here rest = elim (cases_Bool (in_range lo hi code)) [
  | inl y ↦
      let r = range_is lo hi code y in
      let is : lo + (code - lo) ≡ code = omega (arith, r.0) in
      subst (λ (x : Opcode). P x code) (some_is (make (code - lo)) opcode (rw y at e)) (subst (P (make (code - lo))) is (here (code - lo) (omega (arith, r.0, r.1))))
  | inr n ↦ rest (rw n at e)
]

-- what holds of each entry of the table, and of the codes with an operand in their low six bits, holds of every opcode
pub opcode_known : (P : Opcode → ℕ → Type 0) → EachEntry P opcode_table → ((n : ℕ) → n < 64 → P (opcodes.AdvanceLoc n) (0x40 + n) × P (opcodes.Offset n) (0x80 + n) × P (opcodes.Restore n) (0xc0 + n))
    → (code : ℕ) (opcode : Opcode) → opcode_of code ≡ Some opcode → P opcode code
unfolding opcode_of
opcode_known P entries low code opcode e =
    ranged P 0x40 0x80 code opcodes.AdvanceLoc opcode _ e (λ n lt. (low n lt).0) (λ e1. ranged P 0x80 0xc0 code opcodes.Offset opcode _ e1 (λ n lt. (low n lt).1) (λ e2.
    ranged P 0xc0 0x100 code opcodes.Restore opcode _ e2 (λ n lt. (low n lt).2) (looked_up P opcode_table code opcode entries)))

pub low_known : (n : ℕ) → n < 64 → (opcode_of (0x40 + n) ≡ Some (opcodes.AdvanceLoc n)) × (opcode_of (0x80 + n) ≡ Some (opcodes.Offset n)) × (opcode_of (0xc0 + n) ≡ Some (opcodes.Restore n))
unfolding opcode_of
low_known n lt = (
  rw (within 0x40 0x80 (0x40 + n) (omega arith) (omega arith)) (ap (λ (m : ℕ). Some (opcodes.AdvanceLoc m)) (omega arith)),
  rw (above 0x40 0x80 (0x80 + n) (omega arith) (omega arith), within 0x80 0xc0 (0x80 + n) (omega arith) (omega arith)) (ap (λ (m : ℕ). Some (opcodes.Offset m)) (omega arith)),
  rw (above 0x40 0x80 (0xc0 + n) (omega arith) (omega arith), above 0x80 0xc0 (0xc0 + n) (omega arith) (omega arith), within 0xc0 0x100 (0xc0 + n) (omega arith) (omega arith)) (ap (λ (m : ℕ). Some (opcodes.Restore m)) (omega arith)),
)

-- entry by entry
infixr 2 ◌&◌
pub ◌&◌ : {A B : Type 0} → A → B → A × B
a & b = (a, b)
