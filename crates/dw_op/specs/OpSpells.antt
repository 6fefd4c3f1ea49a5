-- The spellings of each operation: DWARF 5, 7.7.1.
use Rattle.std.specs.Prelude.{◌≡◌, ℕ, ◌<◌, ◌≤◌, List, [], ◌∷◌, ◌++◌, length, Some}
use Rattle.dw_num.specs.{Fixed.{Fixed, FixedSigned, Address}, Leb.{Register, Uleb, Sleb}, Target.byte_count, declared.target.Target.Target}
use Rattle.dw_op.specs.Operands.{Field, fixed, twos, address, unsigned, signed, register, size, block, FieldValue, OpForm, none, one, two, branch, form_of}
use Rattle.dw_op.specs.declared.op.Op.{Op}

-- a code, and after it what spells the operands
pub record Code (code : ℕ) (Operands : List ℕ → Type 0) (bytes : List ℕ) : Type 0 where
  pub rest : List ℕ
  pub operands : Operands rest
  pub whole : bytes ≡ code ∷ rest

-- one operand after another
pub record Both (First Second : List ℕ → Type 0) (bytes : List ℕ) : Type 0 where
  pub front : List ℕ
  pub back : List ℕ
  pub first : First front
  pub second : Second back
  pub whole : bytes ≡ front ++ back

-- any two bytes, for the displacement of a branch
abbrev pub AnyTwo : List ℕ → Type 0
AnyTwo bytes = (a : ℕ) × (b : ℕ) × (a < 256) × (b < 256) × (bytes ≡ a ∷ b ∷ [])

-- the bytes spell what a field holds
abbrev pub FieldSpells : Target → (o : Field) → FieldValue o → List ℕ → Type 0
FieldSpells t (fixed n) x bytes = Fixed t.order n x bytes
FieldSpells t (twos w) z bytes = FixedSigned t.order w z bytes
FieldSpells t address a bytes = Address t a bytes
FieldSpells t unsigned n bytes = Uleb n bytes
FieldSpells t signed z bytes = Sleb z bytes
FieldSpells t register r bytes = Register r bytes
FieldSpells t size k bytes = Fixed t.order 1 k bytes × (1 ≤ k) × (k ≤ byte_count t.size)
FieldSpells t block b bytes = Both (Uleb (length b)) (λ c. c ≡ b) bytes

-- the bytes spell the fields of a form, which make the operation
abbrev pub OpFormSpells : Target → OpForm → Op → List ℕ → Type 0
OpFormSpells t (none made) op bytes = (op ≡ made) × (bytes ≡ [])
OpFormSpells t (one o make) op bytes = (x : FieldValue o) × (op ≡ make x) × FieldSpells t o x bytes
OpFormSpells t (two o p make) op bytes = (x : FieldValue o) × (y : FieldValue p) × (op ≡ make x y) × Both (FieldSpells t o x) (FieldSpells t p y) bytes
OpFormSpells t (branch to) op bytes = (i : ℕ) × (op ≡ to i) × AnyTwo bytes

-- the bytes spell the operation: a code that the table knows, and behind it its fields
pub record OpSpells (t : Target) (op : Op) (bytes : List ℕ) : Type 0 where
  pub code : ℕ
  pub form : OpForm
  pub rest : List ℕ
  pub known : form_of t code ≡ Some form
  pub whole : bytes ≡ code ∷ rest
  pub operands : OpFormSpells t form op rest
