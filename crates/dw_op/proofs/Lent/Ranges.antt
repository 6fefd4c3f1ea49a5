-- What it takes for an operation to have a spelling.
use Rattle.dw_op.proofs.Words.{◌≡◌, ◌≤◌, sym, ℕ, zero, suc, map, get_or, subst, ◌%◌, ◌^◌, ◌<◌, List, [], ◌∷◌, ◌++◌, length, refl, inr, arith, ℤ, pos, Some, slice_get, length-map, slice_get-map, slice_get-get_or, mod-eq_of_lt, mod-lt}
use Rattle.dw_op.proofs.Words.{AllByRecursion, Target, Size, Four, Eight, byte_count, address_limit, fixed_bytes, Fixed, Uleb, Sleb, Register, shortest_uleb, shortest_sleb, shortest_uleb-spells, shortest_sleb-spells, Op, Addr, Const, Pick}
use Rattle.dw_op.proofs.Words.{PlusUconst, Bra, Skip, Reg, Breg, Fbreg, Piece, DerefSize, BitPiece, Implicit, alone_code, bare, Const8u, Unsigned, Counted, modulo, Code, Both, InRange, AllInRange, FirstBadOperand}
use Rattle.dw_op.specs.Inner.Ranges.{IsTyped, Fits}
use Rattle.dw_op.proofs.{Words.{branch_target, IsSpelled, TargetWithin}, Lent.Spellings.{by_table, in_table}}

-- ---- one spelling of each operation

limit_is : (s : Size) → (address_limit s ≡ 256 ^ byte_count s) × (address_limit s ≤ 256 ^ 8)
limit_is Four = (refl, omega arith)
limit_is Eight = (refl, omega arith)

abbrev Spelt : Target → ℕ → Op → Type 0
Spelt t len op = (b : List ℕ) × IsSpelled t op b × TargetWithin len (branch_target op)

in_range_so : (t : Target) (len : ℕ) (op : Op) → IsTyped op → Fits t len op → Spelt t len (bare op)
in_range_so t len (Addr a) y h = (0x03 ∷ fixed_bytes t.order (byte_count t.size) a, record { rest = fixed_bytes t.order (byte_count t.size) a; operands = record { bytes = refl; fits = subst (λ (n : ℕ). a < n) (limit_is t.size).0 h }; whole = refl }, tt)
in_range_so t len (Const v) y h =
    let operand : Code 0x0e (Unsigned (Fixed t.order 8) (pos v)) (0x0e ∷ fixed_bytes t.order 8 v) = record { rest = fixed_bytes t.order 8 v; operands = record { number = v; is = refl; spelled = record { bytes = refl; fits = omega (arith, (limit_is t.size).1) } }; whole = refl } in
    (0x0e ∷ fixed_bytes t.order 8 v, record { form = Const8u; number = pos v; written = operand; value = let e : v % address_limit t.size ≡ v = mod-eq_of_lt h in omega arith }, tt)
in_range_so t len (Pick i) y h = (0x15 ∷ fixed_bytes t.order 1 i, record { rest = fixed_bytes t.order 1 i; operands = record { bytes = refl; fits = omega arith }; whole = refl }, tt)
in_range_so t len (PlusUconst n) y h = (0x23 ∷ shortest_uleb n, record { rest = shortest_uleb n; operands = shortest_uleb-spells n y; whole = refl }, tt)
in_range_so t len (Bra i) y h = (0x28 ∷ 0 ∷ 0 ∷ [], record { rest = 0 ∷ 0 ∷ []; operands = (0, 0, omega arith, omega arith, refl); whole = refl }, h)
in_range_so t len (Skip i) y h = (0x2f ∷ 0 ∷ 0 ∷ [], record { rest = 0 ∷ 0 ∷ []; operands = (0, 0, omega arith, omega arith, refl); whole = refl }, h)
in_range_so t len (Reg r) y h = (0x90 ∷ shortest_uleb r, inr (record { rest = shortest_uleb r; operands = (shortest_uleb-spells r (omega arith), y); whole = refl }), tt)
in_range_so t len (Breg r n) y h =
    let both : Both (Register r) (Sleb n) (shortest_uleb r ++ shortest_sleb n) = record { front = shortest_uleb r; back = shortest_sleb n; first = (shortest_uleb-spells r (omega arith), y.0); second = shortest_sleb-spells n y.1; whole = refl } in
    (0x92 ∷ (shortest_uleb r ++ shortest_sleb n), inr (record { rest = shortest_uleb r ++ shortest_sleb n; operands = both; whole = refl }), tt)
in_range_so t len (Fbreg n) y h = (0x91 ∷ shortest_sleb n, record { rest = shortest_sleb n; operands = shortest_sleb-spells n y; whole = refl }, tt)
in_range_so t len (Piece n) y h = (0x93 ∷ shortest_uleb n, record { rest = shortest_uleb n; operands = shortest_uleb-spells n y; whole = refl }, tt)
in_range_so t len (DerefSize k) y h = (0x94 ∷ fixed_bytes t.order 1 k, (record { rest = fixed_bytes t.order 1 k; operands = record { bytes = refl; fits = omega arith }; whole = refl }, h.0, h.1), tt)
in_range_so t len (BitPiece size offset) y h =
    let both : Both (Uleb size) (Uleb offset) (shortest_uleb size ++ shortest_uleb offset) = record { front = shortest_uleb size; back = shortest_uleb offset; first = shortest_uleb-spells size y.0; second = shortest_uleb-spells offset y.1; whole = refl } in
    (0x9d ∷ (shortest_uleb size ++ shortest_uleb offset), record { rest = shortest_uleb size ++ shortest_uleb offset; operands = both; whole = refl }, tt)
in_range_so t len (Implicit block) y h =
    let counted : Counted block.now (shortest_uleb (length block.now) ++ block.now) = record { front = shortest_uleb (length block.now); back = block.now; first = shortest_uleb-spells (length block.now) y; second = refl; whole = refl } in
    (0x9e ∷ (shortest_uleb (length block.now) ++ block.now), (refl, record { rest = shortest_uleb (length block.now) ++ block.now; operands = counted; whole = refl }), tt)
in_range_so t len other y h = (alone_code other ∷ [], refl, tt)

pub in_range : (t : Target) (len : ℕ) (op : Op) → IsTyped op → Fits t len op → InRange t len (bare op)
in_range t len op y h = let s = in_range_so t len op y h in record { bytes = s.0; spelled = in_table t (bare op) s.0 s.1; within_list = s.2 }

-- ---- and what a spelling says

pub modulo_below : (s : Size) (z : ℤ) → modulo (address_limit s) z < address_limit s
modulo_below Four (pos n) = mod-lt n (omega arith)
modulo_below Eight (pos n) = mod-lt n (omega arith)
modulo_below s z = omega arith

fits_so : (t : Target) (len : ℕ) (op : Op) (b : List ℕ) → IsSpelled t (bare op) b → TargetWithin len (branch_target (bare op)) → Fits t len op
fits_so t len (Addr a) b s w = subst (λ (n : ℕ). a < n) (sym (limit_is t.size).0) s.operands.fits
fits_so t len (Const v) b s w = rw s.value (modulo_below t.size s.number)
fits_so t len (Bra i) b s w = w
fits_so t len (Skip i) b s w = w
fits_so t len (DerefSize k) b s w = (s.1, s.2)
fits_so t len op b s w = tt

pub fits : (t : Target) (len : ℕ) (op : Op) → InRange t len (bare op) → Fits t len op
fits t len op r = fits_so t len op r.bytes (by_table t (bare op) r.bytes r.spelled) r.within_list

-- ---- lists

pub all_of : (P : Op → Type 0) (ops : List Op) (d : Op) → ((j : ℕ) → j < length ops → P (bare (get_or ops j d))) → AllByRecursion P (map bare ops)
all_of P [] d h = tt
all_of P (op ∷ ops) d h = (h 0 (omega arith), all_of P ops d (λ j lt. h (suc j) (omega arith)))

pub first_bad : (t : Target) (ops : List Op) (k : ℕ) (d : Op) → k < length ops → (InRange t (length ops) (bare (get_or ops k d)) → ⊥) → ((j : ℕ) → j < k → InRange t (length ops) (bare (get_or ops j d))) → FirstBadOperand t (map bare ops) k
first_bad t ops k d lt bad earlier =
    let same : length (map bare ops) ≡ length ops = length-map ops bare in
    record {
      op = bare (get_or ops k d);
      is = rw (slice_get-map bare ops k, slice_get-get_or ops k d lt) refl;
      bad = rw same bad;
      earlier = λ j other before e. rw same (
          let there : Some (bare (get_or ops j d)) ≡ Some other = rw (slice_get-map bare ops j, slice_get-get_or ops j d (omega arith)) at e in
          let is : bare (get_or ops j d) ≡ other = cc in
          subst (λ (o : Op). InRange t (length ops) o) is (earlier j before));
    }

pub listed_at : {A : Type 0} (P : A → Type 0) (xs : List A) (k : ℕ) (x : A) → AllByRecursion P xs → slice_get xs k ≡ Some x → P x
listed_at P [] k x h e = absurd cc
listed_at P (y ∷ xs) zero x h e = let is : y ≡ x = cc in subst P is h.0
listed_at P (y ∷ xs) (suc k) x h e = listed_at P xs k x h.1 e

-- a list with an operation out of range is not in range
pub not_in_range : (t : Target) (ops : List Op) (k : ℕ) → FirstBadOperand t ops k → AllInRange t ops → ⊥
not_in_range t ops k f all = f.bad (listed_at (InRange t (length ops)) ops k f.op all f.is)
