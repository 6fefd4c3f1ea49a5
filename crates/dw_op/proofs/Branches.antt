-- Where the two bytes of a branch lead, and its displacement.
use Rattle.dw_op.proofs.Words.{◌≡◌, ℕ, zero, suc, ◌%◌, ◌/◌, ◌<◌, List, [], ◌∷◌, length, Some, sym, ap, subst, ◌∙◌, inl, inr, arith, refl, ℤ, pos, ◌-ℤ◌, FitsSigned, w16, cast_unsigned, ints, nat_tests, Order, Little, Big, AreBytes, Fixed}
use Rattle.dw_op.proofs.Words.{FixedSigned, fixed_bytes, fixed_number, length-fixed, is_fixed, AnyTwo, goes_to}

-- a displacement in two bytes leads where the number says
pub goes_displaced : (end number place : ℕ) → number < 65536 → goes_to end number ≡ Some place
    → FitsSigned w16 (pos place -ℤ pos end) × (cast_unsigned w16 (pos place -ℤ pos end) ≡ number)
goes_displaced end number place small e = (grind (arith, nat_tests, ints), grind (arith, nat_tests, ints))

-- and back
pub displaced_goes : (end number place : ℕ) → FitsSigned w16 (pos place -ℤ pos end) → cast_unsigned w16 (pos place -ℤ pos end) ≡ number → goes_to end number ≡ Some place
displaced_goes end number place fits is = grind (arith, nat_tests, ints)

-- the two bytes of a displacement are those of its number
pub displaced_fixed : (order : Order) (z : ℤ) (b : List ℕ) → FixedSigned order w16 z b → Fixed order 2 (cast_unsigned w16 z) b
displaced_fixed order z b f = record { bytes = f.bytes; fits = omega (arith, ints, f.fits) }

pub fixed_displaced : (order : Order) (number : ℕ) (z : ℤ) (b : List ℕ) → Fixed order 2 number b → FitsSigned w16 z → cast_unsigned w16 z ≡ number → FixedSigned order w16 z b
fixed_displaced order number z b f fits is = record { bytes = f.bytes ∙ ap (λ (n : ℕ). fixed_bytes order 2 n) (sym is); fits = fits }

pub bytes_of_two : (order : Order) (n : ℕ) → AnyTwo (fixed_bytes order 2 n)
bytes_of_two Little n = (n % 256, n / 256 % 256, omega arith, omega arith, grind arith)
bytes_of_two Big n = (n / 256 % 256, n % 256, omega arith, omega arith, grind arith)

pub fixed_any : (order : Order) (n : ℕ) (b : List ℕ) → Fixed order 2 n b → AnyTwo b
fixed_any order n b f = subst AnyTwo (sym f.bytes) (bytes_of_two order n)

pair_bytes : (a b : ℕ) → a < 256 → b < 256 → AreBytes (a ∷ b ∷ [])
pair_bytes a b ha hb zero = ha
pair_bytes a b ha hb (suc zero) = hb
pair_bytes a b ha hb (suc (suc k)) = omega arith

pub any_fixed : (order : Order) (b : List ℕ) → AnyTwo b → Fixed order 2 (fixed_number order 2 b) b
any_fixed order b h =
    subst (λ (l : List ℕ). Fixed order 2 (fixed_number order 2 l) l) (sym h.4)
    (is_fixed order 2 (h.0 ∷ h.1 ∷ []) (inr (inl refl)) (omega arith) (pair_bytes h.0 h.1 h.2 h.3))

pub length-two : (order : Order) (n : ℕ) (b : List ℕ) → Fixed order 2 n b → length b ≡ 2
length-two order n b f = ap length f.bytes ∙ length-fixed order 2 n
