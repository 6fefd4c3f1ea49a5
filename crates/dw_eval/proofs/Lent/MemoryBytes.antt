-- Bytes of a memory in a row.
use Rattle.dw_eval.proofs.Words.{◌≡◌, ℕ, zero, suc, ◌+◌, ◌<◌, List, [], ◌∷◌, length, get_or, Option, Some, None, arith, refl, ap, add-zero, option_and_then, option_map}
use Rattle.dw_eval.specs.Bytes.{bytes_from}

none_behind : (o : Option ℕ) → option_and_then {T = ℕ} {U = List ℕ} (λ b. None) o ≡ None
none_behind None = refl
none_behind (Some b) = refl

-- a byte that is missing
pub bytes_missing : (byte : ℕ → Option ℕ) (address n k : ℕ) → k < n → byte (address + k) ≡ None → bytes_from byte address n ≡ None
bytes_missing byte address zero k lt none = absurd (omega arith)
bytes_missing byte address (suc n) zero lt none = ap (λ o. option_and_then (λ b. option_map (λ bytes. b ∷ bytes) (bytes_from byte (address + 1) n)) o) (rw add-zero at none)
bytes_missing byte address (suc n) (suc k) lt none =
    let same : address + suc k ≡ address + 1 + k = omega arith in
    rw (bytes_missing byte (address + 1) n k (omega arith) (rw same at none)) (none_behind (byte address))

-- bytes that are all there
pub bytes_all : (byte : ℕ → Option ℕ) (address : ℕ) (buffer : List ℕ) → ((k : ℕ) → k < length buffer → byte (address + k) ≡ Some (get_or buffer k 0)) → bytes_from byte address (length buffer) ≡ Some buffer
bytes_all byte address [] h = refl
bytes_all byte address (b ∷ bs) h =
    let first = rw add-zero at (h 0 (omega arith)) in
    let rest = bytes_all byte (address + 1) bs (λ k lt. let same : address + 1 + k ≡ address + suc k = omega arith in rw same (h (suc k) (omega arith))) in
    rw (first, rest) refl
