-- A number whose shortest spelling is one byte, and what is appended with it.
use Rattle.dw_normal.proofs.Words.{rules, arith, ◌≡◌, ℕ, ◌+◌, ◌/◌, ◌%◌, ◌<◌, ◌≤◌, List, [], ◌∷◌, ◌++◌, refl, sym, lt-ltb, le-ltb, append_assoc, shortest_uleb}

pub one_byte : (v : ℕ) → v < 128 → v ∷ [] ≡ shortest_uleb v
unfolding shortest_uleb
one_byte v lt = rw (lt-ltb v 128 lt) refl

-- two bytes that are appended one after another
pub two_bytes : (out room one two : List ℕ) (code v : ℕ) → v < 128 → room ≡ out → one ≡ room ++ code ∷ [] → two ≡ one ++ v ∷ [] → two ≡ out ++ code ∷ shortest_uleb v
two_bytes out room one two code v lt same first second = search (rules, append_assoc, one_byte)

-- a number whose shortest spelling is two bytes
two_groups : (v : ℕ) → 128 ≤ v → v < 16384 → (128 + v % 128) ∷ v / 128 ∷ [] ≡ shortest_uleb v
unfolding shortest_uleb
two_groups v low high = rw (le-ltb v 128 low, lt-ltb (v / 128) 128 (omega arith)) refl

-- three bytes that are appended one after another
pub three_bytes : (out room one two three : List ℕ) (code v : ℕ) → 128 ≤ v → v < 16384 → room ≡ out → one ≡ room ++ code ∷ [] → two ≡ one ++ (v % 128 + 128) ∷ [] → three ≡ two ++ (v / 128) ∷ [] → three ≡ out ++ code ∷ shortest_uleb v
three_bytes out room one two three code v low high same first second third =
    rw (third, second, first, same, sym (two_groups v low high)) (search (rules, append_assoc))
