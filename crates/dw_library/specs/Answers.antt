-- What a caller in C gives and is told, in the numbers of the header.
use Rattle.std.specs.Prelude.{◌≡◌, ◌⊎◌, ◌<◌, ◌≤◌, ℕ, List, ◌++◌, length, drop, Option, Some, None, nat_eq, if◌then◌else◌}
use Rattle.dw_num.specs.{Codes.code_entry, declared.refusal.Refusal.Refusal}
use Rattle.dw_num.specs.declared.target.{Order.TheVariants.{Little, Big}, Size.Size, Size.TheVariants.{Four, Eight}, Target.Target}
use Rattle.dw_library.specs.declared.answer.{Counts.Counts, Refused.Refused}

-- ---- statuses

abbrev pub ok : ℕ
ok = 0

abbrev pub refused : ℕ
refused = 1

abbrev pub out_of_memory : ℕ
out_of_memory = 2

abbrev pub bad_argument : ℕ
bad_argument = 3

abbrev pub too_short : ℕ
too_short = 4

-- ---- what is given

abbrev pub with_order : ℕ → Size → Option Target
with_order order size =
    if nat_eq order 0 then Some (record { size = size; order = Little })
    else (if nat_eq order 1 then Some (record { size = size; order = Big }) else None)

-- the machine of an address size, 4 or 8, and a byte order, 0 for little-endian and 1 for big-endian
abbrev pub target_of : ℕ → ℕ → Option Target
target_of size order =
    if nat_eq size 4 then with_order order Four
    else (if nat_eq size 8 then with_order order Eight else None)

-- ---- what is told

abbrev pub not_refused : Refused
not_refused = record { code = 0; section = 0; at = 0 }

-- a refusal of the first or the second section
abbrev pub told : ℕ → Refusal → Refused
told section r = record { code = (code_entry r.code).0; section = section; at = r.at }

-- items at the front of a buffer, where they fit; else the buffer stays
abbrev pub AreAtFront : {A : Type 0} → List A → List A → ℕ → List A → Type 0
AreAtFront items old status new =
    ((status ≡ ok) × (length items ≤ length old) × (new ≡ items ++ drop (length items) old))
    ⊎ ((status ≡ too_short) × (length old < length items) × (new ≡ old))

abbrev pub no_entries : Counts
no_entries = record { cies = 0; fdes = 0 }
