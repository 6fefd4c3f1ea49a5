-- Places of what is written, and how many rows its programs start.
use Rattle.dw_canon.proofs.Words.{◌≡◌, ℕ, ◌+◌, ◌*◌, ◌%◌, List, [], ◌∷◌, ◌++◌, length, refl, sym, ap, ◌∙◌, append_assoc, arith, inl, inr, replicate, AllByRecursion, AllZip, length-append, length-replicate, Dwarf32, Size, Four, Eight, Target}
use Rattle.dw_canon.proofs.Words.{byte_count, fixed_bytes, length-fixed, Instr, row_starts, Head, head_at, FdeSays, Starts, RowStarts, total, IsAmong, Written, cie, fde, fields_of, program_of, nops_of, filled, contents, entry_bytes}
use Rattle.dw_canon.proofs.Words.{section_bytes, missing, fde_field_bytes, span_of, head_of, heads_at, ranges_at, Fits, Runs, IsSection, nops, row_starts_nops}
use Rattle.dw_canon.proofs.{Accepts.{begun, instrs_so, written_index}, Lent.Fields.{entry_length, written_headers}}

-- ---- places

filled_up : (size : Size) (n : ℕ) → (n + missing size n) % byte_count size ≡ 0
filled_up Four n = omega arith
filled_up Eight n = omega arith

contents_length : (target : Target) (w : Written) → length (contents target w) ≡ length (fields_of target w) + (length (program_of w) + nops_of target w)
contents_length target w = omega (
  arith,
  length-append (fields_of target w) (filled (nops_of target w) (program_of w)),
  length-append (program_of w) (replicate (nops_of target w) 0),
  length-replicate {A = ℕ} (nops_of target w) 0,
)

-- each entry, with its length, is a multiple of the address size
pub entry_aligned : (target : Target) (w : Written) → length (entry_bytes target w) % byte_count target.size ≡ 0
entry_aligned target w = grind (arith, entry_length, contents_length, filled_up)

both_aligned : (size : Size) (a b : ℕ) → a % byte_count size ≡ 0 → b % byte_count size ≡ 0 → (a + b) % byte_count size ≡ 0
both_aligned Four a b h k = omega arith
both_aligned Eight a b h k = omega arith

place_is : (target : Target) (at : ℕ) (w : Written) → head_at (head_of target at w) ≡ at
place_is target at (cie register instrs program) = refl
place_is target at (fde c b n instrs program) = refl

-- so each stands at one
pub places_aligned : (target : Target) (at : ℕ) (ws : List Written) → at % byte_count target.size ≡ 0 → AllByRecursion (λ (h : Head). head_at h % byte_count target.size ≡ 0) (heads_at target at ws)
places_aligned target at [] h = tt
places_aligned target at (w ∷ ws) h =
    (ap (λ (n : ℕ). n % byte_count target.size) (place_is target at w) ∙ h, places_aligned target (at + length (entry_bytes target w)) ws (both_aligned target.size at (length (entry_bytes target w)) h (entry_aligned target w)))

-- ---- rows that programs start

-- how many rows the FDEs that are written start
abbrev pub starts_of : List Written → List ℕ
starts_of [] = []
starts_of (cie register instrs program ∷ ws) = starts_of ws
starts_of (fde c b n instrs program ∷ ws) = row_starts instrs ∷ starts_of ws

module _ (target : Target) (ws : List Written) (is : IsSection target ws) where
  each_starts : (at : ℕ) (rest : List Written) → AllByRecursion (Fits target ws) rest → AllByRecursion (Runs target ws) rest → ((h : Head) → IsAmong h (heads_at target at rest) → IsAmong h (heads_at target 0 ws))
      → AllZip (Starts target (section_bytes target ws)) (ranges_at target at rest) (starts_of rest)
  each_starts at [] f r into = tt
  each_starts at (cie register instrs program ∷ rest) f r into = each_starts (at + length (entry_bytes target (cie register instrs program))) rest f.1 r.1 (λ h i. into h (inr i))
  each_starts at (fde c b n instrs program ∷ rest) f r into =
      let w = fde c b n instrs program in
      let stands = f.0.4 in
      let begins = begun target ws is.fits is.runs c stands.0 stands.1 stands.2 in
      let says : FdeSays target (section_bytes target ws) b (b + n) (stands.1 ++ nops begins.n) (instrs ++ nops (nops_of target w)) = record {
        headers = heads_at target 0 ws;
        are = written_headers target ws is.small is.fits;
        head = record { at = at; form = Dwarf32; cie_at = c; begin = b; range = n; program = span_of target at w };
        among = into (head_of target at w) (inl refl);
        begin_is = refl;
        end_is = refl;
        spelled = instrs_so target ws is.fits is.runs at c b n instrs program stands.0 stands.1 begins r.0.0;
      } in (
        (stands.1 ++ nops begins.n, instrs ++ nops (nops_of target w), says, refl, sym (row_starts_nops instrs (nops_of target w))),
        each_starts (at + length (entry_bytes target w)) rest f.1 r.1 (λ h i. into h (inr i)),
      )

  pub written_starts : RowStarts target (section_bytes target ws) (total (starts_of ws))
  written_starts = grind (arith, written_headers, written_index, each_starts)

-- ---- how long it is

-- the bytes of entries in a row are those of the first, and then those of the others
pub section_append : (target : Target) (xs ys : List Written) → section_bytes target (xs ++ ys) ≡ section_bytes target xs ++ section_bytes target ys
section_append target [] ys = refl
section_append target (x ∷ xs) ys = ap (λ (l : List ℕ). entry_bytes target x ++ l) (section_append target xs ys) ∙ sym (append_assoc (entry_bytes target x) (section_bytes target xs) (section_bytes target ys))

-- n bytes, and the nops behind them
abbrev pub up : Size → ℕ → ℕ
up size n = n + missing size n

pub entry_up : (target : Target) (w : Written) → length (entry_bytes target w) ≡ up target.size (4 + (length (fields_of target w) + length (program_of w)))
entry_up target w = omega (arith, entry_length target w, contents_length target w)

-- an FDE's length, wherever its CIE stands
pub fde_length : (target : Target) (c b n : ℕ) (instrs : List Instr) (program : List ℕ) → length (entry_bytes target (fde c b n instrs program)) ≡ up target.size (8 + 2 * byte_count target.size + length program)
fde_length target c b n instrs program =
    let first = fixed_bytes target.order 4 c in
    let second = fixed_bytes target.order (byte_count target.size) b in
    let third = fixed_bytes target.order (byte_count target.size) n in
    let fields : 4 + (length (fde_field_bytes target c b n) + length program) ≡ 8 + 2 * byte_count target.size + length program =
    omega (
      arith,
      length-append first (second ++ third),
      length-append second third,
      length-fixed target.order 4 c,
      length-fixed target.order (byte_count target.size) b,
      length-fixed target.order (byte_count target.size) n,
    ) in
    entry_up target (fde c b n instrs program) ∙ ap (up target.size) fields
