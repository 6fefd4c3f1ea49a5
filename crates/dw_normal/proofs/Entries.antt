-- The entries of a normal form, one after another.
use Rattle.dw_normal.proofs.Words.{◌≡◌, ℕ, ◌+◌, ◌-◌, ◌<◌, Bool, List, [], ◌∷◌, ◌++◌, length, take, drop, get_or, cond, Option, Some, None, Result, Err, refl, sym, ap, ◌∙◌, subst, arith, append_assoc, append-nil, IsErrAnd, take_more}
use Rattle.dw_normal.proofs.Words.{take-append-drop, is_at, AllByRecursion, nat_cmp, AreBytes, Target, Rules, Accepted, AreFdes, Fde, InstrFits, canon, cie_instrs, Member, AreMembers, entry_bytes, renders, initial_rows, cie_with}
use Rattle.dw_normal.proofs.{Words.{cies_bytes, fdes_bytes, cie_place, place_in, RowsRise, fde_with, members_exist, Output, Stop, Place, Puts, Sends, sink_at}, Joined.{ends_there, none_sent, sends_both}, Placed.{as_many, rows_fit}}
use Rattle.dw_normal.proofs.{Sited.{Placing, either_of, placing_more, rows_rise}, Summed.{canon_is, fdes_append}}

-- ---- the CIEs

-- those that were put, and those to come
pub record CiesPut {S : Type 0} (failures : S → ℕ) (taken : S → Option (List ℕ)) (t : Target) (all rest : List (ℕ × Rules)) (places : List (ℕ × ℕ)) (out out' : Output) (old new : S) : Type 0 where
  pub done : List ℕ
  pub puts : Sends out.counts done (sink_at failures taken out.room old) (sink_at failures taken out'.room new)
  pub counts : out'.counts ≡ out.counts
  pub whole : cies_bytes t all ≡ done ++ cies_bytes t rest
  pub fits : AllByRecursion (λ (row : ℕ × Rules). AllByRecursion (InstrFits t) (cie_instrs row.1)) rest
  pub placing : Placing t all rest places (out.room - out'.room)

from_none : (o p : Option ℕ) → o ≡ p → either_of o None ≡ p
from_none None p e = e
from_none (Some n) p e = e

pub cies_start : {S : Type 0} (failures : S → ℕ) (taken : S → Option (List ℕ)) (t : Target) {all rest : List (ℕ × Rules)} {places : List (ℕ × ℕ)} (out : Output) (old : S) → rest ≡ all → RowsRise 0 all → places ≡ []
    → AllByRecursion (λ (row : ℕ × Rules). AllByRecursion (InstrFits t) (cie_instrs row.1)) all → CiesPut failures taken t all rest places out out old old
cies_start failures taken t {all} {rest} {places} out old is rise none fits = record {
  done = [];
  puts = none_sent out.counts (sink_at failures taken out.room old);
  counts = refl;
  whole = ap (cies_bytes t) (sym is);
  fits = subst (λ (l : List (ℕ × Rules)). AllByRecursion (λ (row : ℕ × Rules). AllByRecursion (InstrFits t) (cie_instrs row.1)) l) (sym is) fits;
  placing = rw (none, is) (record { low = 0; rise = rise; same = λ r. let none : out.room - out.room ≡ 0 = omega arith in from_none _ _ (ap (λ (n : ℕ). cie_place t n all r) none) });
}

module _ {S : Type 0} {failures : S → ℕ} {taken : S → Option (List ℕ)} {t : Target} {all left rest : List (ℕ × Rules)} {row : ℕ × Rules} {places : List (ℕ × ℕ)} {out mid : Output} {old now : S}
    (h : CiesPut failures taken t all left places out mid old now) (more : left ≡ row ∷ rest) where
  here : CiesPut failures taken t all (row ∷ rest) places out mid old now
  here = subst (λ (l : List (ℕ × Rules)). CiesPut failures taken t all l places out mid old now) more h

  pub cie_fits : AllByRecursion (InstrFits t) (cie_instrs row.1)
  cie_fits = here.fits.0

  abbrev own : List ℕ
  own = entry_bytes t (cie_with t row)

  -- what stops it stops all
  pub cies_fail : (answer : Result Unit Stop) (e : Stop) (new : Place) → IsErrAnd answer (λ (x : Stop). x ≡ e) → Puts out.counts own (Err e) (sink_at failures taken mid.room now) new
      → Puts out.counts (cies_bytes t all) answer (sink_at failures taken out.room old) new
  cies_fail answer e new is put = ends_there out.counts here.done own (cies_bytes t rest) _ here.whole answer e _ _ new is here.puts put

  pub cies_more : (out' : Output) (new : S) {kept : List (ℕ × ℕ)} → out'.counts ≡ mid.counts → Sends out.counts own (sink_at failures taken mid.room now) (sink_at failures taken out'.room new)
      → ((q : ℕ) → place_in kept q ≡ cond (is_at (nat_cmp row.0) q) (Some (out.room - mid.room)) (place_in places q)) → CiesPut failures taken t all rest kept out out' old new
  cies_more out' new {kept = kept} same put keeps = record {
    done = here.done ++ own;
    puts = sends_both out.counts here.done own _ _ _ here.puts put;
    counts = same ∙ h.counts;
    whole = here.whole ∙ sym (append_assoc here.done own (cies_bytes t rest));
    fits = here.fits.1;
    placing = placing_more t all row rest places kept (out.room - mid.room) (out.room - out'.room) here.placing keeps (omega (arith, here.puts.1, put.1));
  }

-- ---- the FDEs

-- one more
pub fdes_then : (t : Target) (ms : List Member) (k : ℕ) (d : Member) → k < length ms → fdes_bytes t ms (take (k + 1) ms) ≡ fdes_bytes t ms (take k ms) ++ entry_bytes t (fde_with t ms (get_or ms k d))
fdes_then t ms k d lt =
    ap (fdes_bytes t ms) (take_more ms k d lt) ∙ fdes_append t ms (take k ms) (get_or ms k d ∷ [])
    ∙ ap (λ (l : List ℕ). fdes_bytes t ms (take k ms) ++ l) (append-nil (entry_bytes t (fde_with t ms (get_or ms k d))))

-- all FDEs, divided at one
pub fdes_at : (t : Target) (ms : List Member) (k : ℕ) (d : Member) → k < length ms
    → fdes_bytes t ms ms ≡ fdes_bytes t ms (take k ms) ++ (entry_bytes t (fde_with t ms (get_or ms k d)) ++ fdes_bytes t ms (drop (k + 1) ms))
fdes_at t ms k d lt =
    ap (fdes_bytes t ms) (sym (take-append-drop (k + 1) ms)) ∙ fdes_append t ms (take (k + 1) ms) (drop (k + 1) ms)
    ∙ ap (λ (l : List ℕ). l ++ fdes_bytes t ms (drop (k + 1) ms)) (fdes_then t ms k d lt)
    ∙ append_assoc (fdes_bytes t ms (take k ms)) (entry_bytes t (fde_with t ms (get_or ms k d))) (fdes_bytes t ms (drop (k + 1) ms))

-- those before one were put
abbrev pub FdesPut : Bool → Target → List ℕ → ℕ → Place → Place → Type 0
FdesPut counts t s k old new = (ms : List Member) → AreMembers t s ms → Sends counts (fdes_bytes t ms (take k ms)) old new

module _ {counts : Bool} {t : Target} {s : List ℕ} {k count : ℕ} (old mid : Place) (h : FdesPut counts t s k old mid) (all : (fs : List Fde) → AreFdes t s fs → count ≡ length fs) (some : k < count) {ms : List Member}
    (are : AreMembers t s ms) (d : Member) where
  pub fdes_fail : (answer : Result Unit Stop) (e : Stop) (new : Place) → IsErrAnd answer (λ (x : Stop). x ≡ e) → Puts counts (entry_bytes t (fde_with t ms (get_or ms k d))) (Err e) mid new
      → Puts counts (fdes_bytes t ms ms) answer old new
  fdes_fail answer e new is put =
      let lt : k < length ms = omega (arith, as_many are all, some) in
      ends_there counts (fdes_bytes t ms (take k ms)) _ (fdes_bytes t ms (drop (k + 1) ms)) _ (fdes_at t ms k d lt) answer e old mid new is (h ms are) put

  pub fdes_next : (new : Place) → Sends counts (entry_bytes t (fde_with t ms (get_or ms k d))) mid new → Sends counts (fdes_bytes t ms (take (k + 1) ms)) old new
  fdes_next new put =
      let lt : k < length ms = omega (arith, as_many are all, some) in
      subst (λ (l : List ℕ). Sends counts l old new) (sym (fdes_then t ms k d lt)) (sends_both counts (fdes_bytes t ms (take k ms)) _ old mid new (h ms are) put)

-- ---- the whole

pub canon_both : (t : Target) (ms : List Member) (rows : List (ℕ × Rules)) → rows ≡ initial_rows ms → cies_bytes t rows ++ fdes_bytes t ms ms ≡ canon t ms
canon_both t ms rows is = ap (λ (l : List (ℕ × Rules)). cies_bytes t l ++ fdes_bytes t ms ms) is ∙ sym (canon_is t ms)

-- what stops the CIEs stops the whole
pub cies_end : (counts : Bool) (t : Target) (ms : List Member) (rows : List (ℕ × Rules)) → rows ≡ initial_rows ms → (answer : Result Unit Stop) (e : Stop) (old new : Place) → IsErrAnd answer (λ (x : Stop). x ≡ e)
    → Puts counts (cies_bytes t rows) (Err e) old new → Puts counts (canon t ms) answer old new
cies_end counts t ms rows are answer e old new is put =
    ends_there counts [] (cies_bytes t rows) (fdes_bytes t ms ms) (canon t ms) (sym (canon_both t ms rows are)) answer e old old new is (none_sent counts old) put

-- the CIEs of a table can be written
pub cies_ready : {t u : Target} {s : List ℕ} {rows : List (ℕ × Rules)} → AreBytes s → Accepted t s → ((ms : List Member) → AreMembers t s ms → rows ≡ initial_rows ms) → u ≡ t
    → RowsRise 0 rows × AllByRecursion (λ (row : ℕ × Rules). AllByRecursion (InstrFits u) (cie_instrs row.1)) rows
cies_ready {t = t} {s = s} b ok initial same =
    let some = members_exist t s b ok in
    let are = initial some.0 some.1 in (subst (RowsRise 0) (sym are) (rows_rise t some.0 (renders t s b ok some.0 some.1).rise), rows_fit t s b ok some.0 some.1 same are)
