-- What is read of the table part by part; and what the table says of its numbers.
use Rattle.dw_num.proofs.Lent.FixedLaws.{address_is_width}
use Rattle.dw_section.proofs.Words.{◌≡◌, ℕ, ◌+◌, ◌<◌, ◌≤◌, ◌==◌, ◌^◌, Bool, true, false, List, None, Ok, Err, refl, sym, ap, subst, arith, inl, inr, Result, IsErrAnd, w64, ℤ, FitsSigned, nat_le, cond, nat_lt, leb-true, ltb-true, cond_both}
use Rattle.dw_section.proofs.Words.{Code, NoSuchCie, Form, Dwarf32, Dwarf64, Size, Target, IsWidth, Read, address_limit, byte_count, CieFields, FdeFields, id_width, Fields, end, field, cie_fields, is_among, fde_fields, FieldsSpell, fixed}
use Rattle.dw_section.proofs.{Words.{unsigned, Refusal, AddressSize, SegmentSelector, RangeTooLarge, RegisterTooLarge, any, unless, factors, Passes}, FieldLaws.AreNumbers}

-- ---- a part of the table, and the rest

-- what a `?` hands on is what the whole is refused with
pub refused_on : {T X : Type 0} (r : Result T Refusal) {x : Refusal} (whole : Read X) (rest : T → Read X) → IsErrAnd r (λ y. y ≡ x) → whole ≡ Err x → Passes r whole rest
refused_on (Ok v) whole rest is e = absurd is
refused_on (Err y) whole rest is e = rw is e

pub passes_then : {T X : Type 0} (r : Result T Refusal) (whole part : Read X) (rest : T → Read X) → whole ≡ part → Passes r part rest → Passes r whole rest
passes_then r whole part rest e p = rw e p

-- ---- the table has numbers alone

width_is : (form : Form) → IsWidth (id_width form)
width_is Dwarf32 = inr (inr (inl refl))
width_is Dwarf64 = inr (inr (inr refl))

abbrev Numbers : Fields CieFields → Type 0
Numbers fs = AreNumbers fs

pub cie_numbers : (size : Size) (form : Form) → AreNumbers (cie_fields size form)
cie_numbers size form = (
  width_is form,
  λ id. (
    inl refl,
    λ v.
        let tail : AreNumbers (factors v) = (tt, λ code. (tt, λ factor. cond_both (v == 1) _ _ Numbers (λ e. (inl refl, λ r. tt)) (λ e. (tt, λ r. tt)))) in
        cond_both (v == 4) _ (factors v) Numbers (λ e. (inl refl, λ n. (inl refl, λ k. tail))) (λ e. tail),
  ),
)

pub fde_numbers : (size : Size) (places : List ℕ) (form : Form) → AreNumbers (fde_fields size places form)
fde_numbers size places form = (width_is form, λ cie_at. (address_is_width size, λ begin. (address_is_width size, λ range. tt)))

-- ---- what they say

either_spells : (t : Target) (b : Bool) (size : Size) (rest : Fields CieFields) (f : CieFields) (bytes : List ℕ)
    → FieldsSpell t (cond b (field (fixed 1) (λ n. unless (n == byte_count size) AddressSize) (λ n. field (fixed 1) (λ k. unless (k == 0) SegmentSelector) (λ k. rest))) rest) f bytes
    → (c : List ℕ) × FieldsSpell t rest f c
either_spells t true size rest f bytes h = (h.2.second.2.back, h.2.second.2.second)
either_spells t false size rest f bytes h = (bytes, h)

allowed : (b : Bool) (code : Code) → unless b code ≡ None → b ≡ true
allowed true code e = refl
allowed false code e = absurd cc

register_low : (t : Target) (b : Bool) (make : ℕ → CieFields) (f : CieFields) (bytes : List ℕ) → FieldsSpell t (cond b (field (fixed 1) any (λ r. end (make r))) (field unsigned (λ r. unless (nat_lt r 65536) RegisterTooLarge) (λ r. end (make r)))) f bytes
    → (r : ℕ) × (r < 65536) × (f ≡ make r)
register_low t true make f bytes h = (h.0, omega (arith, h.2.first.fits), h.2.second.0)
register_low t false make f bytes h = (h.0, ltb-true h.0 65536 (allowed (nat_lt h.0 65536) RegisterTooLarge h.1), h.2.second.0)

pub cie_said : (t : Target) (size : Size) (form : Form) (f : CieFields) (b : List ℕ) → FieldsSpell t (cie_fields size form) f b → FitsSigned w64 f.data_factor × (f.return_register < 65536)
cie_said t size form f b h =
    let v = h.2.second.0 in
    let tail = either_spells t (v == 4) size (factors v) f h.2.second.2.second.back h.2.second.2.second.second in
    let code = tail.1 in
    let factor = code.2.second in
    let make : ℕ → CieFields = λ r. record { code_factor = code.0; data_factor = factor.0; return_register = r } in
    let r = register_low t (v == 1) make f factor.2.back factor.2.second in
    let is = r.2 in
    (subst (λ (x : ℤ). FitsSigned w64 x) (ap (λ (x : CieFields). x.data_factor) (sym is)) factor.2.first.fits, subst (λ (n : ℕ). n < 65536) (ap (λ (x : CieFields). x.return_register) (sym is)) r.1)

-- an FDE names one of the places, its addresses have an address's bytes, and its range lies in the address space
pub record Ranges (target : Target) (places : List ℕ) (f : FdeFields) : Type 0 where
  pub names_cie : is_among f.cie_at places ≡ true
  pub begin_fits : f.begin < 256 ^ byte_count target.size
  pub range_fits : f.range < 256 ^ byte_count target.size
  pub in_space : f.begin + f.range ≤ address_limit target.size

pub fde_said : (target : Target) (places : List ℕ) (form : Form) (f : FdeFields) (b : List ℕ) → FieldsSpell target (fde_fields target.size places form) f b → Ranges target places f
fde_said target places form f b h =
    let begin = h.2.second in
    let range = begin.2.second in
    let said : Ranges target places (record { cie_at = h.0; begin = begin.0; range = range.0 }) = record {
      names_cie = allowed (is_among h.0 places) NoSuchCie h.1;
      begin_fits = begin.2.first.fits;
      range_fits = range.2.first.fits;
      in_space = leb-true (begin.0 + range.0) (address_limit target.size) (allowed (nat_le (begin.0 + range.0) (address_limit target.size)) RangeTooLarge range.1);
    } in
    subst (Ranges target places) (sym range.2.second.0) said
