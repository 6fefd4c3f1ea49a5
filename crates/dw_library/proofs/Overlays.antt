-- Rules over the front of a buffer, one after another.
use Rattle.dw_library.proofs.Words.{◌≡◌, ℕ, zero, suc, ◌+◌, ◌<◌, ◌≤◌, List, [], ◌∷◌, length, map, slice_set, refl, sym, ap, subst, ◌∙◌, arith, inl, inr, leb_tells, length-set, AreSpecified, RegRule, Rule, over, rule_of}

-- rules over a buffer from a place on
abbrev pub over_at : ℕ → List Rule → List Rule → List Rule
over_at zero rules old = over rules old
over_at (suc n) rules [] = []
over_at (suc n) rules (x ∷ old) = x ∷ over_at n rules old

over_in : (n : ℕ) (rule : Rule) (rules old : List Rule) → n < length old → over_at n (rule ∷ rules) old ≡ over_at (suc n) rules (slice_set old n rule)
over_in zero rule rules [] lt = absurd (omega arith)
over_in zero rule rules (x ∷ old) lt = refl
over_in (suc n) rule rules [] lt = absurd (omega arith)
over_in (suc n) rule rules (x ∷ old) lt = ap (λ (l : List Rule). x ∷ l) (over_in n rule rules old (omega arith))

over_out : (n : ℕ) (rule : Rule) (rules old : List Rule) → length old ≤ n → over_at n (rule ∷ rules) old ≡ over_at (suc n) rules old
over_out zero rule rules [] le = refl
over_out zero rule rules (x ∷ old) le = absurd (omega arith)
over_out (suc n) rule rules [] le = refl
over_out (suc n) rule rules (x ∷ old) le = ap (λ (l : List Rule). x ∷ l) (over_out n rule rules old (omega arith))

over_end : (n : ℕ) (old : List Rule) → over_at n [] old ≡ old
over_end zero old = refl
over_end (suc n) [] = refl
over_end (suc n) (x ∷ old) = ap (λ (l : List Rule). x ∷ l) (over_end n old)

put_more : (n : ℕ) (rule : Rule) (rules old new : List Rule) → (n < length old → new ≡ slice_set old n rule) → (length old ≤ n → new ≡ old)
    → (over_at n (rule ∷ rules) old ≡ over_at (n + 1) rules new) × (length new ≡ length old)
put_more n rule rules old new inside outside =
    let next : suc n ≡ n + 1 = omega arith in
    elim (leb_tells (length old) n) [
      | inl le ↦
          let same = outside le.1 in
          (over_out n rule rules old le.1 ∙ ap (λ (k : ℕ). over_at k rules old) next ∙ ap (over_at (n + 1) rules) (sym same), ap (λ (l : List Rule). length l) same)
      | inr lt ↦
          let same = inside lt.1 in
          (over_in n rule rules old lt.1 ∙ ap (λ (k : ℕ). over_at k rules (slice_set old n rule)) next ∙ ap (over_at (n + 1) rules) (sym same), ap (λ (l : List Rule). length l) same ∙ length-set old n rule)
    ]

-- the rules of a list that were written to a buffer, and those that are left
pub record Overlaid (all left : List (ℕ × RegRule)) (buffer now : List Rule) (place : ℕ) : Type 0 where
  pub count : place + length left ≡ length all
  pub low : ℕ
  pub bound : (place ≤ low) × (low ≤ 65536) × AreSpecified low left
  pub rules : over_at place (map rule_of left) now ≡ over (map rule_of all) buffer
  pub room : length now ≡ length buffer

pub overlaid_more : {all left rest : List (ℕ × RegRule)} {x : ℕ × RegRule} {rule : Rule} {buffer now new : List Rule} {place : ℕ}
    → Overlaid all left buffer now place → left ≡ x ∷ rest → rule ≡ rule_of x → x.0 < 65536 → (place < length now → new ≡ slice_set now place rule) → (length now ≤ place → new ≡ now) → Overlaid all rest buffer new (place + 1)
overlaid_more {rest = rest} {x = x} {rule = rule} {now = now} {new = new} {place = place} h steps told fits inside outside =
    let up = subst (AreSpecified h.low) steps h.bound.2 in
    let more = put_more place rule (map rule_of rest) now new inside outside in
    let first = ap (λ (r : Rule). over_at place (r ∷ map rule_of rest) now) told ∙ sym (ap (λ (l : List (ℕ × RegRule)). over_at place (map rule_of l) now) steps) in
    record {
      count = omega (arith, h.count, ap (λ (l : List (ℕ × RegRule)). length l) steps);
      low = suc x.0;
      bound = (omega (arith, h.bound.0, up.0), omega (arith, fits), up.2);
      rules = sym more.0 ∙ first ∙ h.rules;
      room = more.1 ∙ h.room;
    }

pub overlaid_all : {all left : List (ℕ × RegRule)} {buffer now : List Rule} {place : ℕ} → Overlaid all left buffer now place → left ≡ [] → now ≡ over (map rule_of all) buffer
overlaid_all {now = now} {place = place} h none = sym (over_end place now) ∙ sym (ap (λ (l : List (ℕ × RegRule)). over_at place (map rule_of l) now) none) ∙ h.rules
