-- The registers of two rows from one on, and the first of them whose rule differs.
use Rattle.std.proofs.lemmas.Bool.Decides.{nat_tests}
use Rattle.dw_normal.proofs.Words.{◌≡◌, ℕ, suc, ◌≤◌, List, [], ◌∷◌, None, refl, arith, inl, inr, flat_map, keys_of, Instr, Rules, AreSpecified, rule, same_rule}
use Rattle.dw_normal.proofs.Words.{FirstDifference, DiffersFirst, differs_of, either, rule_to, rule_difference, with_register, with_registers, from_on, rules_from, RegRule, rule_tells}
use Rattle.dw_canon.proofs.Lent.Differences.{In, either_or}

-- ---- ascending registers

abbrev pub Rise : ℕ → List ℕ → Type 0
Rise low [] = Unit {0}
Rise low (r ∷ rs) = (low ≤ r) × Rise (suc r) rs

rise_one : (low q : ℕ) (rs : List ℕ) → low ≤ q → Rise low rs → Rise low (with_register q rs)
rise_one low q [] le h = (le, tt)
rise_one low q (r ∷ rs) le h = grind (arith, nat_tests, rise_one (suc r) q rs)

pub all_rise : (qs rs : List ℕ) → Rise 0 rs → Rise 0 (with_registers qs rs)
all_rise [] rs h = h
all_rise (q ∷ qs) rs h = all_rise qs (with_register q rs) (rise_one 0 q rs (omega arith) h)

keys_rise : (low : ℕ) (xs : List (ℕ × RegRule)) → AreSpecified low xs → Rise low (keys_of xs)
keys_rise low [] up = tt
keys_rise low (x ∷ xs) up = (up.0, keys_rise (suc x.0) xs up.2)

in_above : (low q : ℕ) (rs : List ℕ) → Rise low rs → In q rs → low ≤ q
in_above low q [] h e = absurd e
in_above low q (r ∷ rs) h e = grind (arith, in_above (suc r) q rs h.1)

all_from : (low from : ℕ) (rs : List ℕ) → from ≤ low → Rise low rs → from_on from rs ≡ rs
all_from low from [] le h = refl
all_from low from (r ∷ rs) le h = grind (arith, nat_tests, all_from (suc r) from rs)

-- all registers are from the first on
pub from_first : (rs : List ℕ) → from_on 0 rs ≡ rs
from_first [] = refl
from_first (r ∷ rs) = grind (arith, nat_tests, from_first rs)

-- ---- what leads from the rules of one row to those of another

-- from one register on, this is the first whose rule differs
abbrev pub Next : Rules → Rules → Rules → ℕ → ℕ → Type 0
Next initial old new low q = rules_from initial old new low ≡ rule_to initial q (rule new q) ∷ rules_from initial old new (suc q)

module _ (initial old new : Rules) (low : ℕ) where
  abbrev change : ℕ → List Instr
  change r = rule_difference initial old new r

  quiet : (r : ℕ) → rule old r ≡ rule new r → change r ≡ []
  quiet r same = grind (arith, same_rule, rule, rule_tells)

  none_on : (rs : List ℕ) → ((r : ℕ) → low ≤ r → rule old r ≡ rule new r) → flat_map change (from_on low rs) ≡ []
  none_on [] same = refl
  none_on (r ∷ rs) same = grind (arith, nat_tests, none_on rs same, quiet r, same r)

  pub none_differs : FirstDifference low old.registers new.registers None → rules_from initial old new low ≡ []
  none_differs same = none_on (either old new) same

  module _ (q : ℕ) (first : DiffersFirst low old.registers new.registers q) where
    loud : change q ≡ rule_to initial q (rule new q) ∷ []
    loud = rw (differs_of (rule old q) (rule new q) first.2) refl

    one_on : (rs : List ℕ) (above : ℕ) → Rise above rs → In q rs → flat_map change (from_on low rs) ≡ rule_to initial q (rule new q) ∷ flat_map change (from_on (suc q) rs)
    one_on [] above h is = absurd is
    one_on (r ∷ rs) above h is = grind (arith, nat_tests, one_on rs (suc r) h.1, in_above (suc r) q rs h.1, all_from (suc r) low rs, all_from (suc r) (suc q) rs, quiet r, loud, h, first)

    pub one_differs : AreSpecified 0 old.registers → AreSpecified 0 new.registers → Next initial old new low q
    one_differs up up' =
        one_on (either old new) 0 (all_rise (keys_of old.registers) (keys_of new.registers) (keys_rise 0 new.registers up'))
        (elim (either_or old new q) [ inl listed ↦ listed | inr same ↦ absurd (first.2 same) ])
