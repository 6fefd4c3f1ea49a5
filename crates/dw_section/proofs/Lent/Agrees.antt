-- Programs that say the same have the same rules at an address, and the same changes.
use Rattle.dw_section.proofs.Words.{ℕ, suc, ◌<◌, ◌≤◌, List, [], ◌∷◌, ◌++◌, sym, ap, ◌∙◌, arith, Instr, CfaRule, RegRule, look_back, cfa_change, rule_change, cfa_after, rule_after, initial_cfa, initial_rule, Rules}
use Rattle.dw_section.proofs.{Words.{StayFrom, HoldsAt, ChangesBehind, AreChanges, HasCfa, AgreeAt, Agree, counts_exists}, Lent.Nops.{nops, cfa_nops, rule_nops, initial_cfa_nops, initial_rule_nops, counts_nops}}

-- ---- sameness

pub agree_sym : (begin a : ℕ) (i j k l : List Instr) → AgreeAt begin i j k l a → AgreeAt begin k l i j a
agree_sym begin a i j k l h x y cx cy = let v = h y x cy cx in record { cfa = sym v.cfa; rules = λ r. sym (v.rules r) }

pub agree_then : (begin a : ℕ) (i j k l m n : List Instr) → begin ≤ a → AgreeAt begin i j k l a → AgreeAt begin k l m n a → AgreeAt begin i j m n a
agree_then begin a i j k l m n le v w x z cx cz =
    let c = counts_exists begin l a le in
    record { cfa = (v x c.0 cx c.1).cfa ∙ (w c.0 z c.1 cz).cfa; rules = λ r. (v x c.0 cx c.1).rules r ∙ (w c.0 z c.1 cz).rules r }

-- nops behind both programs change nothing
pub agree_nops : (begin a : ℕ) (initial instrs : List Instr) (m n : ℕ) → AgreeAt begin initial instrs (initial ++ nops m) (instrs ++ nops n) a
agree_nops begin a initial instrs m n j k cj ck =
    let back = counts_nops begin instrs n a j k cj ck in
    record {
      cfa = ap (look_back cfa_change (initial_cfa initial) 0) back ∙ sym (cfa_nops (initial_cfa initial) instrs n k) ∙ ap (λ (c : CfaRule). cfa_after c (instrs ++ nops n) k) (sym (initial_cfa_nops initial m));
      rules = λ r. ap (look_back (rule_change r (initial_rule initial r)) (initial_rule initial r) 0) back ∙ sym (rule_nops (initial_rule initial r) instrs n r k)
          ∙ ap (λ (c : RegRule). rule_after c (instrs ++ nops n) r k) (sym (initial_rule_nops initial m r));
    }

-- ---- what follows of an address

pub holds_agree : (begin a : ℕ) (i j k l : List Instr) (row : Rules) → begin ≤ a → AgreeAt begin i j k l a → HoldsAt i j begin a row → HoldsAt k l begin a row
holds_agree begin a i j k l row le h holds y cy =
    let c = counts_exists begin j a le in
    let same = h c.0 y c.1 cy in
    let here = holds c.0 c.1 in
    record { cfa = here.cfa ∙ same.cfa; rules = λ r. here.rules r ∙ same.rules r; listed = here.listed }

pub cfa_agree : (begin a : ℕ) (i j k l : List Instr) → begin ≤ a → AgreeAt begin i j k l a → HasCfa i j begin a → HasCfa k l begin a
cfa_agree begin a i j k l le h has y cy unset =
    let c = counts_exists begin j a le in
    has c.0 c.1 ((h c.0 y c.1 cy).cfa ∙ unset)

module _ (begin end : ℕ) (i j k l : List Instr) (h : Agree begin end i j k l) where
  stay_agree : (low high : ℕ) → begin ≤ low → high ≤ end → StayFrom i j begin low high → StayFrom k l begin low high
  stay_agree low high le lt stay a from below x y cx cy =
      let c = counts_exists begin j a (omega arith) in
      let d = counts_exists begin j (suc a) (omega arith) in
      let p = h a (omega arith) (omega arith) c.0 x c.1 cx in
      let q = h (suc a) (omega arith) (omega arith) d.0 y d.1 cy in
      let s = stay a from below c.0 d.0 c.1 d.1 in
      record { cfa = sym p.cfa ∙ s.cfa ∙ q.cfa; rules = λ r. sym (p.rules r) ∙ s.rules r ∙ q.rules r }

  behind_agree : (low : ℕ) (changes : List (ℕ × Rules)) → begin ≤ low → ChangesBehind i j begin end low changes → ChangesBehind k l begin end low changes
  behind_agree low [] le c = stay_agree low end le (omega arith) c
  behind_agree low (change ∷ changes) le c =
      let a = c.0 in
      let from : begin ≤ a = omega (arith, c.2) in
      let d = c.5 in
      let x = counts_exists begin l a from in
      let y = counts_exists begin l (suc a) (omega arith) in
      let p = h a from (omega (arith, c.3)) d.j x.0 d.before x.1 in
      let there = h (suc a) (omega arith) c.3 in
      let q = there d.k y.0 d.after y.1 in (
        a,
        c.1,
        c.2,
        c.3,
        stay_agree low (suc a) le (omega (arith, c.3)) c.4,
        record { j = x.0; k = y.0; before = x.1; after = y.1; other = λ same. d.other (record { cfa = p.cfa ∙ same.cfa ∙ sym q.cfa; rules = λ r. p.rules r ∙ same.rules r ∙ sym (q.rules r) }) },
        holds_agree begin (suc a) i j k l change.1 (omega arith) there c.6,
        behind_agree (suc a) changes (omega arith) c.7,
      )

  -- the same changes, each with the same row
  pub changes_agree : (changes : List (ℕ × Rules)) → begin < end → AreChanges i j begin end changes → AreChanges k l begin end changes
  changes_agree [] lt c = absurd c
  changes_agree (first ∷ changes) lt c = (c.0, holds_agree begin begin i j k l first.1 (omega arith) (h begin (omega arith) lt) c.1, behind_agree begin changes (omega arith) c.2)
