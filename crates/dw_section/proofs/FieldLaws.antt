-- Fields are read as they are spelled, spelled as they are read, and refused with their first fault.
use Rattle.dw_section.proofs.Words.{◌≡◌, ℕ, zero, ◌+◌, ◌==◌, true, false, List, [], ◌∷◌, ◌++◌, length, drop, get_or, Option, Some, None, Ok, Err, refl, sym, ap, subst, ◌∙◌, append_assoc, arith, inl, inr, position, lt-ltb, eqb_tells}
use Rattle.dw_section.proofs.Words.{length-append, Code, Refusal, Target, IsWidth, Input, AreBytes, Takes, behind, Read, ◌>>=◌, Fields, end, field, empty_string, FieldsSpell, string_fault, FieldsFault, fixed, unsigned, signed, done, ok_is}
use Rattle.dw_section.proofs.Words.{uleb_again, uleb_found, front_byte, fixed_found, fixed_at_again, taken_bytes, inside_all, stays_in, stays-then, fixed_stays, uleb_stays, sleb_stays, Judged, Number, NumberValue, NumberSpells, number_at}
use Rattle.dw_section.proofs.Words.{Takes-then, Again, bind_ok}
use Rattle.dw_num.proofs.Lent.{Stays.Stays, SlebLaws.{sleb_again, sleb_found}}
use Rattle.std.proofs.lemmas.List.Quantifiers.{position-Some}
pub use Rattle.dw_section.specs.Inner.Fields.{judged, behind_field, fields_at}

-- ---- numbers

-- of a width that there is
abbrev pub IsNumber : Number → Type 0
IsNumber (fixed width) = IsWidth width
IsNumber other = Unit {0}

abbrev pub AreNumbers : {X : Type 0} → Fields X → Type 0
AreNumbers (end x) = Unit {0}
AreNumbers (field n refused rest) = IsNumber n × ((v : NumberValue n) → AreNumbers (rest v))
AreNumbers (empty_string rest) = AreNumbers rest

number_found : (n : Number) → IsNumber n → (i new : Input) (v : NumberValue n) → AreBytes i.bytes → number_at n i ≡ done (v, new) → (b : List ℕ) × NumberSpells i.target n v b × Takes i b new
number_found (fixed width) is i new v h e = fixed_found width i new v is h e
number_found unsigned is i new v h e = uleb_found i new v h e
number_found signed is i new v h e = sleb_found i new v h e

number_again : (t : Target) (n : Number) → (v : NumberValue n) (b : List ℕ) → NumberSpells t n v b → Again t (number_at n) v b
number_again t (fixed width) v b s at more = fixed_at_again width at t v b more s
number_again t unsigned v b s at more = uleb_again at t v b more s
number_again t signed v b s at more = sleb_again at t v b more s

number_stays : (n : Number) (i : Input) → Stays i (number_at n i)
number_stays (fixed width) i = fixed_stays width i
number_stays unsigned i = uleb_stays i
number_stays signed i = sleb_stays i

-- ---- fields as they are read

judged_ok : {X : Type 0} (o : Option Code) (at : ℕ) (read : Read X) (y : X × Input) → judged o at read ≡ done y → (o ≡ None) × (read ≡ done y)
judged_ok None at read y e = (refl, e)
judged_ok (Some code) at read y e = absurd cc

-- ---- the first fault

judged_is : {X : Type 0} (o : Option Code) (at : ℕ) (Behind : Refusal → Type 0) (read : Read X) (r : Refusal) → (Behind r → read ≡ Err r) × (read ≡ Err r → Behind r)
    → (Judged o at Behind r → judged o at read ≡ Err r) × (judged o at read ≡ Err r → Judged o at Behind r)
judged_is None at Behind read r to = to
judged_is {X} (Some code) at Behind read r to = ((λ h. ap (λ (q : Refusal). let e : Read X = Err q in e) (sym h)), (λ e. cc))

-- of a field, where so much is known of what is behind it
field_fault : {X : Type 0} (n : Number) (refused : NumberValue n → Option Code) (rest : NumberValue n → Fields X) (i : Input) (r : Refusal)
    → ((v : NumberValue n) (j : Input) → (FieldsFault (rest v) j r → fields_at (rest v) j ≡ Err r) × (fields_at (rest v) j ≡ Err r → FieldsFault (rest v) j r))
    → (read : Read (NumberValue n)) → number_at n i ≡ read → read >>= behind_field refused i.at (λ v. fields_at (rest v)) ≡ Err r → FieldsFault (field n refused rest) i r
field_fault n refused rest i r to (Err q) is e = let same : q ≡ r = cc in inl (is ∙ ap (λ (x : Refusal). let k : Read (NumberValue n) = Err x in k) same)
field_fault n refused rest i r to (Ok v) is e = inr (v.0, v.1, is, (judged_is (refused v.0) i.at (FieldsFault (rest v.0) v.1) (fields_at (rest v.0) v.1) r (to v.0 v.1)).1 e)

pub fault_is : {X : Type 0} (fs : Fields X) (i : Input) (r : Refusal) → (FieldsFault fs i r → fields_at fs i ≡ Err r) × (fields_at fs i ≡ Err r → FieldsFault fs i r)
fault_is (end x) i r = ((λ h. absurd h), (λ e. absurd cc))
fault_is (field n refused rest) i r = (
  (λ h. elim h [ inl e ↦ rw e refl | inr w ↦ rw (w.2) ((judged_is (refused w.0) i.at (FieldsFault (rest w.0) w.1) (fields_at (rest w.0) w.1) r (fault_is (rest w.0) w.1 r)).0 w.3) ]),
  field_fault n refused rest i r (λ v j. fault_is (rest v) j r) (number_at n i) refl,
)
fault_is (empty_string rest) i r = judged_is (string_fault (position (λ b. b == 0) i.bytes)) i.at (FieldsFault rest (behind 1 i)) (fields_at rest (behind 1 i)) r (fault_is rest (behind 1 i) r)

-- it is one
pub one_fields_fault : {X : Type 0} (fs : Fields X) (i : Input) (r q : Refusal) → FieldsFault fs i r → FieldsFault fs i q → r ≡ q
one_fields_fault fs i r q v w = let same = sym ((fault_is fs i r).0 v) ∙ (fault_is fs i q).0 w in cc

-- ---- what is read is spelled

none_wrong : (o : Option ℕ) → string_fault o ≡ None → o ≡ Some 0
none_wrong (Some zero) e = refl
none_wrong o e = absurd cc

empty_taken : (i : Input) → string_fault (position (λ b. b == 0) i.bytes) ≡ None → Takes i (0 ∷ []) (behind 1 i)
empty_taken i e =
    let first = position-Some (λ b. b == 0) i.bytes 0 0 (none_wrong (position (λ b. b == 0) i.bytes) e) in
    let zero_is : get_or i.bytes 0 0 ≡ 0 = elim (eqb_tells (get_or i.bytes 0 0) 0) [ inl is ↦ is.1 | inr not ↦ let k : true ≡ false = sym (first.1) ∙ not.0 in absurd cc ] in
    record { bytes = subst (λ (n : ℕ). i.bytes ≡ (n ∷ []) ++ drop 1 i.bytes) zero_is (front_byte i.bytes (omega (arith, first.0))); at = refl; target = refl }

pub fields_found : {X : Type 0} (fs : Fields X) → AreNumbers fs → (i new : Input) (x : X) → AreBytes i.bytes → fields_at fs i ≡ done (x, new) → (b : List ℕ) × FieldsSpell i.target fs x b × Takes i b new
fields_found {X} (end y) are i new x h e =
    let same = ok_is (y, i) (x, new) e in
    ([], (ap (λ (p : X × Input). p.0) (sym same), refl), subst (λ (j : Input). Takes i [] j) (ap (λ (p : X × Input). p.1) same) (record { bytes = refl; at = omega arith; target = refl }))
fields_found (field n refused rest) are i new x h e =
    let p = bind_ok (number_at n i) (behind_field refused i.at (λ v. fields_at (rest v))) (x, new) e in
    let k = judged_ok (refused p.0.0) i.at (fields_at (rest p.0.0) p.0.1) (x, new) p.2 in
    let q = number_found n are.0 i p.0.1 p.0.0 h p.1 in
    let u = fields_found (rest p.0.0) (are.1 p.0.0) p.0.1 new x (taken_bytes i p.0.1 q.0 q.2 h) k.1 in
    let second = subst (λ (t : Target). FieldsSpell t (rest p.0.0) x u.0) q.2.target u.1 in
    (q.0 ++ u.0, (p.0.0, k.0, record { front = q.0; back = u.0; first = q.1; second = second; whole = refl }), Takes-then i p.0.1 new q.0 u.0 q.2 u.2)
fields_found (empty_string rest) are i new x h e =
    let k = judged_ok (string_fault (position (λ b. b == 0) i.bytes)) i.at (fields_at rest (behind 1 i)) (x, new) e in
    let t = empty_taken i k.0 in
    let u = fields_found rest are (behind 1 i) new x (taken_bytes i (behind 1 i) (0 ∷ []) t h) k.1 in
    ((0 ∷ []) ++ u.0, record { front = 0 ∷ []; back = u.0; first = refl; second = u.1; whole = refl }, Takes-then i (behind 1 i) new (0 ∷ []) u.0 t u.2)

-- ---- what is spelled is read

empty_again : {X : Type 0} (t : Target) (read : Input → Read X) (x : X) (b : List ℕ) → Again t read x b → Again t (λ i. judged (string_fault (position (λ c. c == 0) i.bytes)) i.at (read (behind 1 i))) x (0 ∷ b)
empty_again t read x b again at more = rw (lt-ltb 0 (length (0 ∷ (b ++ more))) (omega arith)) (again (at + 1) more ∙ ap (λ (n : ℕ). done (x, record { at = n; bytes = more; target = t })) (omega arith))

pub fields_again : {X : Type 0} (t : Target) (fs : Fields X) (x : X) (b : List ℕ) → FieldsSpell t fs x b → Again t (fields_at fs) x b
fields_again t (end y) x b s at more = rw (s.1, s.0) (ap (λ (n : ℕ). done (y, record { at = n; bytes = more; target = t })) (omega arith))
fields_again t (field n refused rest) x b s at more =
    let both = s.2 in
    let one = number_again t n s.0 both.front both.first at (both.back ++ more) in
    let two = fields_again t (rest s.0) x both.back both.second (at + length both.front) more in
    let place : (at + length both.front) + length both.back ≡ at + length (both.front ++ both.back) = omega (arith, length-append both.front both.back) in
    rw (both.whole, append_assoc, one, s.1, two, place) refl
fields_again t (empty_string rest) x b s at more = rw (s.whole, s.first) (empty_again t (fields_at rest) x s.back (fields_again t rest x s.back s.second) at more)

-- ---- places

judged_stays : {X : Type 0} (o : Option Code) (i : Input) (read : Read X) → (o ≡ None → Stays i read) → Stays i (judged o i.at read)
judged_stays None i read h = h refl
judged_stays (Some code) i read h = (omega arith, omega arith)

pub fields_stay : {X : Type 0} (fs : Fields X) (i : Input) → Stays i (fields_at fs i)
fields_stay (end x) i = inside_all i
fields_stay (field n refused rest) i =
    stays-then i (number_at n i) (behind_field refused i.at (λ v. fields_at (rest v))) (number_stays n i)
    (λ v e k. judged_stays (refused v.0) i (fields_at (rest v.0) v.1) (λ none. stays_in i v.1 (fields_at (rest v.0) v.1) k (fields_stay (rest v.0) v.1)))
fields_stay (empty_string rest) i =
    judged_stays (string_fault (position (λ b. b == 0) i.bytes)) i (fields_at rest (behind 1 i)) (λ none. stays_in i (behind 1 i) (fields_at rest (behind 1 i)) (let takes = empty_taken i none in let len = ap length takes.bytes in (omega arith, omega (arith, len))) (fields_stay rest (behind 1 i)))
