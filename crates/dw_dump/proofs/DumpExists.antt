-- The lines of a dump have a reading or a first fault.
use Rattle.std.proofs.Common.{rules}
use Rattle.dw_dump.proofs.Words.{◌≡◌, ◌≢◌, ◌⊎◌, ℕ, zero, suc, ◌+◌, ◌-◌, ◌<◌, ◌≤◌, false, List, [], ◌∷◌, ◌++◌, length, take, drop, Option, Some, None, Ok, Err, refl, sym, ap, ap₂, subst, ◌∙◌, arith, inl, inr, ⊎_elim, true≢false}
use Rattle.dw_dump.proofs.Words.{append_assoc, codes, is_some, slice_index, Result, cases_lt, cases_eq, eqb_tells, leb_tells, append-nil, append_cancel_left, slice_get_past, decode_of, DumpCode, BadLine, ValueTooLarge, Repeated}
use Rattle.dw_dump.proofs.Words.{DumpFault, SaysWithin, Say, FirstFault, IsFaulty, number_behind, Hexadecimal, RegisterName, HexPairs, CounterLine, RegisterLine, MemoryLine, SkippedLine, LineSays, Statement, DumpItem, Fits, nothing}
use Rattle.dw_dump.proofs.Words.{counter_is, register_is, memory_is, counter, register, byte, told, times, Lacks, len_until}
use Rattle.hex.specs.declared.error.FromHexError.{FromHexError}
use Rattle.dw_dump.proofs.{LineParts.{lacks_front, until_parts, word_within, digits_lack_space, register_parts, memory_parts, none_said}, KeepLaws.once_push, Lent.Elements.zip_push}

-- ---- what holds or not, and what is found or not

abbrev Decided : Type 0 → Type 0
Decided A = A ⊎ (A → ⊥)

abbrev Found : {X : Type 0} → (X → Type 0) → Type 0
Found {X} P = ((x : X) × P x) ⊎ ((x : X) → P x → ⊥)

-- what needs the first of two, and fails where the other holds
needs : {A B C R : Type 0} → A ⊎ B → (B → C) → (A → R ⊎ C) → R ⊎ C
needs x fails go = ⊎_elim go (λ b. inr (fails b)) x

-- what is found, or what the search after it finds
or_else : {A C R : Type 0} → R ⊎ A → (A → R ⊎ C) → R ⊎ C
or_else x go = ⊎_elim inl go x

both : {A B : Type 0} → Decided A → Decided B → Decided (A × B)
both x y = needs x (λ none h. none h.0) (λ a. needs y (λ none h. none h.1) (λ b. inl (a, b)))

at_most : (a b : ℕ) → Decided (a ≤ b)
at_most a b = ⊎_elim (λ more. inr (λ le. omega arith)) inl (cases_lt b a)

-- ---- numbers and bytes

-- whether it is a number of which more holds
number_with : (o : Option ℕ) (P Q : ℕ → Type 0) → ((v : ℕ) → o ≡ Some v → Q v → P v) → ((v : ℕ) → P v → (o ≡ Some v) × Q v) → ((v : ℕ) → Decided (Q v)) → Found P
number_with None P Q to from decided = inr (λ v h. let no_number : None ≡ Some v = (from v h).0 in absurd cc)
number_with (Some v) P Q to from decided = needs (decided v)
    (λ none w h. let is : Some v ≡ Some w = (from w h).0 in let same : v ≡ w = cc in none (subst Q (sym same) (from w h).1)) (λ held. inl (v, to v refl held))

hexadecimal : (text : List ℕ) → Found (λ (v : ℕ). Hexadecimal v text)
hexadecimal text = number_with (number_behind 16 0 text) (λ v. Hexadecimal v text) (λ v. (0 < length text) × (length text ≤ 16))
    (λ v is h. record { some = h.0; most = h.1; number = is }) (λ v h. (h.number, (h.some, h.most))) (λ v. both (at_most 1 (length text)) (at_most (length text) 16))

is_plain : (text : List ℕ) → Decided (1 < length text → slice_index text 0 ≢ 48)
is_plain text = search (rules, or_else)

register_name : (text : List ℕ) → Found (λ (r : ℕ). RegisterName r text)
register_name text = number_with (number_behind 10 0 text) (λ r. RegisterName r text) (λ r. ((0 < length text) × (length text ≤ 5)) × ((1 < length text → slice_index text 0 ≢ 48) × (r < 65536)))
    (λ r is h. record { some = h.0.0; most = h.0.1; number = is; plain = h.1.0; small = h.1.1 }) (λ r h. (h.number, ((h.some, h.most), (h.plain, h.small))))
    (λ r. both (both (at_most 1 (length text)) (at_most (length text) 5)) (both (is_plain text) (at_most (suc r) 65536)))

bytes_in : (text : List ℕ) (decoded : Result (List ℕ) FromHexError) → decode_of text ≡ decoded → Found (λ (bytes : List ℕ). HexPairs bytes text)
bytes_in text (Err e) is = inr (λ bytes h. let no_bytes : Err e ≡ Ok bytes = sym is ∙ h.pairs in absurd cc)
bytes_in text (Ok []) is = inr (λ bytes h. let none : Ok [] ≡ Ok bytes = sym is ∙ h.pairs in let same : [] ≡ bytes = cc in let some = subst (λ (bs : List ℕ). 0 < length bs) (sym same) h.some in omega arith)
bytes_in text (Ok (b ∷ bs)) is = inl (b ∷ bs, record { some = omega arith; pairs = is })

-- ---- prefixes, and words that a space ends

starts : (prefix text : List ℕ) → Found (λ (rest : List ℕ). text ≡ prefix ++ rest)
starts [] text = inl (text, refl)
starts (c ∷ prefix) [] = inr (λ rest is. absurd cc)
starts (c ∷ prefix) (d ∷ text) = needs (eqb_tells d c) (λ other rest is. other.1 cc) (λ same.
    needs (starts prefix text) (λ none rest is. none rest cc) (λ at. inl (at.0, ap₂ (λ (x : ℕ) (xs : List ℕ). x ∷ xs) same.1 at.1)))

abbrev Word : List ℕ → List ℕ → Type 0
Word prefix line = (word rest : List ℕ) × Lacks 32 word × (line ≡ prefix ++ (word ++ 32 ∷ rest))

word_behind : (prefix line : List ℕ) → Decided (Word prefix line)
word_behind prefix line = needs (starts prefix line) (λ none w. none (w.0 ++ 32 ∷ w.1) w.3) (λ at.
    let len = len_until 32 at.0 in
    needs (at_most (suc len) (length at.0)) (λ past w. past (word_within 32 prefix at.0 w.0 w.1 (sym at.1 ∙ w.3) w.2)) (λ within.
    inl (take len at.0, drop (len + 1) at.0, lacks_front 32 at.0, at.1 ∙ ap (λ (t : List ℕ). prefix ++ t) (until_parts 32 at.0 within))))

-- ---- a line says something or nothing

abbrev Reading : List ℕ → Type 0
Reading line = (s : Statement) × LineSays line s

skipped_line : (line : List ℕ) → Reading line ⊎ (SkippedLine line → ⊥)
skipped_line [] = inl (nothing, inl refl)
skipped_line (c ∷ cs) = needs (starts (codes "#") (c ∷ cs)) (λ none h. ⊎_elim (λ empty. absurd cc) (λ text. none text.0 text.1) h) (λ at. inl (nothing, inr at))

counter_line : (line : List ℕ) → Reading line ⊎ ((v : ℕ) → CounterLine v line → ⊥)
counter_line line = needs (starts (codes "pc 0x") line) (λ none v said. none said.0 said.2) (λ at.
    needs (hexadecimal at.0) (λ none v said. none v (subst (Hexadecimal v) (append_cancel_left (codes "pc 0x") said.0 at.0 (sym said.2 ∙ at.1)) said.1)) (λ v.
    inl (counter_is v.0, (at.0, v.1, at.1))))

register_line : (line : List ℕ) → Reading line ⊎ ((r v : ℕ) → RegisterLine r v line → ⊥)
register_line line = needs (word_behind (codes "r") line) (λ none r v said. none (said.0, codes "0x" ++ said.1, digits_lack_space 10 0 r said.0 said.2.number, said.4)) (λ w.
    let parts = register_parts line w.0 w.1 w.2 w.3 in
    needs (starts (codes "0x") w.1) (λ none r v said. none (parts r v said).digits (parts r v said).behind) (λ at.
    needs (register_name w.0) (λ none r v said. none r (parts r v said).is_name) (λ r.
    needs (hexadecimal at.0) (λ none q v said. let p = parts q v said in none v (subst (Hexadecimal v) (append_cancel_left (codes "0x") p.digits at.0 (sym p.behind ∙ at.1)) p.is_value)) (λ v.
    inl (register_is r.0 v.0, (w.0, at.0, r.1, v.1, w.3 ∙ ap (λ (t : List ℕ). codes "r" ++ (w.0 ++ (32 ∷ t))) at.1))))))

memory_line : (line : List ℕ) → Reading line ⊎ ((start : ℕ) (bytes : List ℕ) → MemoryLine start bytes line → ⊥)
memory_line line = needs (word_behind (codes "mem 0x") line) (λ none v bytes said. none (said.0, said.1, digits_lack_space 16 0 v said.0 said.2.number, said.4)) (λ w.
    let parts = memory_parts line w.0 w.1 w.2 w.3 in
    needs (hexadecimal w.0) (λ none v bytes said. none v (parts v said.1 (said.0, said.2, said.4)).is_start) (λ v.
    needs (bytes_in w.1 (decode_of w.1) refl) (λ none u bytes said. none bytes (subst (HexPairs bytes) (sym (parts u said.1 (said.0, said.2, said.4)).behind) said.3)) (λ bytes.
    inl (memory_is v.0 bytes.0, (w.0, w.1, v.1, bytes.1, w.3)))))

says_or_not : (line : List ℕ) → Found (LineSays line)
says_or_not line = or_else (skipped_line line) (λ no_skipped.
    or_else (counter_line line) (λ no_counter.
    or_else (register_line line) (λ no_register.
    or_else (memory_line line) (λ no_memory. inr (none_said line no_skipped no_counter no_register no_memory)))))

fits_or_not : (limit : ℕ) (s : Statement) → Decided (Fits limit s)
fits_or_not limit nothing = inl tt
fits_or_not limit (counter_is v) = at_most (suc v) limit
fits_or_not limit (register_is r v) = at_most (suc v) limit
fits_or_not limit (memory_is start bytes) = at_most (start + length bytes) limit

-- ---- a statement tells something again or nothing

-- how many items it may tell, and which they are
abbrev items_of : Statement → ℕ × (ℕ → DumpItem)
items_of (register_is r v) = (1, λ i. register r)
items_of (memory_is start bytes) = (length bytes, λ i. byte (start + i))
items_of s = (1, λ i. counter)

told_at : (s : Statement) (item : DumpItem) → (is_some (told s item) ≡ false) ⊎ ((i : ℕ) × (i < (items_of s).0) × ((items_of s).1 i ≡ item))
told_at (counter_is v) counter = inr (0, omega arith, refl)
told_at (register_is q v) (register r) = ⊎_elim (λ same. inr (0, omega arith, ap register (sym same.1))) (λ other. inl (rw (other.0) refl)) (eqb_tells r q)
told_at (memory_is start bytes) (byte a) = ⊎_elim
    (λ low. ⊎_elim (λ high. inr (a - start, high, ap byte (omega (arith, low.1)))) (λ past. inl (rw (low.0, slice_get_past bytes (a - start) past) refl)) (cases_lt (a - start) (length bytes)))
    (λ under. inl (rw (under.0) refl)) (leb_tells start a)
told_at s item = inl refl

once_below : (ss : List Statement) (item : ℕ → DumpItem) (n : ℕ) → ((i : ℕ) → i < n → times ss (item i) ≤ 1) ⊎ ((it : DumpItem) × (1 < times ss it))
once_below ss item zero = inl (λ i lt. absurd (omega arith))
once_below ss item (suc n) = needs (once_below ss item n) (λ twice. twice) (λ rest. ⊎_elim
    (λ twice. inr (item n, twice))
    (λ one. inl (λ i lt. ⊎_elim (λ last. subst (λ (k : ℕ). times ss (item k) ≤ 1) (sym last) one) (λ other. rest i (omega arith)) (cases_eq i n))) (cases_lt 1 (times ss (item n))))

once_or_twice : (ss : List Statement) (s : Statement) → ((item : DumpItem) → times ss item ≤ 1) → ((item : DumpItem) → times (ss ++ s ∷ []) item ≤ 1) ⊎ ((item : DumpItem) × (1 < times (ss ++ s ∷ []) item))
once_or_twice ss s once = needs (once_below (ss ++ s ∷ []) (items_of s).1 (items_of s).0) (λ twice. twice) (λ new. inl (λ item. ⊎_elim
    (λ untold. once_push ss s item (once item) (λ now. absurd (true≢false (sym now ∙ untold))))
    (λ at. subst (λ (it : DumpItem). times (ss ++ s ∷ []) it ≤ 1) at.2 (new at.0 at.1)) (told_at s item)))

-- ---- the lines, one after the other

one_more : (limit : ℕ) (read : List (List ℕ)) (ss : List Statement) (line : List ℕ) → Say limit read ss → ((s : Statement) × Say limit (read ++ line ∷ []) (ss ++ s ∷ [])) ⊎ ((code : DumpCode) × IsFaulty limit ss line code)
one_more limit read ss line say = needs (says_or_not line) (λ none. (BadLine, none)) (λ said.
    needs (fits_or_not limit said.0) (λ large. (ValueTooLarge, (said.0, said.1, large))) (λ fits.
    needs (once_or_twice ss said.0 say.once) (λ twice. (Repeated, (said.0, (said.1, fits), twice))) (λ once.
    inl (said.0, record { each = zip_push (SaysWithin limit) read ss line said.0 say.each (said.1, fits); once = once }))))

behind : (limit : ℕ) (read : List (List ℕ)) (ss : List Statement) (lines : List (List ℕ)) → Say limit read ss
    → ((statements : List Statement) × Say limit (read ++ lines) statements) ⊎ ((fault : DumpFault) × FirstFault limit (read ++ lines) fault)
behind limit read ss [] say = inl (ss, rw (append-nil read) say)
behind limit read ss (line ∷ lines) say = needs (one_more limit read ss line say)
    (λ fault. (record { code = fault.0; line = length read + 1 }, record { before = read; line = line; after = lines; statements = ss; whole = refl; say = say; faulty = fault.1; number = refl }))
    (λ more. rw (append_assoc read (line ∷ []) lines) at (behind limit (read ++ line ∷ []) (ss ++ more.0 ∷ []) lines more.1))

pub dump_exists : (limit : ℕ) (lines : List (List ℕ)) → ((statements : List Statement) × Say limit lines statements) ⊎ ((fault : DumpFault) × FirstFault limit lines fault)
dump_exists limit lines = behind limit [] [] lines (record { each = tt; once = λ item. omega arith })
