-- What was gathered is what the lines say, or their first fault.
use Rattle.dw_dump.proofs.Words.{◌≡◌, ℕ, zero, suc, ◌+◌, ◌-◌, ◌^◌, ◌<◌, ◌≤◌, Bool, true, false, cond, List, [], ◌∷◌, ◌++◌, length, take, get_or, Option, Some, None, refl, sym, ap, subst, ◌∙◌, arith, add-one, inl}
use Rattle.dw_dump.proofs.Words.{inr, append_assoc, length-append, is_some, slice_get, AllByRecursion, AllZip, leb_tells, sum_by-cons, sum_by-append, append-nil, AllZip-long, slice_get_past, slice_get-get_or}
use Rattle.dw_dump.proofs.Words.{Repeated, DumpFault, Gathered, Range, SaysWithin, Say, FirstFault, Gathers, Keeps, IsWhole, ranges_of, bytes_of, covers, byte_among, cover_count, AreApart, Meet, IsSoundRange}
use Rattle.dw_dump.proofs.{Words.{option_or, Statement, DumpItem, memory_is, counter, register, byte, told, given, times}, KeepLaws.times_cons, RangeLaws.covers_tells}

pub ranges_within : (limit line place room : ℕ) (ss : List Statement) → limit ≤ 2 ^ 64 → AllByRecursion (IsWhole limit) ss → place + length (bytes_of ss) ≤ room → AllByRecursion (IsSoundRange (2 ^ 64) room) (ranges_of line place ss)
ranges_within limit line place room [] le whole fits = tt
ranges_within limit line place room (memory_is start bytes ∷ ss) le whole fits =
    let all = length-append bytes (bytes_of ss) in
    (record { some = whole.0.1; addresses = omega (arith, whole.0.0); places = omega arith }, ranges_within limit (suc line) (place + length bytes) room ss le whole.1 (omega arith))
ranges_within limit line place room (s ∷ ss) le whole fits = ranges_within limit (suc line) place room ss le whole.1 fits

-- ---- how often an address is told

told_covers : (a line place start : ℕ) (bytes : List ℕ) → is_some (told (memory_is start bytes) (byte a)) ≡ covers a (record { address = start; place = place; len = length bytes; line = line })
told_covers a line place start bytes = elim (leb_tells start a) [
  | inl low ↦ elim (leb_tells (suc a) (start + length bytes)) [
    | inl high ↦ rw (low.0, high.0, slice_get-get_or bytes (a - start) 0 (omega (arith, low.1, high.1))) refl
    | inr high ↦ rw (low.0, high.0, slice_get_past bytes (a - start) (omega (arith, low.1, high.1))) refl
  ]
  | inr low ↦ rw (low.0) refl
]

pub times_bytes : (a line place : ℕ) (ss : List Statement) → times ss (byte a) ≡ cover_count a (ranges_of line place ss)
times_bytes a line place [] = refl
times_bytes a line place (memory_is start bytes ∷ ss) =
    let r : Range = record { address = start; place = place; len = length bytes; line = line } in
    let rest = times_bytes a (suc line) (place + length bytes) ss in
    times_cons (memory_is start bytes) ss (byte a) ∙ ap (λ (b : Bool). cond b 1 0 + times ss (byte a)) (told_covers a line place start bytes)
    ∙ ap (λ (n : ℕ). cond (covers a r) 1 0 + n) rest
    ∙ sym (sum_by-cons (λ (q : Range). cond (covers a q) 1 0) r (ranges_of (suc line) (place + length bytes) ss))
times_bytes a line place (s ∷ ss) = let rest = times_bytes a (suc line) place ss in times_cons s ss (byte a) ∙ omega arith

-- ---- the byte at an address

slice_behind : (front bytes : List ℕ) (i : ℕ) → slice_get (front ++ bytes) (length front + i) ≡ slice_get bytes i
slice_behind [] bytes i = let same : 0 + i ≡ i = omega arith in rw same refl
slice_behind (x ∷ front) bytes i = let same : suc (length front) + i ≡ suc (length front + i) = omega arith in rw same (slice_behind front bytes i)

slice_front : (bytes rest : List ℕ) (i : ℕ) → i < length bytes → slice_get (bytes ++ rest) i ≡ slice_get bytes i
slice_front [] rest i lt = absurd (omega arith)
slice_front (x ∷ bytes) rest zero lt = refl
slice_front (x ∷ bytes) rest (suc i) lt = slice_front bytes rest i (omega arith)

not_told : (a line place start : ℕ) (bytes : List ℕ) → covers a (record { address = start; place = place; len = length bytes; line = line }) ≡ false → told (memory_is start bytes) (byte a) ≡ None
not_told a line place start bytes off = elim (leb_tells start a) [
  | inl low ↦ elim (leb_tells (suc a) (start + length bytes)) [
    | inl high ↦ absurd (let both : true ≡ false = rw (low.0, high.0) at off in cc)
    | inr high ↦ rw (low.0) (slice_get_past bytes (a - start) (omega (arith, low.1, high.1)))
  ]
  | inr low ↦ rw (low.0) refl
]

told_here : (a start : ℕ) (bytes : List ℕ) → start ≤ a → a < start + length bytes → told (memory_is start bytes) (byte a) ≡ Some (get_or bytes (a - start) 0)
told_here a start bytes le lt = elim (leb_tells start a) [
  | inl low ↦ rw (low.0) (slice_get-get_or bytes (a - start) 0 (omega arith))
  | inr low ↦ absurd (omega (arith, low.1))
]

pub given_byte : (a line : ℕ) (front : List ℕ) (ss : List Statement) → given ss (byte a) ≡ byte_among (front ++ bytes_of ss) a (ranges_of line (length front) ss)
given_byte a line front [] = refl
given_byte a line front (memory_is start bytes ∷ ss) =
    let r : Range = record { address = start; place = length front; len = length bytes; line = line } in
    elim (covers_tells a r) [
      | inl held ↦
          let lt : a - start < length bytes = omega (arith, held.1, held.2) in
          rw (held.0) (ap (λ (o : Option ℕ). option_or o (given ss (byte a))) (told_here a start bytes held.1 held.2)
          ∙ sym (slice_behind front (bytes ++ bytes_of ss) (a - start) ∙ slice_front bytes (bytes_of ss) (a - start) lt ∙ slice_get-get_or bytes (a - start) 0 lt))
      | inr off ↦
          let rest = rw (append_assoc front bytes (bytes_of ss), length-append front bytes) at (given_byte a (suc line) (front ++ bytes) ss) in
          rw (off.0) (ap (λ (o : Option ℕ). option_or o (given ss (byte a))) (not_told a line (length front) start bytes off.0) ∙ rest)
    ]
given_byte a line front (s ∷ ss) = given_byte a (suc line) front ss

-- ---- a range by its statement

pub record Told (line place i : ℕ) (d : Range) (ss : List Statement) : Type 0 where
  pub before : List Statement
  pub statement : Statement
  pub after : List Statement
  pub whole : ss ≡ before ++ statement ∷ after
  pub front : ranges_of line place before ≡ take i (ranges_of line place ss)
  pub with : ranges_of line place (before ++ statement ∷ []) ≡ take (suc i) (ranges_of line place ss)
  pub number : (get_or (ranges_of line place ss) i d).line ≡ line + length before

told_more : (line place i : ℕ) (d : Range) (s : Statement) (ss : List Statement) → ((ts : List Statement) → ranges_of line place (s ∷ ts) ≡ ranges_of (suc line) place ts) → Told (suc line) place i d ss → Told line place i d (s ∷ ss)
told_more line place i d s ss same h = record {
  before = s ∷ h.before;
  statement = h.statement;
  after = h.after;
  whole = ap (λ (ts : List Statement). s ∷ ts) h.whole;
  front = same h.before ∙ h.front ∙ ap (take i) (sym (same ss));
  with = same (h.before ++ h.statement ∷ []) ∙ h.with ∙ ap (take (suc i)) (sym (same ss));
  number = let number = h.number in rw (same ss) (omega arith);
}

pub range_told : (line place i : ℕ) (d : Range) (ss : List Statement) → i < length (ranges_of line place ss) → Told line place i d ss
range_told line place i d [] lt = absurd (omega arith)
range_told line place zero d (memory_is start bytes ∷ ss) lt = record { before = []; statement = memory_is start bytes; after = ss; whole = refl; front = refl; with = refl; number = omega arith }
range_told line place (suc i) d (memory_is start bytes ∷ ss) lt =
    let h = range_told (suc line) (place + length bytes) i d ss (omega arith) in
    let r : Range = record { address = start; place = place; len = length bytes; line = line } in
    let number = h.number in record {
      before = memory_is start bytes ∷ h.before;
      statement = h.statement;
      after = h.after;
      whole = ap (λ (ts : List Statement). memory_is start bytes ∷ ts) h.whole;
      front = ap (λ (rs : List Range). r ∷ rs) h.front;
      with = ap (λ (rs : List Range). r ∷ rs) h.with;
      number = omega arith;
    }
range_told line place i d (s ∷ ss) lt = told_more line place i d s ss (λ ts. refl) (range_told (suc line) place i d ss lt)

pub record ZipSplit {X Y : Type 0} (R : X → Y → Type 0) (xs : List X) (before : List Y) (y : Y) : Type 0 where
  pub front : List X
  pub it : X
  pub behind : List X
  pub whole : xs ≡ front ++ it ∷ behind
  pub each : AllZip R front before
  pub holds : R it y

zip_split : {X Y : Type 0} (R : X → Y → Type 0) (xs : List X) (before : List Y) (y : Y) (after : List Y) → AllZip R xs (before ++ y ∷ after) → ZipSplit R xs before y
zip_split R [] [] y after h = absurd h
zip_split R [] (z ∷ before) y after h = absurd h
zip_split R (x ∷ xs) [] y after h = record { front = []; it = x; behind = xs; whole = refl; each = tt; holds = h.0 }
zip_split {X} R (x ∷ xs) (z ∷ before) y after h =
    let more = zip_split R xs before y after h.1 in
    record { front = x ∷ more.front; it = more.it; behind = more.behind; whole = ap (λ (ys : List X). x ∷ ys) more.whole; each = (h.0, more.each); holds = more.holds }

-- ---- all items are told once

once_all : (limit : ℕ) (kept : Gathered) (ss before : List Statement) → Keeps limit kept ss → ((item : DumpItem) → times before item ≤ times ss item) → AreApart (ranges_of 1 0 before) → (item : DumpItem) → times before item ≤ 1
once_all limit kept ss before k less apart counter = let one = k.one_counter in let le = less counter in omega arith
once_all limit kept ss before k less apart (register r) = let one = k.one_register r in let le = less (register r) in omega arith
once_all limit kept ss before k less apart (byte a) = let one = apart a in let same = times_bytes a 1 0 before in omega arith

times_front : (before after : List Statement) (item : DumpItem) → times before item ≤ times (before ++ after) item
times_front before after item = let all = sum_by-append (λ (t : Statement). cond (is_some (told t item)) 1 0) before after in omega arith

pub whole_say : {limit : ℕ} {kept : Gathered} {read : List (List ℕ)} {ss : List Statement} → AllZip (SaysWithin limit) read ss → Keeps limit kept ss → AreApart kept.ranges.items → Say limit read ss
whole_say {limit} {kept} {ss = ss} each k apart = record { each = each; once = once_all limit kept ss ss k (λ item. omega arith) (subst AreApart k.ranges apart) }

-- ---- a dump, or its first fault

read_rest : {limit : ℕ} {lines : List (List ℕ)} {kept : Gathered} (found : Option DumpFault) (h : Gathers limit lines kept found) → (more : List (List ℕ)) × (lines ≡ h.read ++ more)
read_rest None h = ([], h.rest ∙ sym (append-nil h.read))
read_rest (Some f) h = (h.rest.0 ∷ h.rest.1, h.rest.2)

pub overlap_fault : {limit : ℕ} {lines : List (List ℕ)} {kept : Gathered} {found : Option DumpFault} (i : ℕ) (d : Range) → Gathers limit lines kept found → i < length kept.ranges.items
    → AreApart (take i kept.ranges.items) → Meet (take (i + 1) kept.ranges.items) → FirstFault limit lines (record { code = Repeated; line = (get_or kept.ranges.items i d).line })
overlap_fault {limit} {lines} {kept} {found} i d h lt apart meet =
    let k = h.keeps in
    let told = range_told 1 0 i d h.statements (subst (λ (rs : List Range). i < length rs) k.ranges lt) in
    let split = zip_split (SaysWithin limit) h.read told.before told.statement told.after (subst (AllZip (SaysWithin limit) h.read) told.whole h.each) in
    let more = read_rest found h in
    let met = subst Meet (ap (take (suc i)) k.ranges ∙ sym told.with) (rw add-one at meet) in
    let same = times_bytes met.0 1 0 (told.before ++ told.statement ∷ []) in
    let len = AllZip-long (SaysWithin limit) split.front told.before split.each in
    let number = ap (λ (rs : List Range). (get_or rs i d).line) k.ranges ∙ told.number in record {
      before = split.front;
      line = split.it;
      after = split.behind ++ more.0;
      statements = told.before;
      whole = more.1 ∙ ap (λ (ls : List (List ℕ)). ls ++ more.0) split.whole ∙ append_assoc split.front (split.it ∷ split.behind) more.0;
      say = record {
        each = split.each;
        once = once_all limit kept h.statements told.before k (λ item. subst (λ (ts : List Statement). times told.before item ≤ times ts item) (sym told.whole) (times_front told.before (told.statement ∷ told.after) item)) (subst AreApart (ap (take i) k.ranges ∙ sym told.front) apart);
      };
      faulty = (told.statement, split.holds, (byte met.0, omega (arith, met.1)));
      number = omega arith;
    }

pub later_fault : {limit : ℕ} {lines : List (List ℕ)} {kept : Gathered} {fault : DumpFault} → Gathers limit lines kept (Some fault) → AreApart kept.ranges.items → FirstFault limit lines fault
later_fault h apart = record {
  before = h.read;
  line = h.rest.0;
  after = h.rest.1;
  statements = h.statements;
  whole = h.rest.2;
  say = whole_say h.each h.keeps apart;
  faulty = h.rest.3;
  number = h.rest.4;
}

pub all_said : {limit : ℕ} {lines : List (List ℕ)} {kept : Gathered} (h : Gathers limit lines kept None) → AreApart kept.ranges.items → Say limit lines h.statements
all_said {limit} h apart = subst (λ (ls : List (List ℕ)). Say limit ls h.statements) (sym h.rest) (whole_say h.each h.keeps apart)

pub kept_within : {limit : ℕ} {lines : List (List ℕ)} {kept : Gathered} {found : Option DumpFault} → limit ≤ 2 ^ 64 → Gathers limit lines kept found → AllByRecursion (IsSoundRange (2 ^ 64) (length kept.bytes.items)) kept.ranges.items
kept_within {limit} {kept = kept} le h =
    let k = h.keeps in
    subst (AllByRecursion (IsSoundRange (2 ^ 64) (length kept.bytes.items))) (sym k.ranges) (ranges_within limit 1 0 (length kept.bytes.items) h.statements le k.whole (let same = ap length k.bytes in omega arith))

pub kept_byte : {limit : ℕ} {lines : List (List ℕ)} {kept : Gathered} {found : Option DumpFault} (h : Gathers limit lines kept found) (a : ℕ) → byte_among kept.bytes.items a kept.ranges.items ≡ given h.statements (byte a)
kept_byte {kept = kept} h a =
    let k = h.keeps in
    ap (λ (bs : List ℕ). byte_among bs a kept.ranges.items) k.bytes ∙ ap (byte_among (bytes_of h.statements) a) k.ranges ∙ sym (given_byte a 1 [] h.statements)
