-- From what is known of a section's members to what the calls over normal forms answer.
use Rattle.dw_normal.proofs.Words.{◌≡◌, ◌⊎◌, ℕ, ◌+◌, ◌-◌, ◌<◌, ◌≤◌, Bool, true, false, true≢false, List, [], length, length-append, take, take-append_seam, Option, Some, Result, Ok, Err, refl, sym, ap, ◌∙◌, subst, inl, inr, arith, Decides, Appends, Keeps-refl, AreBytes, Target, Refuses, Accepted}
use Rattle.dw_normal.proofs.Words.{CheckFault, canon, Member, AreMembers, members_exist, normal_form_is_one, same_exactly, IsTooLong, FitsCap, NormalFault, SameFault, WentOut, Writes, too_long, Puts, Sends, Takes, Place, Stop, Full, Failed, Memory, First, Second, IfOk}
use Rattle.dw_normal.proofs.Words.{IfErr, LacksRoom, Likens, Refusal, ReadError, IsShort, IsMeasured, LengthFault, blamed, unread, unwritten, SameError, WriteError, Section}
use Rattle.dw_section.specs.Meanings.{SameMeaning}
use Rattle.dw_section.proofs.Lent.CheckFirst.{fault_or_accepted}
use Rattle.dw_canon.specs.{Laws.SameNormalForm, Normal.IsNormalForm}
use Rattle.dw_canon.proofs.Lent.Forms.{is_normal, whole_is}
use Rattle.dw_normal.specs.declared.error.Which.{Which}
use Rattle.dw_num.specs.declared.error.ReadError.TheVariants as read_error
use Rattle.dw_normal.specs.declared.error.SameError.TheVariants as same_error
use Rattle.dw_normal.specs.declared.error.WriteError.TheVariants as write_error

-- ---- the members of a section

-- there is no room for the entries
pub is_too_long : (t : Target) (s : List ℕ) (cap : ℕ) (counts : Bool) (e : Stop) (old new : Place) → AreBytes s → Accepted t s → old.room ≡ cap → e ≡ Full
    → ((ms : List Member) → AreMembers t s ms → Puts counts (canon t ms) (Err e) old new) → IsTooLong t cap s
is_too_long t s cap counts e old new b ok room full put =
    let found = members_exist t s b ok in
    let long : old.room < length (canon t found.0) = subst (λ (x : Stop). Puts counts (canon t found.0) (Err x) old new) full (put found.0 found.1) in
    (canon t found.0, is_normal t s found.0 b ok found.1, omega (arith, long, room))

-- no sink fails where they are counted alone
pub none_fails : (t : Target) (s : List ℕ) (counts : Bool) (e : Stop) (old new : Place) → AreBytes s → Accepted t s → counts ≡ true → e ≡ Failed
    → ((ms : List Member) → AreMembers t s ms → Puts counts (canon t ms) (Err e) old new) → ⊥
none_fails t s counts e old new b ok counted failed put =
    let found = members_exist t s b ok in
    let met : Puts counts (canon t found.0) (Err Failed) old new = subst (λ (x : Stop). Puts counts (canon t found.0) (Err x) old new) failed (put found.0 found.1) in
    true≢false (sym counted ∙ met.0)

-- there was room for them, and so many bytes were counted
pub is_measured : (t : Target) (s : List ℕ) (cap old new : ℕ) → AreBytes s → Accepted t s → old ≡ cap → ((ms : List Member) → AreMembers t s ms → new + length (canon t ms) ≡ old) → IsMeasured t cap s (cap - new)
is_measured t s cap old new b ok room put = record {
  short = record { bytes = b; accepted = ok; within = λ ms are. omega (arith, put ms are, room) };
  len_is = λ ms are. omega (arith, put ms are, room);
}

-- the normal form of a section that is short
pub record Whole (t : Target) (cap : ℕ) (s : List ℕ) : Type 0 where
  pub members : List Member
  pub are : AreMembers t s members
  pub is : IsNormalForm t s (canon t members)
  pub within : length (canon t members) ≤ cap

module _ (t : Target) (cap : ℕ) (s : List ℕ) (h : IsShort t cap s) where
  pub whole_of : Whole t cap s
  whole_of =
      let found = members_exist t s h.bytes h.accepted in
      record { members = found.0; are = found.1; is = is_normal t s found.0 h.bytes h.accepted found.1; within = h.within found.0 found.1 }

  pub is_within : FitsCap t cap s
  is_within = let w = whole_of in (canon t w.members, w.is, w.within)

-- ---- what a refusal says where the normal form is known

module _ (t : Target) (s n : List ℕ) (cap : ℕ) (r : Refusal) (b : AreBytes s) (is : IsNormalForm t s n) where
  pub not_within : length n ≤ cap → NormalFault t cap s r → ⊥
  not_within within (inl fault) = fault_or_accepted t s b r fault is.accepted
  not_within within (inr long) =
      let same = ap length (normal_form_is_one t s long.0.0 n b long.0.1 is) in
      let over = long.0.2 in
      omega (arith, same, over, within)

  pub only_too_long : NormalFault t cap s r → r ≡ too_long
  only_too_long (inl fault) = absurd (fault_or_accepted t s b r fault is.accepted)
  only_too_long (inr long) = long.1

module _ (t : Target) (s n : List ℕ) (cap : ℕ) (b : AreBytes s) (is : IsNormalForm t s n) where
  pub only_memory : (e : ReadError) → Refuses (NormalFault t cap s) e → length n ≤ cap → e ≡ read_error.OutOfMemory
  only_memory read_error.OutOfMemory fault within = refl
  only_memory (read_error.Refused r) fault within = absurd (not_within t s n cap r b is within fault)

  pub only_long : (e : ReadError) → Refuses (NormalFault t cap s) e → (e ≡ read_error.Refused too_long) ⊎ (e ≡ read_error.OutOfMemory)
  only_long read_error.OutOfMemory fault = inr refl
  only_long (read_error.Refused r) fault = inl (ap read_error.Refused (only_too_long t s n cap r b is fault))

pub length_found : (t : Target) (cap : ℕ) (s : List ℕ) (len : ℕ) → IsMeasured t cap s len → (n : List ℕ) × IsNormalForm t s n × (length n ≤ cap) × (len ≡ length n)
length_found t cap s len h = let w = whole_of t cap s h.short in (canon t w.members, w.is, w.within, h.len_is w.members w.are)

pub length_only : (t : Target) (s : List ℕ) (cap len : ℕ) → AreBytes s → IsMeasured t cap s len → (n : List ℕ) → IsNormalForm t s n → len ≡ length n
length_only t s cap len b h n normal = h.len_is normal.members normal.are ∙ ap length (sym (whole_is t s n b normal))

-- a checked table whose normal form is too long
pub long_fault : {A : Type 0} (t : Target) (cap : ℕ) (s : List ℕ) (table : Section) (result : Result A ReadError) → table ≡ record { target = t; bytes = s }
    → IfErr result (Refuses (λ r. IsTooLong table.target cap table.bytes × (r ≡ too_long))) → IfErr result (Refuses (NormalFault t cap s))
long_fault t cap s table (Ok x) same h = tt
long_fault t cap s table (Err read_error.OutOfMemory) same h = tt
long_fault t cap s table (Err (read_error.Refused r)) same h = inr (subst (λ (x : Section). IsTooLong x.target cap x.bytes) same h.0, h.1)

-- ---- what went out

pub none_written : (t : Target) (cap : ℕ) (s : List ℕ) (e : ReadError) (result : WriteError) (failed : ℕ) (old : Option (List ℕ))
    → Refuses (NormalFault t cap s) e → result ≡ unwritten e → Writes t cap s (Err result) failed failed old old
none_written t cap s e result failed old fault is = subst (λ (x : WriteError). Writes t cap s (Err x) failed failed old old) (sym is) (by_error e fault)
  where
    by_error : (x : ReadError) → Refuses (NormalFault t cap s) x → Writes t cap s (Err (unwritten x)) failed failed old old
    by_error read_error.OutOfMemory h = (refl, inl (refl, Keeps-refl old))
    by_error (read_error.Refused r) h = (refl, h, Keeps-refl old)

-- entries were put, up to an end
pub record Ended (t : Target) (cap : ℕ) (s : List ℕ) (end : Result Unit Stop) (old new : Place) : Type 0 where
  pub normal : List ℕ
  pub is : IsNormalForm t s normal
  pub within : length normal ≤ cap
  pub room : old.room ≡ cap
  pub puts : Puts false normal end old new

pub ended : (t : Target) (cap : ℕ) (s : List ℕ) → IsShort t cap s → (table : Section) → table ≡ record { target = t; bytes = s } → (end : Result Unit Stop) (old new : Place) → old.room ≡ cap
    → ((ms : List Member) → AreMembers table.target table.bytes ms → Puts false (canon table.target ms) end old new) → Ended t cap s end old new
ended t cap s h table same end old new room puts =
    let w = whole_of t cap s h in
    let here = subst (λ (x : Section). (ms : List Member) → AreMembers x.target x.bytes ms → Puts false (canon x.target ms) end old new) same puts in
    record { normal = canon t w.members; is = w.is; within = w.within; room = room; puts = here w.members w.are }

module _ {t : Target} {cap : ℕ} {s : List ℕ} {end : Result Unit Stop} {old new : Place} (h : Ended t cap s end old new) where
  so : {r : Result Unit Stop} → end ≡ r → Puts false h.normal r old new
  so is = subst (λ (r : Result Unit Stop). Puts false h.normal r old new) is h.puts

  pub all_written : {u : Unit {0}} → end ≡ Ok u → Writes t cap s (Ok (cap - new.room)) old.failed new.failed old.told new.told
  all_written is = let put : Sends false h.normal old new = so is in (put.0, (h.normal, h.is, h.within, omega (arith, put.1, h.room), put.2 refl))

  pub never_full : {e : Stop} → end ≡ Err e → e ≡ Full → ⊥
  never_full is full = let long : old.room < length h.normal = so (is ∙ ap Err full) in omega (arith, long, h.room, h.within)

  went_out : Takes false h.normal old new → WentOut t cap s (cap - new.room) old.told new.told
  went_out some =
      let written : cap - new.room ≡ length some.front = omega (arith, some.room, h.room) in
      let front : take (cap - new.room) h.normal ≡ some.front = ap (λ (n : ℕ). take n h.normal) written ∙ ap (take (length some.front)) some.whole ∙ take-append_seam some.front some.rest in record {
        normal = h.normal;
        is = h.is;
        within = h.within;
        front = omega (arith, written, ap length some.whole, length-append some.front some.rest);
        took = subst (λ (l : List ℕ). Appends old.told new.told l) (sym front) (some.took refl);
      }

  pub some_written : {e : Stop} → end ≡ Err e → e ≡ Failed → Writes t cap s (Err (write_error.Write (cap - new.room))) old.failed new.failed old.told new.told
  some_written is failed = let put : (false ≡ false) × (old.failed < new.failed) × Takes false h.normal old new = so (is ∙ ap Err failed) in (put.1, went_out put.2)

  pub some_held : {e : Stop} → end ≡ Err e → e ≡ Memory → Writes t cap s (Err (write_error.Memory (cap - new.room))) old.failed new.failed old.told new.told
  some_held is out = let put : (new.failed ≡ old.failed) × Takes false h.normal old new = so (is ∙ ap Err out) in (put.0, inr (went_out put.1))

-- ---- what a tape took

pub on_tape : (bytes items : List ℕ) (old new : Option (List ℕ)) → old ≡ Some [] → Appends old new bytes → new ≡ Some items → items ≡ bytes
on_tape bytes items old new empty took is = subst (λ (o : Option (List ℕ)). Appends (Some []) o bytes) is (subst (λ (o : Option (List ℕ)). Appends o new bytes) empty took)

-- what a call that wrote on an empty tape answered
module _ (t : Target) (cap : ℕ) (s : List ℕ) (b : AreBytes s) (failed failed' : ℕ) (old new : Option (List ℕ)) (empty : old ≡ Some []) where
  pub tape_only : (count : ℕ) (items : List ℕ) → Writes t cap s (Ok count) failed failed' old new → new ≡ Some items → (n : List ℕ) → IsNormalForm t s n → items ≡ n
  tape_only count items w is n normal =
      let out = w.1 in
      on_tape out.0 items old new empty out.4 is ∙ normal_form_is_one t s out.0 n b out.1 normal

  pub tape_found : (count : ℕ) (items : List ℕ) → Writes t cap s (Ok count) failed failed' old new → new ≡ Some items → IsNormalForm t s items × (length items ≤ cap)
  tape_found count items w is =
      let out = w.1 in
      subst (λ (l : List ℕ). IsNormalForm t s l × (length l ≤ cap)) (sym (on_tape out.0 items old new empty out.4 is)) (out.1, out.2)

pub tape_fault : (t : Target) (cap : ℕ) (s : List ℕ) (failed failed' : ℕ) (old new : Option (List ℕ)) (e : WriteError) (result : ReadError)
    → Writes t cap s (Err e) failed failed' old new → result ≡ unread e → Refuses (NormalFault t cap s) result
tape_fault t cap s failed failed' old new e result w is = subst (Refuses (NormalFault t cap s)) (sym is) (by_error e w)
  where
    by_error : (x : WriteError) → Writes t cap s (Err x) failed failed' old new → Refuses (NormalFault t cap s) (unread x)
    by_error (write_error.Refused r) h = h.1
    by_error (write_error.Write written) h = tt
    by_error (write_error.Memory written) h = tt

-- ---- two sections

-- a test by what is written of two sections decides whether they say the same
module _ (law : SameNormalForm) (t : Target) (a b : List ℕ) (one : IsShort t 2147483647 a) (other : IsShort t 2147483647 b) where
  pub decides_meaning : (is : Bool) → ((ms ns : List Member) → AreMembers t a ms → AreMembers t b ns → Likens (ms ≡ ns) (canon t ms ≡ canon t ns) is) → Decides is (SameMeaning t a b)
  decides_meaning is h =
      let w = whole_of t 2147483647 a one in
      let v = whole_of t 2147483647 b other in
      let exactly = same_exactly t a b w.members v.members one.bytes other.bytes one.accepted other.accepted w.are v.are w.within v.within in
      let told = h w.members v.members w.are v.are in
      let equal = law t a b (canon t w.members) (canon t v.members) one.bytes other.bytes w.is v.is w.within v.within in
      (λ yes. equal.0 (told.1 yes), λ same. told.0 (exactly.1 same))

-- an error over the first of two sections, or over the second
pub first_fault : (t : Target) (a b : List ℕ) (e : ReadError) (result : SameError) → Refuses (CheckFault t a) e → result ≡ blamed First e → SameFault t 2147483647 a b result
first_fault t a b e result fault is = subst (SameFault t 2147483647 a b) (sym is) (by_error e fault)
  where
    by_error : (x : ReadError) → Refuses (CheckFault t a) x → SameFault t 2147483647 a b (blamed First x)
    by_error read_error.OutOfMemory h = tt
    by_error (read_error.Refused r) h = inl h

pub second_fault : (t : Target) (a b : List ℕ) (e : ReadError) (result : SameError) → Accepted t a → Refuses (CheckFault t b) e → result ≡ blamed Second e → SameFault t 2147483647 a b result
second_fault t a b e result ok fault is = subst (SameFault t 2147483647 a b) (sym is) (by_error e fault)
  where
    by_error : (x : ReadError) → Refuses (CheckFault t b) x → SameFault t 2147483647 a b (blamed Second x)
    by_error read_error.OutOfMemory h = tt
    by_error (read_error.Refused r) h = inl (ok, h)

-- an accepted section is blamed for want of memory alone
pub blamed_only : (t : Target) (s : List ℕ) (which : Which) (e : ReadError) (result : SameError) → AreBytes s → Refuses (CheckFault t s) e → result ≡ blamed which e
    → FitsCap t 2147483647 s → result ≡ same_error.OutOfMemory
blamed_only t s which e result b fault is within = is ∙ by_error e fault
  where
    by_error : (x : ReadError) → Refuses (CheckFault t s) x → blamed which x ≡ same_error.OutOfMemory
    by_error read_error.OutOfMemory h = refl
    by_error (read_error.Refused r) h = absurd (fault_or_accepted t s b r h within.1.accepted)

not_long : (t : Target) (s : List ℕ) → AreBytes s → FitsCap t 2147483647 s → IsTooLong t 2147483647 s → ⊥
not_long t s b within long = not_within t s within.0 2147483647 too_long b within.1 within.2 (inr (long, refl))

pub both_within : (t : Target) (a b : List ℕ) (one two : Section) → one ≡ record { target = t; bytes = a } → two ≡ record { target = t; bytes = b } → (result : Result Bool SameError)
    → IfOk result (λ (d : Bool). FitsCap one.target 2147483647 one.bytes × FitsCap one.target 2147483647 two.bytes) → IfOk result (λ (d : Bool). FitsCap t 2147483647 a × FitsCap t 2147483647 b)
both_within t a b one two e f result h =
    subst (λ (x : Section). IfOk result (λ (d : Bool). FitsCap t 2147483647 a × FitsCap t 2147483647 x.bytes)) f (subst (λ (x : Section). IfOk result (λ (d : Bool). FitsCap x.target 2147483647 x.bytes × FitsCap x.target 2147483647 two.bytes)) e h)

pub compared_only : (t : Target) (a b : List ℕ) (one two : Section) → one ≡ record { target = t; bytes = a } → two ≡ record { target = t; bytes = b } → AreBytes a → AreBytes b
    → (result : Result Bool SameError) → IfErr result (LengthFault one.target 2147483647 one.bytes two.bytes) → FitsCap t 2147483647 a → FitsCap t 2147483647 b
    → IfErr result (λ e. e ≡ same_error.OutOfMemory)
compared_only t a b one two e f ba bb result fault left right =
    by_result result (subst (λ (x : Section). IfErr result (LengthFault t 2147483647 a x.bytes)) f (subst (λ (x : Section). IfErr result (LengthFault x.target 2147483647 x.bytes two.bytes)) e fault))
  where
    by_error : (x : SameError) → LengthFault t 2147483647 a b x → x ≡ same_error.OutOfMemory
    by_error same_error.OutOfMemory h = refl
    by_error (same_error.Refused First r) h = absurd (not_long t a ba left h.0)
    by_error (same_error.Refused Second r) h = absurd (not_long t b bb right h.1)

    by_result : (r : Result Bool SameError) → IfErr r (LengthFault t 2147483647 a b) → IfErr r (λ x. x ≡ same_error.OutOfMemory)
    by_result (Ok is) h = tt
    by_result (Err x) h = by_error x h

-- two checked sections that were compared
module _ (t : Target) (a b : List ℕ) (one two : Section) (e : one ≡ record { target = t; bytes = a }) (f : two ≡ record { target = t; bytes = b }) where
  pub both_same : Accepted t a → Accepted t b → (result : Result Bool SameError) → IfOk result (λ (d : Bool). Decides d (SameMeaning one.target one.bytes two.bytes))
      → IfOk result (λ (d : Bool). Accepted t a × Accepted t b × Decides d (SameMeaning t a b))
  both_same ok ok' (Err x) h = tt
  both_same ok ok' (Ok d) h = (ok, ok', subst (λ (x : Section). Decides d (SameMeaning t a x.bytes)) f (subst (λ (x : Section). Decides d (SameMeaning x.target x.bytes two.bytes)) e h))

  pub same_fault : Accepted t b → (result : Result Bool SameError) → IfErr result (LengthFault one.target 2147483647 one.bytes two.bytes) → IfErr result (SameFault t 2147483647 a b)
  same_fault ok result fault =
      by_result result (subst (λ (x : Section). IfErr result (LengthFault t 2147483647 a x.bytes)) f (subst (λ (x : Section). IfErr result (LengthFault x.target 2147483647 x.bytes two.bytes)) e fault))
    where
      by_result : (r : Result Bool SameError) → IfErr r (LengthFault t 2147483647 a b) → IfErr r (SameFault t 2147483647 a b)
      by_result (Ok is) h = tt
      by_result (Err same_error.OutOfMemory) h = tt
      by_result (Err (same_error.Refused First r)) h = inr (h.0, ok, h.1)
      by_result (Err (same_error.Refused Second r)) h = inr h

pub second_too_long : (first second : Section) (e : ReadError) (result : SameError) → first.target ≡ second.target
    → IsShort first.target 2147483647 first.bytes → Refuses (λ r. IsTooLong second.target 2147483647 second.bytes × (r ≡ too_long)) e → result ≡ blamed Second e
    → LengthFault first.target 2147483647 first.bytes second.bytes result
second_too_long first second e result same one fault is = subst (LengthFault first.target 2147483647 first.bytes second.bytes) (sym is) (by_error e fault)
  where
    by_error : (x : ReadError) → Refuses (λ r. IsTooLong second.target 2147483647 second.bytes × (r ≡ too_long)) x → LengthFault first.target 2147483647 first.bytes second.bytes (blamed Second x)
    by_error read_error.OutOfMemory h = tt
    by_error (read_error.Refused r) h = (is_within first.target 2147483647 first.bytes one, subst (λ (u : Target). IsTooLong u 2147483647 second.bytes) (sym same) h.0, h.1)

pub tables_decided : SameNormalForm → (first second one two : Section) → first.target ≡ second.target → one ≡ first → two ≡ second
    → IsShort first.target 2147483647 first.bytes → IsShort second.target 2147483647 second.bytes → (is : Bool)
    → ((ms ns : List Member) → AreMembers one.target one.bytes ms → AreMembers two.target two.bytes ns → Likens (ms ≡ ns) (canon one.target ms ≡ canon two.target ns) is)
    → Decides is (SameMeaning first.target first.bytes second.bytes)
tables_decided law first second one two same e f h k is told =
    decides_meaning law first.target first.bytes second.bytes h (subst (λ (u : Target). IsShort u 2147483647 second.bytes) (sym same) k) is here
  where
    here : (ms ns : List Member) → AreMembers first.target first.bytes ms → AreMembers first.target second.bytes ns → Likens (ms ≡ ns) (canon first.target ms ≡ canon first.target ns) is
    here = rw (e, f, sym same) at told

-- there is room for what is written of two that are short
pub both_fit : {A : Type 0} (first second one two : Section) (r : Result A Stop) (e : Stop) → one ≡ first → two ≡ second → IsShort first.target 2147483647 first.bytes → IsShort second.target 2147483647 second.bytes
    → r ≡ Err e → e ≡ Full → LacksRoom one two (λ table ms. canon table.target ms) 2147483647 2147483647 r → ⊥
both_fit {A} first second one two r e same same' h k is full lacks =
    let w = whole_of first.target 2147483647 first.bytes h in
    let v = whole_of second.target 2147483647 second.bytes k in
    let here : LacksRoom {A = A} first second (λ table ms. canon table.target ms) 2147483647 2147483647 (Err e) = rw (same, same', is) at lacks in
    elim (here w.members v.members w.are v.are full) [
      | inl long ↦ omega (arith, long, w.within)
      | inr long ↦ omega (arith, long, v.within)
    ]
