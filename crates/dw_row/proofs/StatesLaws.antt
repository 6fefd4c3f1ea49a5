-- Remembered rows, kept by what was changed since.
use Rattle.std.proofs.lemmas.{List.{drop-append-le, drop_all, get_or_push, length-map, length-reverse, nil_from_length, reverse-append, reverse-reverse}, Option.{slice_get-get_or}}
use Rattle.dw_row.specs.declared.{change_list.Change.Change, kept_row.KeptRow.KeptRow, states.Remembered.Remembered}
use Rattle.dw_row.specs.Inner.{Changes.{Lists, change}, States.{SavedAgain, from_of}}
use Rattle.std.specs.{Option.option_to_list, Prelude.{IfOk, IsSome, drop, map, slice_get, ◌↔◌}}
use Rattle.dw_row.proofs.Words.{◌≡◌, ℕ, ◌+◌, ◌-◌, ◌≤◌, ◌<◌, Bool, true, false, length-append, List, [], ◌∷◌, ◌++◌, length, reverse, Option, Some, None, Result, OnOk, Ok, Err, OnErr, cases_Bool, inl, inr, nat_eq, eqb-true, nat_tests, has_register}
use Rattle.dw_row.proofs.Words.{refl, append-nil, sym, ap, ◌∙◌, subst, arith, AreSpecified, CfaRule, IsTrue, KeptSo, RegRule, Rules, put, rule_in, with_cfa, with_rule, Ascend, Held, SameBefore, StatesSo, row_at, saved_if, registers_before, remembering, rows_before, with_row, first_if, shown, held}
use Rattle.dw_row.proofs.{Words.{stacked, BeganWith, TakenBack, Restored}, ChangeLaws.has_behind, Lent.RowLists.{Entry, put_keeps, put_rule}, Slots.is_put, WideRows.{put_back, put_same}}

abbrev Before : Type 0
Before = List Rules × List Entry

-- the row that was remembered last
pub last_first : (r : Remembered) (items items' : List Remembered) → items' ≡ items ++ r ∷ [] → reverse items' ≡ r ∷ reverse items
last_first r items items' more = ap (λ (l : List Remembered). reverse l) more ∙ reverse-append items (r ∷ [])

none_before : (registers : List Entry) (changes : List Change) (remembered : List Remembered) → changes ≡ [] → remembered ≡ [] → rows_before registers changes remembered ≡ ([], registers)
unfolding rows_before registers_before
none_before registers changes remembered unchanged none = rw (unchanged, none) refl

pub none_stacked : (saved : KeptRow) (registers : List Entry) (changes : List Change) (remembered : List Remembered) → remembered ≡ [] → saved.watched ≡ false → stacked saved (rows_before registers changes remembered).0 ≡ []
unfolding rows_before
none_stacked saved registers changes remembered none off = rw (none, off) refl

pub none_on_err : {X E : Type 0} (result : Result X E) (saved : KeptRow) (registers : List Entry) (changes : List Change) (remembered : List Remembered) → remembered ≡ [] → saved.watched ≡ false
    → OnErr result (stacked saved (rows_before registers changes remembered).0 ≡ [])
none_on_err (Ok x) saved registers changes remembered none off = tt
none_on_err (Err e) saved registers changes remembered none off = none_stacked saved registers changes remembered none off

pub begun_held : (tracked : Bool) (saved : KeptRow) (row kept : Rules) (changes : List Change) (remembered : List Remembered) → changes ≡ [] → remembered ≡ [] → saved.watched ≡ false
    → held tracked saved row kept changes remembered ≡ record { row = row; stack = []; first = first_if tracked row.registers; kept = kept }
begun_held tracked saved row kept changes remembered unchanged none off = ap (shown tracked saved row kept) (none_before row.registers changes remembered unchanged none) ∙ rw off refl

pub begun_so : (tracked is_listed : Bool) → (is_listed ≡ false → tracked ≡ false) → (saved : KeptRow) (registers : List Entry) (changes : List Change) (remembered : List Remembered) → changes ≡ [] → remembered ≡ []
    → saved.watched ≡ false → StatesSo tracked is_listed saved (rows_before registers changes remembered).1 changes remembered
unfolding Ascend
begun_so tracked is_listed free saved registers changes remembered unchanged none off =
    record { unlisted = λ e. (free e, unchanged, none); untracked = λ e. absurd cc; since = λ on. absurd cc; ascend = rw none tt }

pub began : (tracked : Bool) (initial row : Rules) → row ≡ initial → BeganWith initial (first_if tracked row.registers)
began true initial row same = ap (λ (r : Rules). r.registers) same
began false initial row same = tt

abbrev with_registers : CfaRule → List Entry → Rules
with_registers cfa registers = record { cfa = cfa; registers = registers }

-- ---- a register that is changed once more

-- of two rules that a register is given the second stays, and two registers are given theirs in any order
put_twice : (r : ℕ) (rule later : RegRule) (xs : List Entry) → AreSpecified 0 xs → put r later (put r rule xs) ≡ put r later xs
put_twice r rule later xs up =
    let up' = put_keeps r rule 0 xs up (omega arith) in
    is_put r later xs (put r later (put r rule xs)) up (put_keeps r later 0 (put r rule xs) up' (omega arith)) (λ q. grind (arith, nat_tests, put_rule r later 0 (put r rule xs) q up', put_rule r rule 0 xs q up))

put_apart : (r q : ℕ) (rule older : RegRule) (xs : List Entry) → AreSpecified 0 xs → nat_eq q r ≡ false → put q older (put r rule xs) ≡ put r rule (put q older xs)
put_apart r q rule older xs up apart =
    let up-r = put_keeps r rule 0 xs up (omega arith) in let up-q = put_keeps q older 0 xs up (omega arith) in
    is_put r rule (put q older xs) (put q older (put r rule xs)) up-q (put_keeps q older 0 (put r rule xs) up-r (omega arith))
    (λ s. grind (arith, nat_tests, put_rule q older 0 (put r rule xs) s up-r, put_rule r rule 0 xs s up, put_rule q older 0 xs s up))

before_ascends : (registers : List Entry) (changes : List Change) → AreSpecified 0 registers → AreSpecified 0 (registers_before registers changes)
unfolding registers_before
before_ascends registers [] up = up
before_ascends registers (c ∷ changes) up = put_keeps c.register c.rule 0 (registers_before registers changes) (before_ascends registers changes up) (omega arith)

-- what is listed of a register is taken back, whatever rule it has then
covered : (r : ℕ) (rule older : RegRule) (registers : List Entry) (changes : List Change) → AreSpecified 0 registers
    → put r older (registers_before (put r rule registers) changes) ≡ put r older (registers_before registers changes)
unfolding registers_before
covered r rule older registers [] up = put_twice r rule older registers up
covered r rule older registers (c ∷ changes) up =
    let up' = before_ascends registers changes up in let up'' = before_ascends (put r rule registers) changes (put_keeps r rule 0 registers up (omega arith)) in
    let same = covered r rule older registers changes up in
    elim (cases_Bool (nat_eq c.register r)) [
      | inl is ↦ rw (eqb-true c.register r is) (put_twice r c.rule older (registers_before (put r rule registers) changes) up'' ∙ same ∙ sym (put_twice r c.rule older (registers_before registers changes) up'))
      | inr apart ↦
          sym (put_apart r c.register older c.rule (registers_before (put r rule registers) changes) up'' apart) ∙ ap (put c.register c.rule) same ∙ put_apart r c.register older c.rule (registers_before registers changes) up' apart
    ]

known_before : (r : ℕ) (rule : RegRule) (registers : List Entry) (changes : List Change) → AreSpecified 0 registers → has_register r changes ≡ true
    → registers_before (put r rule registers) changes ≡ registers_before registers changes
unfolding registers_before has_register
known_before r rule registers [] up has = absurd cc
known_before r rule registers (c ∷ changes) up has = elim (cases_Bool (nat_eq c.register r)) [
  | inl is ↦ rw (eqb-true c.register r is) (covered r rule c.rule registers changes up)
  | inr apart ↦ ap (put c.register c.rule) (known_before r rule registers changes up (rw apart at has))
]

-- ---- a register that is changed

-- a change that is listed last is taken back first
before_more : (registers : List Entry) (changes : List Change) (c : Change) → registers_before registers (changes ++ c ∷ []) ≡ registers_before (put c.register c.rule registers) changes
unfolding registers_before
before_more registers [] c = refl
before_more registers (x ∷ changes) c = ap (put x.register x.rule) (before_more registers changes c)

pub listed_more : (registers registers' : List Entry) (changes changes' : List Change) (c : Change) → changes' ≡ changes ++ c ∷ [] → put c.register c.rule registers' ≡ registers
    → SameBefore (length changes) registers' changes' registers changes
listed_more registers registers' changes changes' c more back n le =
    ap (λ (l : List Change). registers_before registers' (drop n l)) more ∙ ap (registers_before registers') (drop-append-le n changes (c ∷ []) le)
    ∙ before_more registers' (drop n changes) c ∙ ap (λ (xs : List Entry). registers_before xs (drop n changes)) back

-- the rule that a register had is listed before it is given another one
pub listed_behind : {X E : Type 0} (result : Result X E) (r : ℕ) (older rule : RegRule) (row row' : Rules) (changes changes' : List Change) → AreSpecified 0 row.registers → older ≡ rule_in row.registers r
    → changes' ≡ changes ++ change r older ∷ [] → OnOk result (row' ≡ with_rule r rule row) → OnErr result (row' ≡ row) → SameBefore (length changes) row'.registers changes' row.registers changes
listed_behind (Ok x) r older rule row row' changes changes' up is more set err = listed_more row.registers row'.registers changes changes' (change r older) more (rw (set, is) (put_back r rule row.registers up))
listed_behind (Err x) r older rule row row' changes changes' up is more set err = listed_more row.registers row'.registers changes changes' (change r older) more (rw (err, is) (put_same r row.registers up))

-- or it is listed behind the last remembered row
pub known_behind : {X E : Type 0} (result : Result X E) (r from : ℕ) (rule : RegRule) (row row' : Rules) (changes : List Change) → AreSpecified 0 row.registers → has_register r (drop from changes) ≡ true
    → OnOk result (row' ≡ with_rule r rule row) → OnErr result (row' ≡ row) → SameBefore from row'.registers changes row.registers changes
known_behind (Ok x) r from rule row row' changes up has set err n le = rw set (known_before r rule row.registers (drop n changes) up (has_behind r n from changes le has))
known_behind (Err x) r from rule row row' changes up has set err n le = rw err refl

pub lists_more : (from r : ℕ) (rule : RegRule) (changes changes' : List Change) → Lists from r rule changes changes' → length changes ≤ length changes'
lists_more from r rule changes changes' (inl known) = rw known.1 (omega arith)
lists_more from r rule changes changes' (inr more) = let count = ap (λ (l : List Change). length l) more in omega (arith, count, length-append changes (change r rule ∷ []))

-- ---- remembered rows

same_rows : (registers registers' : List Entry) (changes changes' : List Change) (from : ℕ) (rows : List Remembered) → SameBefore from registers' changes' registers changes → Ascend from rows
    → map (row_at registers' changes') rows ≡ map (row_at registers changes) rows
unfolding Ascend
same_rows registers registers' changes changes' from [] same up = refl
same_rows registers registers' changes changes' from (r ∷ rows) same up =
    rw (same r.from up.0, same_rows registers registers' changes changes' r.from rows (λ n le. same n (omega (arith, le, up.0))) up.1) refl

-- what lies behind stays
pub before_stays : (registers registers' : List Entry) (changes changes' : List Change) (from : ℕ) (remembered : List Remembered) → SameBefore from registers' changes' registers changes → Ascend from (reverse remembered)
    → rows_before registers' changes' remembered ≡ rows_before registers changes remembered
unfolding rows_before
before_stays registers registers' changes changes' from remembered same up = rw (same_rows registers registers' changes changes' from (reverse remembered) same up, same 0 (omega arith)) refl

more_ascend : (n m : ℕ) (rows : List Remembered) → n ≤ m → Ascend n rows → Ascend m rows
unfolding Ascend
more_ascend n m [] le up = tt
more_ascend n m (r ∷ rows) le up = (omega (arith, le, up.0), up.1)

pub first_ascend : (count : ℕ) (remembered : List Remembered) → remembered ≡ [] → Ascend count (reverse remembered)
unfolding Ascend
first_ascend count remembered none = rw none tt

last_at : (xs : List Remembered) (r : Remembered) → slice_get (xs ++ r ∷ []) (length (xs ++ r ∷ []) - 1) ≡ Some r
last_at xs r =
    let i = length (xs ++ r ∷ []) - 1 in let are = length-append xs (r ∷ []) in
    slice_get-get_or (xs ++ r ∷ []) i r (omega (arith, are)) ∙ ap Some (get_or_push xs r r i (omega (arith, are)))

from_last : (count : ℕ) (rows : List Remembered) → Ascend count rows → Ascend (from_of (slice_get (reverse rows) (length (reverse rows) - 1))) rows
unfolding Ascend
from_last count [] up = tt
from_last count (r ∷ rows) up =
    let is : slice_get (reverse (r ∷ rows)) (length (reverse (r ∷ rows)) - 1) ≡ Some r = ap (λ (l : List Remembered). slice_get l (length l - 1)) (reverse-append (r ∷ []) rows) ∙ last_at (reverse rows) r in
    rw is (omega arith, up.1)

-- behind the row that was remembered last
pub last_ascend : (from count : ℕ) (remembered : List Remembered) (last : Option Remembered) → last ≡ slice_get remembered (length remembered - 1) → from ≡ from_of last → Ascend count (reverse remembered)
    → Ascend from (reverse remembered)
last_ascend from count remembered last is at up =
    let same : from_of (slice_get (reverse (reverse remembered)) (length (reverse (reverse remembered)) - 1)) ≡ from =
    ap (λ (l : List Remembered). from_of (slice_get l (length l - 1))) (reverse-reverse remembered) ∙ sym (ap from_of is) ∙ sym at in
    subst (λ (n : ℕ). Ascend n (reverse remembered)) same (from_last count (reverse remembered) up)

-- ---- changes that are taken back

pub taken_on : (from : ℕ) (began now now' : List Entry) (all changes changes' : List Change) (c : Change) → SameBefore from began all now changes → from < length changes → changes ≡ changes' ++ c ∷ []
    → now' ≡ put c.register c.rule now → SameBefore from began all now' changes'
taken_on from began now now' all changes changes' c same some more is n le =
    let count = ap (λ (l : List Change). length l) more in
    same n le ∙ listed_more now' now changes' changes c more (sym is) n (omega (arith, le, some, count, length-append changes' (c ∷ [])))

pub left_on : (from : ℕ) (changes changes' : List Change) (c : Change) → from < length changes → changes ≡ changes' ++ c ∷ [] → from ≤ length changes'
left_on from changes changes' c some more = let count = ap (λ (l : List Change). length l) more in omega (arith, some, count, length-append changes' (c ∷ []))

pub all_taken : (registers registers' : List Entry) (changes changes' : List Change) → TakenBack 0 registers changes registers' changes' → registers_before registers changes ≡ registers'
unfolding registers_before
all_taken registers registers' changes changes' taken = taken.0 0 (omega arith) ∙ ap (registers_before registers') (nil_from_length changes' taken.1)

none_popped : (remembered : List Remembered) (last : Option Remembered) → last ≡ None → (0 < length remembered → IsSome last) → remembered ≡ []
none_popped [] last none some = refl
none_popped (r ∷ rows) last none some = let no = subst (λ (o : Option Remembered). IsSome o) none (some (omega arith)) in absurd cc

-- ---- the value of the code's states

module _ {tracked is_listed : Bool} {saved : KeptRow} {row kept : Rules} {changes : List Change} {remembered : List Remembered} {now : Held} (is : held tracked saved row kept changes remembered ≡ now)
    (so : StatesSo tracked is_listed saved (rows_before row.registers changes remembered).1 changes remembered) where
  abbrev behind : Before
  behind = rows_before row.registers changes remembered

  pub depth_is : length now.stack ≡ length remembered + length (saved_if saved.watched saved.row)
  unfolding rows_before
  depth_is =
      let rows = map (row_at row.registers changes) (reverse remembered) in let one = saved_if saved.watched saved.row in
      ap (λ (h : Held). length h.stack) (sym is)
      ∙ omega (arith, length-append rows one, length-map (reverse remembered) (row_at row.registers changes), length-reverse remembered)

  pub first_is : first_if tracked (registers_before row.registers changes) ≡ now.first
  unfolding rows_before
  first_is = ap (λ (h : Held). h.first) is

  -- a register is given a rule
  pub ruled_row : (new : Held) (row' kept' : Rules) (r : ℕ) (rule : RegRule) → row' ≡ with_rule r rule row → kept' ≡ kept
      → new ≡ record { row = row'; stack = now.stack; first = now.first; kept = kept' } → new ≡ with_row (with_rule r rule now.row) now
  ruled_row new row' kept' r rule set stays same = rw (same, set, stays, ← is) refl

  pub ruled : {X E : Type 0} (result : Result X E) (new : Held) (row' kept' : Rules) (r : ℕ) (rule : RegRule) → OnOk result (row' ≡ with_rule r rule row) → kept' ≡ kept
      → new ≡ record { row = row'; stack = now.stack; first = now.first; kept = kept' } → OnOk result (new ≡ with_row (with_rule r rule now.row) now)
  ruled (Ok x) new row' kept' r rule set stays same = ruled_row new row' kept' r rule set stays same
  ruled (Err x) new row' kept' r rule set stays same = tt

  -- or is as it was
  pub same_states : (new : Held) (row' kept' : Rules) → row' ≡ row → kept' ≡ kept → new ≡ record { row = row'; stack = now.stack; first = now.first; kept = kept' } → new ≡ now
  same_states new row' kept' same stays at = rw (at, same, stays, ← is) refl

  -- the rule that it had is listed
  pub changed_same : {X E : Type 0} (result : Result X E) (r from : ℕ) (rule : RegRule) (last : Option Remembered) (row' : Rules) (changes' : List Change) → AreSpecified 0 row.registers
      → last ≡ slice_get remembered (length remembered - 1) → from ≡ from_of last → Lists from r (rule_in row.registers r) changes changes' → OnOk result (row' ≡ with_rule r rule row) → OnErr result (row' ≡ row)
      → rows_before row'.registers changes' remembered ≡ behind
  changed_same result r from rule last row' changes' up at found (inl known) set err =
      ap (λ (l : List Change). rows_before row'.registers l remembered) known.1
      ∙ before_stays row.registers row'.registers changes changes from remembered (known_behind result r from rule row row' changes up known.0 set err) (last_ascend from (length changes) remembered last at found so.ascend)
  changed_same result r from rule last row' changes' up at found (inr more) set err =
      before_stays row.registers row'.registers changes changes' (length changes) remembered (listed_behind result r (rule_in row.registers r) rule row row' changes changes' up refl more set err) so.ascend

  module _ (row' kept' : Rules) (changes' : List Change) where
    abbrev behind' : Before
    behind' = rows_before row'.registers changes' remembered

    -- the same rows lie behind
    pub same_held : behind' ≡ behind → held tracked saved row' kept' changes' remembered ≡ record { row = row'; stack = now.stack; first = now.first; kept = kept' }
    same_held same = ap (shown tracked saved row' kept') same ∙ ap (λ (h : Held). let x : Held = record { row = row'; stack = h.stack; first = h.first; kept = kept' } in x) is

    pub same_so : behind' ≡ behind → length changes ≤ length changes' → StatesSo tracked true saved behind'.1 changes' remembered
    same_so same le = record {
      unlisted = λ e. absurd cc;
      untracked = so.untracked;
      since = subst (λ (b : Before). KeptSo saved b.1) (sym same) so.since;
      ascend = more_ascend (length changes) (length changes') (reverse remembered) le so.ascend;
    }

  -- one row more
  module _ (remembered' : List Remembered) (r : Remembered) (more : remembered' ≡ remembered ++ r ∷ []) (cfa : r.cfa ≡ row.cfa) (from : r.from ≡ length changes) where
    one_more : rows_before row.registers changes remembered' ≡ (row ∷ behind.0, behind.1)
    unfolding rows_before registers_before
    one_more = rw (last_first r remembered remembered' more, cfa, from, drop_all (length changes) changes (omega arith)) refl

    pub listed_held : held tracked saved row kept changes remembered' ≡ remembering now
    listed_held = ap (shown tracked saved row kept) one_more ∙ ap remembering is

    pub listed_so : StatesSo tracked true saved (rows_before row.registers changes remembered').1 changes remembered'
    unfolding Ascend
    listed_so = record {
      unlisted = λ e. absurd cc;
      untracked = so.untracked;
      since = subst (λ (b : Before). KeptSo saved b.1) (sym one_more) so.since;
      ascend = rw (last_first r remembered remembered' more, from) (omega arith, so.ascend);
    }

  -- nothing is listed: a register that is set is marked
  module _ (marked : KeptRow) (row' kept' : Rules) (free : is_listed ≡ false) (own : marked.row ≡ saved.row) (same : marked.watched ≡ saved.watched) where
    pub set_held : held tracked marked row' kept' changes remembered ≡ record { row = row'; stack = now.stack; first = now.first; kept = kept' }
    set_held =
        let none = so.unlisted free in
        let new = none_before row'.registers changes remembered none.1 none.2 in let old = none_before row.registers changes remembered none.1 none.2 in
        rw (new, ← is, old, none.0, same, own) refl

    pub marked_so : KeptSo marked row'.registers → StatesSo tracked is_listed marked (rows_before row'.registers changes remembered).1 changes remembered
    marked_so since = record {
      unlisted = so.unlisted;
      untracked = λ on. so.untracked (sym same ∙ on);
      since = rw (none_before row'.registers changes remembered (so.unlisted free).1 (so.unlisted free).2) since;
      ascend = so.ascend;
    }

  -- no row is saved where none is remembered
  pub none_saved : (current : List Entry) → length now.stack ≡ 0 → KeptSo saved current
  none_saved current none on =
      let one : length (saved_if saved.watched saved.row) ≡ 1 = rw on refl in
      absurd (omega (arith, depth_is, none, one))

  -- nothing is listed before the current row
  pub since_row : is_listed ≡ false → KeptSo saved row.registers
  since_row free = subst (λ (b : Before). KeptSo saved b.1) (none_before row.registers changes remembered (so.unlisted free).1 (so.unlisted free).2) so.since

  -- a row is saved where none is remembered
  module _ (off : tracked ≡ false) (none : length now.stack ≡ 0) (saved' : KeptRow) (changes' : List Change) (empty : changes' ≡ []) where
    abbrev none_left : remembered ≡ []
    none_left = nil_from_length remembered (omega (arith, depth_is, none))

    pub saved_held : saved'.row ≡ row → IsTrue saved'.watched → held tracked saved' row kept changes' remembered ≡ remembering now
    saved_held same on =
        let nothing = nil_from_length now.stack none in
        let first = sym (ap (λ (h : Held). h.first) is) ∙ ap (λ (t : Bool). first_if t behind.1) off in
        let new = none_before row.registers changes' remembered empty none_left in
        rw (nothing, first, new, off, on, same, ← ap (λ (h : Held). h.row) is, ← ap (λ (h : Held). h.kept) is) refl

    pub unsaved_held : saved'.watched ≡ false → held tracked saved' row kept changes' remembered ≡ now
    unsaved_held unwatched =
        let nothing = nil_from_length now.stack none in
        let first = sym (ap (λ (h : Held). h.first) is) ∙ ap (λ (t : Bool). first_if t behind.1) off in
        begun_held tracked saved' row kept changes' remembered empty none_left unwatched ∙ rw (off, ← nothing, ← first, ← ap (λ (h : Held). h.row) is, ← ap (λ (h : Held). h.kept) is) refl

    pub saved_so : KeptSo saved' row.registers → StatesSo tracked false saved' (rows_before row.registers changes' remembered).1 changes' remembered
    saved_so since = record {
      unlisted = λ e. (off, empty, none_left);
      untracked = λ on. off;
      since = rw (none_before row.registers changes' remembered empty none_left) since;
      ascend = first_ascend (length changes') remembered none_left;
    }

  pub popped_fits : (last : Option Remembered) (remembered' : List Remembered) → remembered ≡ remembered' ++ option_to_list last → from_of last ≤ length changes
  unfolding Ascend
  popped_fits None remembered' popped = omega arith
  popped_fits (Some r) remembered' popped = (subst (Ascend (length changes)) (last_first r remembered' remembered popped) so.ascend).0

  -- changes were taken back up to the row that was remembered last, where one was listed
  module _ (row' kept' : Rules) (changes' : List Change) (remembered' : List Remembered) (last : Option Remembered) (from : ℕ) (popped : remembered ≡ remembered' ++ option_to_list last) (at : from ≡ from_of last)
      (taken : TakenBack from row.registers changes row'.registers changes') where
    module _ (r : Remembered) (found : last ≡ Some r) where
      last_is : reverse remembered ≡ r ∷ reverse remembered'
      last_is = last_first r remembered' remembered (popped ∙ ap (λ (o : Option Remembered). remembered' ++ option_to_list o) found)

      last_up : (r.from ≤ length changes) × Ascend r.from (reverse remembered')
      unfolding Ascend
      last_up = subst (Ascend (length changes)) last_is so.ascend

      taken_to : TakenBack r.from row.registers changes row'.registers changes'
      taken_to = rw (at ∙ ap from_of found) at taken

      found_before : behind ≡ (with_registers r.cfa row'.registers ∷ (rows_before row'.registers changes' remembered').0, (rows_before row'.registers changes' remembered').1)
      unfolding rows_before registers_before
      found_before =
          let none = drop_all r.from changes' (omega (arith, taken_to.1)) in
          rw (last_is, taken_to.0 r.from (omega arith), none, taken_to.0 0 (omega arith), same_rows row'.registers row.registers changes' changes r.from (reverse remembered') taken_to.0 last_up.1) refl

      pub found_so : (is_listed' : Bool) → (is_listed' ≡ false → (tracked ≡ false) × (changes' ≡ []) × (remembered' ≡ [])) → StatesSo tracked is_listed' saved (rows_before row'.registers changes' remembered').1 changes' remembered'
      found_so is_listed' unlisted =
          record { unlisted = unlisted; untracked = so.untracked; since = subst (λ (b : Before). KeptSo saved b.1) found_before so.since; ascend = rw taken_to.1 last_up.1 }

      pub found_held : (row'' : Rules) → row'' ≡ with_cfa r.cfa row' → Restored true now (held tracked saved row'' kept' changes' remembered')
      found_held row'' same = subst (λ (x : Rules). Restored true now (held tracked saved x kept' changes' remembered')) (sym same) (
        ap (λ (h : Held). h.stack) (sym is) ∙ ap (λ (b : Before). stacked saved b.0) found_before,
        ap (λ (b : Before). first_if tracked b.1) (sym found_before) ∙ ap (λ (h : Held). h.first) is,
      )

    -- none was: the one that is saved is the last, or there is none
    module _ (none : last ≡ None) (some : IsSome last ↔ (0 < length remembered)) where
      before_none : remembered ≡ []
      before_none = none_popped remembered last none some.1

      pub behind_none : remembered' ≡ []
      behind_none = sym (append-nil remembered') ∙ sym (popped ∙ ap (λ (o : Option Remembered). remembered' ++ option_to_list o) none) ∙ before_none

      taken_to_none : TakenBack 0 row.registers changes row'.registers changes'
      taken_to_none = rw (at ∙ ap from_of none) at taken

      none_changed : changes' ≡ []
      none_changed = nil_from_length changes' taken_to_none.1

      taken_before : behind ≡ ([], row'.registers)
      unfolding rows_before
      taken_before = rw (before_none, all_taken row.registers row'.registers changes changes' taken_to_none) refl

      pub none_since : KeptSo saved row'.registers
      none_since = subst (λ (b : Before). KeptSo saved b.1) taken_before so.since

      pub none_held : saved.watched ≡ false → now.stack ≡ []
      none_held off = ap (λ (h : Held). h.stack) (sym is) ∙ ap (λ (b : Before). stacked saved b.0) taken_before ∙ rw off refl

      pub back_so : (saved' : KeptRow) (row'' : Rules) → saved'.watched ≡ false → StatesSo tracked is_listed saved' (rows_before row''.registers changes' remembered').1 changes' remembered'
      back_so saved' row'' off = begun_so tracked is_listed (λ e. (so.unlisted e).0) saved' row''.registers changes' remembered' none_changed behind_none off

      pub back_held : (saved' : KeptRow) (row'' : Rules) → IsTrue saved.watched → saved'.watched ≡ false → row'' ≡ saved.row → Restored true now (held tracked saved' row'' kept' changes' remembered')
      back_held saved' row'' on off same =
          let free = so.untracked on in
          subst (λ (h : Held). Restored true now h) (sym (begun_held tracked saved' row'' kept' changes' remembered' none_changed behind_none off)) (
            ap (λ (h : Held). h.stack) (sym is) ∙ ap (λ (b : Before). stacked saved b.0) taken_before ∙ rw (on, same) refl,
            ap (λ (t : Bool). first_if t row''.registers) free ∙ sym (sym (ap (λ (h : Held). h.first) is) ∙ ap (λ (t : Bool). first_if t behind.1) free),
          )

      -- either way
      pub again_held : {E : Type 0} (result : Result Bool E) (saved' : KeptRow) (row'' : Rules) → saved'.watched ≡ false → IfOk result (SavedAgain saved row'')
          → IfOk result (λ found. Restored found now (held tracked saved' row'' kept' changes' remembered'))
      again_held (Ok true) saved' row'' off again = back_held saved' row'' again.0 off again.1
      again_held (Ok false) saved' row'' off again = none_held again
      again_held (Err e) saved' row'' off again = tt

  -- nothing is listed
  pub unlisted_held : {E : Type 0} (result : Result Bool E) (saved' : KeptRow) (row' kept' : Rules) → is_listed ≡ false → saved'.watched ≡ false → IfOk result (SavedAgain saved row')
      → IfOk result (λ found. Restored found now (held tracked saved' row' kept' changes remembered))
  unlisted_held result saved' row' kept' free off again =
      let none = so.unlisted free in
      again_held row kept' changes remembered None 0 (sym (append-nil remembered)) refl (λ n le. refl, ap (λ (l : List Change). length l) none.1) refl
      (λ some. absurd cc, λ lt. let count = ap (λ (l : List Remembered). length l) none.2 in absurd (omega (arith, lt, count))) result saved' row' off again

pub rewound : (tracked : Bool) (saved : KeptRow) (initial row kept : Rules) (changes : List Change) (remembered : List Remembered) → row ≡ initial → changes ≡ [] → remembered ≡ [] → saved.watched ≡ false
    → ((held tracked saved row kept changes remembered).row ≡ initial) × ((held tracked saved row kept changes remembered).stack ≡ []) × BeganWith initial (held tracked saved row kept changes remembered).first
rewound tracked saved initial row kept changes remembered same unchanged none off =
    subst (λ (h : Held). (h.row ≡ initial) × (h.stack ≡ []) × BeganWith initial h.first) (sym (begun_held tracked saved row kept changes remembered unchanged none off)) (same, refl, began tracked initial row same)
