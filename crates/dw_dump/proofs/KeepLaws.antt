-- Statements one after the other: what they give, and how often.
use Rattle.std.proofs.Common.{rules}
use Rattle.dw_dump.proofs.Words.{◌≡◌, ◌⊎◌, ℕ, suc, ◌+◌, ◌<◌, ◌≤◌, true, false, cond, List, [], ◌∷◌, ◌++◌, length, Option, Some, None, refl, sym, ap, subst, ◌∙◌, arith, add-zero, inl, inr, append_assoc}
use Rattle.dw_dump.proofs.Words.{length-append, is_some, ◌==◌, cases_Bool, eqb_tells, append-nil, sum_by-cons, sum_by_push, held, Gathered, Range, Keeps, IsWhole, ranges_of}
use Rattle.dw_dump.proofs.{Words.{bytes_by, bytes_of, option_or, Statement, DumpItem, nothing, counter_is, register_is, memory_is, counter, register, told, given, times}, Lent.Elements.all_push}

or_else_none : (x : Option ℕ) → option_or x None ≡ x
or_else_none None = refl
or_else_none (Some v) = refl

or_else_assoc : (x y z : Option ℕ) → option_or x (option_or y z) ≡ option_or (option_or x y) z
or_else_assoc None y z = refl
or_else_assoc (Some v) y z = refl

pub given_push : (ss : List Statement) (s : Statement) (item : DumpItem) → given (ss ++ s ∷ []) item ≡ option_or (given ss item) (told s item)
given_push [] s item = or_else_none (told s item)
given_push (t ∷ ss) s item = ap (option_or (told t item)) (given_push ss s item) ∙ or_else_assoc (told t item) (given ss item) (told s item)

pub times_cons : (s : Statement) (ss : List Statement) (item : DumpItem) → times (s ∷ ss) item ≡ cond (is_some (told s item)) 1 0 + times ss item
times_cons s ss item = sum_by-cons (λ (t : Statement). cond (is_some (told t item)) 1 0) s ss

pub times_push : (ss : List Statement) (s : Statement) (item : DumpItem) → times (ss ++ s ∷ []) item ≡ times ss item + cond (is_some (told s item)) 1 0
times_push ss s item = sum_by_push (λ (t : Statement). cond (is_some (told t item)) 1 0) ss s

none_both : (x y : Option ℕ) → option_or x y ≡ None → (x ≡ None) × (y ≡ None)
none_both None y e = (refl, e)
none_both (Some v) y e = absurd cc

some_either : (x y : Option ℕ) → is_some (option_or x y) ≡ true → (is_some x ≡ true) ⊎ (is_some y ≡ true)
some_either None y e = inr e
some_either (Some v) y e = inl refl

pub times_none : (ss : List Statement) (item : DumpItem) → given ss item ≡ None → times ss item ≡ 0
times_none [] item e = refl
times_none (s ∷ ss) item e = search (rules, none_both (told s item) (given ss item) e, times_none ss item (none_both (told s item) (given ss item) e).1, times_cons)

pub times_some : (ss : List Statement) (item : DumpItem) → is_some (given ss item) ≡ true → 0 < times ss item
times_some [] item e = absurd cc
times_some (s ∷ ss) item e =
    let all = times_cons s ss item in
    elim (some_either (told s item) (given ss item) e) [
      | inl here ↦ let one : times (s ∷ ss) item ≡ 1 + times ss item = all ∙ rw here refl in omega arith
      | inr there ↦ let rest = times_some ss item there in omega arith
    ]

pub repeats : (ss : List Statement) (s : Statement) (item : DumpItem) → is_some (given ss item) ≡ true → is_some (told s item) ≡ true → 1 < times (ss ++ s ∷ []) item
repeats ss s item before now =
    let some = times_some ss item before in
    let all : times (ss ++ s ∷ []) item ≡ times ss item + 1 = times_push ss s item ∙ rw now refl in
    omega arith

pub once_push : (ss : List Statement) (s : Statement) (item : DumpItem) → times ss item ≤ 1 → (is_some (told s item) ≡ true → given ss item ≡ None) → times (ss ++ s ∷ []) item ≤ 1
once_push ss s item one new = elim (cases_Bool (is_some (told s item))) [
  | inl now ↦
      let none = times_none ss item (new now) in
      let all : times (ss ++ s ∷ []) item ≡ times ss item + 1 = times_push ss s item ∙ rw now refl in
      omega arith
  | inr not ↦
      let all : times (ss ++ s ∷ []) item ≡ times ss item + 0 = times_push ss s item ∙ rw not refl in
      omega arith
]

pub bytes_push : (ss : List Statement) (s : Statement) → bytes_of (ss ++ s ∷ []) ≡ bytes_of ss ++ bytes_by s
bytes_push [] s = append-nil (bytes_by s)
bytes_push (t ∷ ss) s = ap (λ (bs : List ℕ). bytes_by t ++ bs) (bytes_push ss s) ∙ sym (append_assoc (bytes_by t) (bytes_of ss) (bytes_by s))

at_places : (line place n m p q : ℕ) (ss : List Statement) (s : Statement) → n ≡ m → p ≡ q → ranges_of line place ss ++ ranges_of n p (s ∷ []) ≡ ranges_of line place ss ++ ranges_of m q (s ∷ [])
at_places line place n m p q ss s e f = ap (λ (k : ℕ). ranges_of line place ss ++ ranges_of k p (s ∷ [])) e ∙ ap (λ (k : ℕ). ranges_of line place ss ++ ranges_of m k (s ∷ [])) f

pub ranges_push : (line place : ℕ) (ss : List Statement) (s : Statement) → ranges_of line place (ss ++ s ∷ []) ≡ ranges_of line place ss ++ ranges_of (line + length ss) (place + length (bytes_of ss)) (s ∷ [])
ranges_push line place [] s = rw (add-zero, add-zero) refl
ranges_push line place (memory_is start bytes ∷ ss) s = search (rules, length-append bytes (bytes_of ss), at_places, ranges_push (suc line) (place + length bytes) ss s)
ranges_push line place (t ∷ ss) s = ranges_push (suc line) place ss s ∙ at_places (suc line) place _ _ _ _ ss s (omega arith) refl

-- one more statement
pub keeps_more : {limit : ℕ} {old : Gathered} {ss : List Statement} (new : Gathered) (s : Statement) → Keeps limit old ss
    → new.pc ≡ option_or old.pc (told s counter)
    → ((r : ℕ) → held new.registers r ≡ option_or (held old.registers r) (told s (register r)))
    → new.ranges.items ≡ old.ranges.items ++ ranges_of (length ss + 1) (length old.bytes.items) (s ∷ [])
    → new.bytes.items ≡ old.bytes.items ++ bytes_by s
    → IsWhole limit s
    → (is_some (told s counter) ≡ true → old.pc ≡ None)
    → ((r : ℕ) → is_some (told s (register r)) ≡ true → held old.registers r ≡ None)
    → Keeps limit new (ss ++ s ∷ [])
keeps_more {limit} {old} {ss} new s k pc registers ranges bytes whole new_pc new_register = record {
  pc = pc ∙ ap (λ (o : Option ℕ). option_or o (told s counter)) k.pc ∙ sym (given_push ss s counter);
  registers = λ r. registers r ∙ ap (λ (o : Option ℕ). option_or o (told s (register r))) (k.registers r) ∙ sym (given_push ss s (register r));
  ranges = ranges ∙ ap (λ (rs : List Range). rs ++ ranges_of (length ss + 1) (length old.bytes.items) (s ∷ [])) k.ranges
      ∙ at_places 1 0 (length ss + 1) (1 + length ss) (length old.bytes.items) (0 + length (bytes_of ss)) ss s (omega arith) (ap length k.bytes ∙ omega arith) ∙ sym (ranges_push 1 0 ss s);
  bytes = bytes ∙ ap (λ (bs : List ℕ). bs ++ bytes_by s) k.bytes ∙ sym (bytes_push ss s);
  whole = all_push (IsWhole limit) ss s k.whole whole;
  one_counter = once_push ss s counter k.one_counter (λ e. sym k.pc ∙ new_pc e);
  one_register = λ r. once_push ss s (register r) (k.one_register r) (λ e. sym (k.registers r) ∙ new_register r e);
}

pub none_of : (o : Option ℕ) → is_some o ≡ false → o ≡ None
none_of None e = refl
none_of (Some v) e = absurd cc

pub keeps_nothing : {limit : ℕ} {old : Gathered} {ss : List Statement} → Keeps limit old ss → Keeps limit old (ss ++ nothing ∷ [])
keeps_nothing {old = old} k = keeps_more old nothing k (sym (or_else_none old.pc)) (λ r. sym (or_else_none (held old.registers r)))
    (sym (append-nil old.ranges.items)) (sym (append-nil old.bytes.items)) (tt, tt) (λ e. absurd cc) (λ r e. absurd cc)

pub keeps_counter : {limit : ℕ} {old : Gathered} {ss : List Statement} (v : ℕ) → Keeps limit old ss → v < limit → is_some old.pc ≡ false → Keeps limit (record old { pc = Some v }) (ss ++ counter_is v ∷ [])
keeps_counter {old = old} v k fits free =
    let none = none_of old.pc free in
    keeps_more (record old { pc = Some v }) (counter_is v) k (rw none refl) (λ r. sym (or_else_none (held old.registers r)))
    (sym (append-nil old.ranges.items)) (sym (append-nil old.bytes.items)) (fits, tt) (λ e. none) (λ r e. absurd cc)

pub keeps_register : {limit : ℕ} {old : Gathered} {ss : List Statement} (new : Gathered) (q v : ℕ) → Keeps limit old ss → v < limit → is_some (held old.registers q) ≡ false
    → new.pc ≡ old.pc → ((r : ℕ) → held new.registers r ≡ cond (r == q) (Some v) (held old.registers r)) → new.ranges.items ≡ old.ranges.items → new.bytes.items ≡ old.bytes.items
    → Keeps limit new (ss ++ register_is q v ∷ [])
keeps_register {old = old} new q v k fits free pc set ranges bytes =
    let none = none_of (held old.registers q) free in
    keeps_more new (register_is q v) k (pc ∙ sym (or_else_none old.pc)) register_set
    (ranges ∙ sym (append-nil old.ranges.items)) (bytes ∙ sym (append-nil old.bytes.items)) (fits, tt) (λ e. absurd cc) register_new
  where
    register_set : (r : ℕ) → held new.registers r ≡ option_or (held old.registers r) (told (register_is q v) (register r))
    register_set r = elim (eqb_tells r q) [
      | inl same ↦ let gone : held old.registers r ≡ None = subst (λ (n : ℕ). held old.registers n ≡ None) (sym same.1) (none_of (held old.registers q) free) in set r ∙ rw (same.0, gone) refl
      | inr other ↦ set r ∙ rw (other.0) (sym (or_else_none (held old.registers r)))
    ]

    register_new : (r : ℕ) → is_some (told (register_is q v) (register r)) ≡ true → held old.registers r ≡ None
    register_new r e = elim (eqb_tells r q) [
      | inl same ↦ subst (λ (n : ℕ). held old.registers n ≡ None) (sym same.1) (none_of (held old.registers q) free)
      | inr other ↦ absurd (let no : false ≡ true = rw (other.0) at e in cc)
    ]

pub keeps_memory : {limit : ℕ} {old : Gathered} {ss : List Statement} {line : ℕ} (new : Gathered) (start : ℕ) (bytes : List ℕ) → Keeps limit old ss → line ≡ length ss + 1 → start + length bytes ≤ limit → 0 < length bytes
    → new.pc ≡ old.pc → ((r : ℕ) → held new.registers r ≡ held old.registers r)
    → new.ranges.items ≡ old.ranges.items ++ record { address = start; place = length old.bytes.items; len = length bytes; line = line } ∷ [] → new.bytes.items ≡ old.bytes.items ++ bytes
    → Keeps limit new (ss ++ memory_is start bytes ∷ [])
keeps_memory {old = old} new start bytes k number fits some pc registers ranges all =
    keeps_more new (memory_is start bytes) k (pc ∙ sym (or_else_none old.pc)) (λ r. registers r ∙ sym (or_else_none (held old.registers r)))
    (ranges ∙ ap (λ (n : ℕ). old.ranges.items ++ record { address = start; place = length old.bytes.items; len = length bytes; line = n } ∷ []) number) all (fits, some) (λ e. absurd cc) (λ r e. absurd cc)

pub told_own : (q v : ℕ) → is_some (told (register_is q v) (register q)) ≡ true
told_own q v = elim (eqb_tells q q) [
  | inl same ↦ rw (same.0) refl
  | inr other ↦ absurd (other.1 refl)
]
