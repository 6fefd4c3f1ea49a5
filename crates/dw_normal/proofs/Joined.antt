-- Entries that are built, and bytes that are put behind others.
use Rattle.dw_normal.proofs.Words.{◌≡◌, ℕ, ◌+◌, ◌<◌, Bool, true, false, List, [], ◌++◌, length, Result, Ok, Err, refl, sym, ap, ◌∙◌, subst, arith, append_assoc, OnOk, IsTrue, is_ok, IsErrAnd, length-append, length-fixed, fixed_bytes}
use Rattle.dw_normal.proofs.Words.{Appends-nil, Appends-trans, Output, Stop, Full, Failed, Memory, Holds, Fills, Place, Puts, Sends, Takes, Order, Option, Target, Written, contents, entry_bytes, unsized, sink_at}

-- ---- an entry

-- how long it is by now
pub held_long : {out : Output} {bytes : List ℕ} → Holds out bytes → length bytes ≡ out.gone + length out.bytes.items
held_long {out = out} h = ap length h.whole ∙ length-append h.lost out.bytes.items ∙ omega (arith, h.gone)

-- all of it is there, where none is forgotten
pub held_kept : {out : Output} {bytes : List ℕ} → Holds out bytes → out.counts ≡ false → out.bytes.items ≡ bytes
held_kept {out = out} h is = ap (λ (l : List ℕ). l ++ out.bytes.items) (sym (h.kept is)) ∙ sym h.whole

-- with its length it is as long
pub sized_long : (order : Order) (n : ℕ) (contents : List ℕ) → length (fixed_bytes order 4 n ++ contents) ≡ length (fixed_bytes order 4 0 ++ contents)
sized_long order n contents =
    omega (arith, length-append (fixed_bytes order 4 n) contents, length-append (fixed_bytes order 4 0) contents, length-fixed order 4 n, length-fixed order 4 0)

-- ---- bytes that go out

-- there is no room for them
pub full_puts : (counts : Bool) (bytes : List ℕ) (r : Result Unit Stop) (e : Stop) (old new : Place) → IsErrAnd r (λ (x : Stop). x ≡ e) → e ≡ Full → old.room < length bytes → Puts counts bytes r old new
full_puts counts bytes (Ok x) e old new is full h = absurd is
full_puts counts bytes (Err x) e old new is full h = subst (λ (y : Stop). Puts counts bytes (Err y) old new) (sym (is ∙ full)) h

-- none did
pub none_sent : (counts : Bool) (at : Place) → Sends counts [] at at
none_sent counts at = (refl, omega arith, λ is. Appends-nil at.told)

-- an entry that could not be built was not put
pub fill_puts : {S : Type 0} (failures : S → ℕ) (taken : S → Option (List ℕ)) (sink : S) (counts : Bool) (t : Target) (w : Written) (e : Stop) (old out : Output) → out.room ≡ old.room → Fills (unsized t w) (Err e) old out
    → Puts counts (entry_bytes t w) (Err e) (sink_at failures taken old.room sink) (sink_at failures taken out.room sink)
fill_puts failures taken sink counts t w Full old out same h = omega (arith, h, sized_long t.order (length (contents t w)) (contents t w))
fill_puts failures taken sink counts t w Failed old out same h = absurd h
fill_puts failures taken sink counts t w Memory old out same h = (refl, record { front = []; rest = entry_bytes t w; whole = refl; room = omega (arith, same); took = λ _. Appends-nil (taken sink) })

-- what is put behind what changed nothing
pub puts_from : {S : Type 0} (failures : S → ℕ) (taken : S → Option (List ℕ)) (sink : S) (bytes : List ℕ) (r : Result Unit Stop) (new : Place) (c d : Bool) (a b : ℕ) → c ≡ d → a ≡ b
    → Puts c bytes r (sink_at failures taken a sink) new → Puts d bytes r (sink_at failures taken b sink) new
puts_from failures taken sink bytes r new c d a b same room h =
    subst (λ (n : ℕ). Puts d bytes r (sink_at failures taken n sink) new) room (subst (λ (x : Bool). Puts x bytes r (sink_at failures taken a sink) new) same h)

module _ (counts : Bool) (xs ys : List ℕ) (old mid new : Place) where
  takes_more : Takes counts xs old new → Takes counts (xs ++ ys) old new
  takes_more h = record { front = h.front; rest = h.rest ++ ys; whole = ap (λ (l : List ℕ). l ++ ys) h.whole ∙ append_assoc h.front h.rest ys; room = h.room; took = h.took }

  -- what stops among bytes stops among more of them
  pub put_begins : (e : Stop) → Puts counts xs (Err e) old new → Puts counts (xs ++ ys) (Err e) old new
  put_begins Full h = omega (arith, h, length-append xs ys)
  put_begins Failed h = (h.0, h.1, takes_more h.2)
  put_begins Memory h = (h.0, takes_more h.1)

  module _ (before : Sends counts xs old mid) where
    takes_behind : Takes counts ys mid new → Takes counts (xs ++ ys) old new
    takes_behind h = record {
      front = xs ++ h.front;
      rest = h.rest;
      whole = ap (λ (l : List ℕ). xs ++ l) h.whole ∙ sym (append_assoc xs h.front h.rest);
      room = omega (arith, before.1, h.room, length-append xs h.front);
      took = λ is. Appends-trans old.told mid.told new.told xs h.front (before.2 is) (h.took is);
    }

    pub sends_both : Sends counts ys mid new → Sends counts (xs ++ ys) old new
    sends_both p = (p.0 ∙ before.0, omega (arith, before.1, p.1, length-append xs ys), λ is. Appends-trans old.told mid.told new.told xs ys (before.2 is) (p.2 is))

    -- bytes behind others that were all taken
    pub puts_both : (r : Result Unit Stop) → Puts counts ys r mid new → Puts counts (xs ++ ys) r old new
    puts_both (Ok x) p = sends_both p
    puts_both (Err Full) p = omega (arith, before.1, p, length-append xs ys)
    puts_both (Err Failed) p = (p.0, omega (arith, before.0, p.1), takes_behind p.2)
    puts_both (Err Memory) p = (p.0 ∙ before.0, takes_behind p.1)

-- what stops a step stops the whole, where `?` hands it on
pub ends_there : (counts : Bool) (done one rest all : List ℕ) → all ≡ done ++ (one ++ rest) → (r : Result Unit Stop) (e : Stop) (old mid new : Place) → IsErrAnd r (λ (x : Stop). x ≡ e) → Sends counts done old mid
    → Puts counts one (Err e) mid new → Puts counts all r old new
ends_there counts done one rest all whole (Ok x) e old mid new is before now = absurd is
ends_there counts done one rest all whole (Err x) e old mid new is before now =
    let here = puts_both counts done (one ++ rest) old mid new before (Err e) (put_begins counts one rest mid mid new e now) in
    subst (λ (y : Stop). Puts counts all (Err y) old new) (sym is) (subst (λ (l : List ℕ). Puts counts l (Err e) old new) (sym whole) here)

-- ---- what holds of an answer

pub untrue : {P : Type 0} (b : Bool) → b ≡ false → IsTrue b → P
untrue b e is = absurd cc

pub ok_of : {A E : Type 0} (r : Result A E) (P : Type 0) → OnOk r P → is_ok r ≡ true → P
ok_of (Ok x) P h e = h
ok_of (Err x) P h e = absurd cc
