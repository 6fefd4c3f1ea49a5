-- Rows of many addresses, and their rules one after another over a buffer.
use Rattle.dw_library.proofs.Words.{◌≡◌, ℕ, suc, ◌+◌, ◌-◌, ◌^◌, ◌<◌, ◌≤◌, List, [], ◌∷◌, ◌++◌, length, take, drop, map, min, get_or, slice_set, refl, sym, ap, subst, ◌∙◌, arith, inl, inr, leb_tells, AllZip, append_snoc, drop-cons}
use Rattle.dw_library.proofs.Words.{set-append_seam, take-length, take-suc, append-nil, drop_all, flat_map_more, length-append, length-drop, length-map, length-take-le, map_push, take_all, mid_of, post_of, put_mid, Target}
use Rattle.dw_library.proofs.Words.{Rule, over, IsLook, Look, rules_in}
use Rattle.std.proofs.lemmas.Slice.Zip.{AllZip-long}
use Rattle.dw_library.specs.declared.index.Row.{Row}

pub over_length : {X : Type 0} (items old : List X) → length (over items old) ≡ length old
over_length [] old = refl
over_length (item ∷ items) [] = refl
over_length (item ∷ items) (x ∷ old) = ap suc (over_length items old)

over_empty : {X : Type 0} (items : List X) → over items [] ≡ []
over_empty [] = refl
over_empty (item ∷ items) = refl

-- more rules behind some that fit, and behind some that do not
over_fits : (before own old : List Rule) → length before ≤ length old → take (length before) (over before old) ++ over own (drop (length before) (over before old)) ≡ over (before ++ own) old
over_fits [] own old le = refl
over_fits (rule ∷ before) own [] le = absurd (omega arith)
over_fits (rule ∷ before) own (x ∷ old) le = ap (λ (l : List Rule). rule ∷ l) (over_fits before own old (omega arith))

pub over_full : {X : Type 0} (before own old : List X) → length old ≤ length before → over before old ≡ over (before ++ own) old
over_full [] own [] le = sym (over_empty own)
over_full [] own (x ∷ old) le = absurd (omega arith)
over_full (item ∷ before) own [] le = refl
over_full (item ∷ before) own (x ∷ old) le = ap (λ l. item ∷ l) (over_full before own old (omega arith))

-- what is left of a buffer from a place on
rest_of : {X : Type 0} (place : ℕ) (now : List X) → place ≤ length now → mid_of place (length now - place) now ≡ drop place now
rest_of place now le = take_all (length now - place) (drop place now) (omega (arith, length-drop place now))

-- rules written to what is left of a buffer
over_left : (before own buffer now : List Rule) (place : ℕ) → place ≡ min (length before) (length now) → now ≡ over before buffer → take place now ++ over own (drop place now) ≡ over (before ++ own) buffer
over_left before own buffer now place at is =
    let long : length now ≡ length buffer = ap (λ (l : List Rule). length l) is ∙ over_length before buffer in
    elim (leb_tells (length before) (length buffer)) [
      | inl le ↦ let fits : place ≡ length before = omega (arith, at, long, le.1) in rw (fits, is) (over_fits before own buffer le.1)
      | inr lt ↦
          let full : place ≡ length now = omega (arith, at, long, lt.1) in
          rw (full, take-length now, drop_all (length now) now (omega arith), over_empty own, append-nil now) (is ∙ over_full before own buffer (omega (arith, lt.1)))
    ]

pub written_left : (before own buffer now part : List Rule) (place : ℕ) → place ≡ min (length before) (length now) → now ≡ over before buffer
    → part ≡ over own (mid_of place (length now - place) now) → put_mid place (length now - place) now part ≡ over (before ++ own) buffer
written_left before own buffer now part place at is same =
    let none : post_of place (length now - place) now ≡ [] = drop_all (length now - place) (drop place now) (omega (arith, length-drop place now)) in
    rw (none, append-nil part, same, rest_of place now (omega (arith, at))) (over_left before own buffer now place at is)

-- one more item behind those that were put in a buffer
pub put_next : {X : Type 0} (done old : List X) (x : X) → length done < length old → slice_set (done ++ drop (length done) old) (length done) x ≡ (done ++ x ∷ []) ++ drop (length done + 1) old
put_next {X} done old x lt =
    let next : suc (length done) ≡ length done + 1 = omega arith in
    ap (λ (l : List X). slice_set (done ++ l) (length done) x) (drop-cons old (length done) x lt)
    ∙ set-append_seam done (get_or old (length done) x) (drop (suc (length done)) old) x ∙ sym (append_snoc done x (drop (suc (length done)) old))
    ∙ ap (λ (k : ℕ). (done ++ x ∷ []) ++ drop k old) next

zip_more : {X Y : Type 0} (R : X → Y → Type 0) (xs : List X) (ys : List Y) (x : X) (y : Y) → AllZip R xs ys → R x y → AllZip R (xs ++ x ∷ []) (ys ++ y ∷ [])
zip_more R [] [] x y all r = (r, tt)
zip_more R [] (b ∷ ys) x y all r = absurd all
zip_more R (a ∷ xs) [] x y all r = absurd all
zip_more R (a ∷ xs) (b ∷ ys) x y all r = (all.0, zip_more R xs ys x y all.1 r)

-- what a call wrote so far, of the first n addresses
pub record Wrote (target : Target) (s asked : List ℕ) (rows : List Row) (rules : List Rule) (n : ℕ) (rows_now : List Row) (rules_now : List Rule) (total : ℕ) : Type 0 where
  pub looks : List Look
  pub each : AllZip (IsLook target s) (take n asked) looks
  pub rows_are : rows_now ≡ map (λ l. l.row) looks ++ drop n rows
  pub rules_are : rules_now ≡ over (rules_in looks) rules
  pub counted : total ≡ min (length (rules_in looks)) (2 ^ 128 - 1)

module _ {target : Target} {s asked : List ℕ} {rows rows_now : List Row} {rules rules_now : List Rule} {n total : ℕ} (w : Wrote target s asked rows rules n rows_now rules_now total) where
  pub wrote_more : (l : Look) {row_new : Row} {rules_new : List Rule} {count more : ℕ} → n < length asked → n < length rows → IsLook target s (get_or asked n 0) l
      → row_new ≡ l.row → rules_new ≡ over (rules_in w.looks ++ l.rules) rules → count ≡ length l.rules → more ≡ min (total + count) (2 ^ 128 - 1)
      → Wrote target s asked rows rules (n + 1) (slice_set rows_now n row_new) rules_new more
  wrote_more l lt fits is row_is rules_are long_as grown =
      let next : suc n ≡ n + 1 = omega arith in
      let before = map (λ (k : Look). k.row) w.looks in
      let long : length before ≡ n = length-map w.looks (λ (k : Look). k.row) ∙ AllZip-long (IsLook target s) (take n asked) w.looks w.each ∙ length-take-le n asked (omega arith) in
      let first : take (n + 1) asked ≡ take n asked ++ get_or asked n 0 ∷ [] = ap (λ (k : ℕ). take k asked) (sym next) ∙ take-suc asked n 0 lt in
      let all : rules_in w.looks ++ l.rules ≡ rules_in (w.looks ++ l ∷ []) = flat_map_more (λ (k : Look). k.rules) [] w.looks l in
      let set : slice_set rows_now n l.row ≡ (before ++ l.row ∷ []) ++ drop (n + 1) rows =
      ap (λ (k : List Row). slice_set k n l.row) w.rows_are
      ∙ subst (λ (k : ℕ). slice_set (before ++ drop k rows) k l.row ≡ (before ++ l.row ∷ []) ++ drop (k + 1) rows) long (put_next before rows l.row (omega (arith, long, fits))) in
      record {
        looks = w.looks ++ l ∷ [];
        each = subst (λ (k : List ℕ). AllZip (IsLook target s) k (w.looks ++ l ∷ [])) (sym first) (zip_more (IsLook target s) (take n asked) w.looks (get_or asked n 0) l w.each is);
        rows_are = ap (λ (k : Row). slice_set rows_now n k) row_is ∙ set ∙ ap (λ (k : List Row). k ++ drop (n + 1) rows) (sym (map_push (λ (k : Look). k.row) w.looks l));
        rules_are = rules_are ∙ ap (λ (k : List Rule). over k rules) all;
        counted = omega (arith, grown, w.counted, long_as, length-append (rules_in w.looks) l.rules, ap (λ (k : List Rule). length k) all);
      }
