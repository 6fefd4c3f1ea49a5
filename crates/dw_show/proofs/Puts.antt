-- What was put so far, while the output gets what is left and texts are put behind.
use Rattle.dw_show.proofs.Words.{◌≡◌, ◌∙◌, ℕ, ◌+◌, ◌-◌, ◌≤◌, List, [], ◌++◌, length, take, drop, sym, ap, arith, subst, Option, Some, None, Result, Ok, Err, min, Appends, Keeps, append_known, false, append_assoc, length-take-le}
use Rattle.dw_show.proofs.{Words.{length-drop, drop-take, take_min, take-append-drop, take-append_seam, put_so_far, output_of, Adds, Fills, Finishes, Stays, Appends-kept, Appends-nil, Failure, PrintsOf}, Lent.Endings.printed}
use Rattle.dw_show.specs.declared.listing.Listing.{Listing}
use lib.Seq.{paste}

-- no more than all
pub whole : (len most : ℕ) (room : List ℕ) → length room ≡ most → take (min len most) room ≡ take len room
whole len most room is = ap (λ (k : ℕ). take (min len k) room) (sym is) ∙ take_min len room

-- what is left is moved to the front
moved_front : (done k : ℕ) (room : List ℕ) → done + k ≤ length room → take k (paste room 0 (drop done room) k) ≡ take k (drop done room)
moved_front done k room fits =
    let long = length-drop done room in
    let short : length (take k (drop done room)) ≡ k = length-take-le k (drop done room) (omega (arith, long, fits)) in
    let behind = drop (0 + k) room in
    ap (λ (n : ℕ). take n (take k (drop done room) ++ behind)) (sym short) ∙ take-append_seam (take k (drop done room)) behind

-- what was left is what the output took, and what is left behind it
pub parted : (len m done : ℕ) (room : List ℕ) → take m room ≡ take len room → done ≤ m → m ≤ length room
    → take len room ≡ take done (take m room) ++ take (m - done) (paste room 0 (drop done room) (m - done))
parted len m done room is most fits =
    let k = m - done in
    let e : done + k ≡ m = omega (arith, most) in
    let rest : drop done (take m room) ≡ take k (drop done room) = ap (λ (n : ℕ). drop done (take n room)) (sym e) ∙ drop-take done k room in
    sym is ∙ sym (take-append-drop done (take m room)) ∙ ap (λ (l : List ℕ). take done (take m room) ++ l) (rest ∙ sym (moved_front done k room (omega (arith, e, fits))))

-- ---- one text behind another

-- a text that is put into the room
pub in_room : {W : Type 0} (contents : W → Option (List ℕ)) (old new : Listing W) (text : List ℕ) → Fills old new text → Adds contents old new text
in_room {W} contents old new text h = record {
  works = λ still. sym h.works ∙ still;
  put = λ still. subst (λ (o : W). Appends (put_so_far (contents old.out) old.len old.room) (put_so_far (contents o) new.len new.room) text) (sym h.out) (known (contents old.out));
}
  where
    known : (a : Option (List ℕ)) → Appends (append_known a (take old.len old.room)) (append_known a (take new.len new.room)) text
    known None = tt
    known (Some xs) = ap (λ (l : List ℕ). xs ++ l) h.put ∙ sym (append_assoc xs (take old.len old.room) text)

-- two texts that are put into the room
pub filled : {W : Type 0} (a b c : Listing W) (s t : List ℕ) → Fills a b s → Fills b c t → Fills a c (s ++ t)
filled a b c s t h k = record {
  works = k.works ∙ h.works;
  out = k.out ∙ h.out;
  put = k.put ∙ ap (λ (l : List ℕ). l ++ t) h.put ∙ append_assoc (take a.len a.room) s t;
}

-- a text behind what stays
behind_kept : (a b c : Option (List ℕ)) (text : List ℕ) → Keeps a b → Appends b c text → Appends a c text
behind_kept None b c text p q = tt
behind_kept (Some x) None c text p q = absurd p
behind_kept (Some x) (Some y) None text p q = absurd q
behind_kept (Some x) (Some y) (Some z) text p q = q ∙ ap (λ (l : List ℕ). l ++ text) p

-- nothing is put
pub nothing : {W : Type 0} (contents : W → Option (List ℕ)) (l : Listing W) → Adds contents l l []
nothing contents l = record { works = λ still. still; put = λ _. Appends-nil (put_so_far (contents l.out) l.len l.room) }

module _ {W : Type 0} (contents : W → Option (List ℕ)) (a b c : Listing W) where
  pub kept_on : (t : List ℕ) → Stays contents a b → Adds contents b c t → Adds contents a c t
  kept_on t h k = record { works = λ still. h.works (k.works still); put = λ still. behind_kept _ _ _ t (h.put (k.works still)) (k.put still) }

  pub on_kept : (s : List ℕ) → Adds contents a b s → Stays contents b c → Adds contents a c s
  on_kept s h k = record { works = λ still. h.works (k.works still); put = λ still. Appends-kept _ _ _ s (h.put (k.works still)) (k.put still) }

  -- that of something that is so
  pub printed_of : {A : Type 0} (Is : A → Type 0) (text : A → List ℕ) (found : A) (r : Result (Unit {0}) Failure) → a.failed ≡ false → Is found → Adds contents a b (text found) → Finishes contents b c r
      → PrintsOf (output_of contents a) (output_of contents c) Is text tt r
  printed_of Is text found (Ok done) works is h k = (found, is, printed contents a b c (text found) (Ok done) works h k)
  printed_of Is text found (Err failure) works is h k = rw works k
