-- Runs that end: a file that is loaded, and a text that is printed.
use Rattle.dw_show.proofs.Words.{◌≡◌, ◌++◌, ℕ, List, Option, Result, Ok, Err, false, refl, Text, LoadError, Failure, Loads, Prints, Appends-kept, Appends-trans, Adds, Finishes, output_of}
use Rattle.dw_show.specs.declared.listing.Listing.{Listing}

-- what later files give, the earlier ones may give
module _ (old new : Text → Result (List ℕ) LoadError → Type 0) (same : (p : Text) (r : Result (List ℕ) LoadError) → new p r → old p r) where
  pub load_before : (path : Text) (r : Result (List ℕ) Failure) → Loads new path r → Loads old path r
  load_before path (Ok bytes) h = same path (Ok bytes) h
  load_before path (Err e) h = (h.0, same path (Err h.0) h.1, h.2)

-- a file's bytes, as they are lent
pub lent : (gives : Text → Result (List ℕ) LoadError → Type 0) (path : Text) (s t : List ℕ) → t ≡ s → Loads gives path (Ok s) → Loads gives path (Ok t)
lent gives path s t is h = rw is h

-- one text is put behind another
pub on : {W : Type 0} (contents : W → Option (List ℕ)) (a b c : Listing W) (s t : List ℕ) → Adds contents a b s → Adds contents b c t → Adds contents a c (s ++ t)
on contents a b c s t h k = record { works = λ still. h.works (k.works still); put = λ still. Appends-trans _ _ _ s t (h.put (k.works still)) (k.put still) }

-- the text of an answer is put, and written out
pub printed : {W : Type 0} (contents : W → Option (List ℕ)) (a b c : Listing W) (text : List ℕ) (r : Result (Unit {0}) Failure) → a.failed ≡ false → Adds contents a b text → Finishes contents b c r
    → Prints (output_of contents a) (output_of contents c) text tt r
printed contents a b c text (Ok done) works h k = (refl, rw (works, k.0) refl, k.1, Appends-kept _ _ _ text (h.put (k.2.works k.0)) (k.2.put k.0))
printed contents a b c text (Err failure) works h k = rw works k
