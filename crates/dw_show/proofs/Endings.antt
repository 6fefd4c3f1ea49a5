-- Runs that end: a dump of later files, the counts of a section, and memory that may lack.
use Rattle.dw_show.proofs.Words.{◌≡◌, ◌⊎◌, ℕ, List, Option, Some, None, Result, Ok, Err, inl, inr, subst, Text, Target, Section, Accepted, LoadError, Failure, HasCounts, LoadsDump, LoadsText}
use Rattle.dw_section.specs.{Counts.AreCounts, Cut.Piece, Pieces.Pieces, declared.entry.EntryCounts.EntryCounts}

-- what later files give, the earlier ones may give
module _ (old new : Text → Result (List ℕ) LoadError → Type 0) (same : (p : Text) (r : Result (List ℕ) LoadError) → new p r → old p r) where
  pub dump_before : (path : Text) (r : Result (List ℕ) Failure) → LoadsDump new path r → LoadsDump old path r
  dump_before path (Ok bytes) h = (same path (Ok bytes) h.0, h.1)
  dump_before path (Err e) (error, inl given, becomes) = (error, inl (same path (Err error) given), becomes)
  dump_before path (Err e) (error, inr (bytes, given, long, is), becomes) = (error, inr (bytes, same path (Ok bytes) given, long, is), becomes)

  text_before : (path : Option Text) (r : Result (List ℕ) Failure) → LoadsText new path r → LoadsText old path r
  text_before None r h = h
  text_before (Some path) r h = dump_before path r h

  pub text_at : (from to : Option Text) (r : Result (List ℕ) Failure) → from ≡ to → LoadsText new from r → LoadsText old to r
  text_at from to r is h = text_before to r (subst (λ (path : Option Text). LoadsText new path r) is h)

-- the entries of a section that was checked are counted
pub counted : (target : Target) (s : List ℕ) (table : Section) (counts : EntryCounts) → table ≡ record { target = target; bytes = s }
    → ((ps : List Piece) → Pieces table.target table.bytes ps → AreCounts ps counts) → Accepted target s → HasCounts target s counts
counted target s table counts is each accepted =
    let headers = accepted.1.1.0.0.0 in
    let all = subst (λ (t : Section). (ps : List Piece) → Pieces t.target t.bytes ps → AreCounts ps counts) is each in
    (headers.entries, headers.cut, all headers.entries headers.cut)

-- ---- what may lack memory

pub lacking : {A E : Type 0} (e none : E) (Is : Type 0) → (◌≡◌ {A = Result A E} (Err e) (Err none)) ⊎ Is → (e ≡ none) ⊎ Is
lacking e none Is (inl h) = inl cc
lacking e none Is (inr h) = inr h

pub answered : {A E : Type 0} (a : A) (none : E) (Is : Type 0) → (◌≡◌ {A = Result A E} (Ok a) (Err none)) ⊎ Is → Is
answered a none Is (inl h) = absurd cc
answered a none Is (inr h) = h
