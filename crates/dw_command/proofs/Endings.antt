-- Runs that end: what a call over normal forms becomes, and the exit status.
use Rattle.std.specs.{Prelude.{IfErr, IsErrAnd, MatchResult}, Bool.Decides, Result.result_map_both}
use Rattle.dw_num.specs.declared.error.ReadError.TheVariants as read_error
use Rattle.dw_section.specs.{Accepted.Accepted, Meanings.SameMeaning}
use Rattle.dw_canon.specs.Normal.{IsNormalForm}
use Rattle.dw_normal.specs.declared.error.{SameError.SameError, WriteError.WriteError}
use Rattle.dw_normal.specs.declared.error.WriteError.TheVariants as write_error
use Rattle.dw_normal.specs.Answers.{FitsCap, SameFault, Writes}
use Rattle.dw_show.specs.declared.failure.Failure.TheVariants as failures
use Rattle.dw_command.specs.{Failure.OfSame, Inner.Failure.of_write}
use Rattle.dw_command.proofs.Words.{◌≡◌, ◌≤◌, ℕ, Bool, IfOk, List, length, Result, Ok, Err, refl, inl, inr, Appends, Target, Failure, Before, Compares, Normalises, Prints, AndThen, Output}

-- a normal form that is not written whole
pub unwritten : (target : Target) (most : ℕ) (s : List ℕ) (e : WriteError) (old new : Output)
    → Writes target most s (Err e) old.failures new.failures old.put new.put → Before old new (Normalises target most s) (λ n. Prints {A = Unit {0}} old new n tt) (Err (of_write e))
unwritten target most s (write_error.Refused r) old new h = inr (failures.Refused r, (read_error.Refused r, h.1, refl), refl, h.2)
unwritten target most s (write_error.Write written) old new h = inl (h.1.normal, (h.1.is, h.1.within), h.0)
unwritten target most s (write_error.Memory written) old new (same, inl none) = inr (failures.OutOfMemory, (read_error.OutOfMemory, tt, refl), refl, none.1)
unwritten target most s (write_error.Memory written) old new (same, inr out) = inl (out.normal, (out.is, out.within), tt)

module _ (target : Target) (most : ℕ) (s : List ℕ) (old new : Output) where
  -- an error of the call that writes became a failure
  pub not_written : (r : Result ℕ WriteError) (f : Failure) → MatchResult r (λ (count : ℕ). ◌≡◌ {A = Result ℕ Failure} (Err f) (Ok count)) (λ e. f ≡ of_write e)
      → Writes target most s r old.failures new.failures old.put new.put → Before old new (Normalises target most s) (λ n. Prints {A = Unit {0}} old new n tt) (Err f)
  not_written (Ok count) f is h = absurd cc
  not_written (Err e) f is h = rw is (unwritten target most s e old new h)

  -- it wrote the normal form
  pub written : (r : Result ℕ WriteError) (count : ℕ) → MatchResult r (λ (k : ℕ). ◌≡◌ {A = Result ℕ Failure} (Ok count) (Ok k)) (λ e. ⊥)
      → Writes target most s r old.failures new.failures old.put new.put → (n : List ℕ) × IsNormalForm target s n × (length n ≤ most) × Appends old.put new.put n
  written (Ok k) count is h = (h.1.0, h.1.1, h.1.2, h.1.4)
  written (Err e) count is h = absurd is

-- two sections are compared, and an error becomes a failure
pub compared : (target : Target) (s t : List ℕ) (r : Result Bool SameError) (q : Result Bool Failure) → MatchResult r (λ b. q ≡ Ok b) (λ e. IsErrAnd q (OfSame e))
    → IfOk r (λ b. Accepted target s × Accepted target t × Decides b (SameMeaning target s t)) → IfOk r (λ b. FitsCap target 2147483647 s × FitsCap target 2147483647 t)
    → IfErr r (SameFault target 2147483647 s t) → Compares target s t q
compared target s t (Ok b) q is found fit refused = rw is (fit.0, fit.1, found.2)
compared target s t (Err e) (Ok b) is found fit refused = absurd is
compared target s t (Err e) (Err f) is found fit refused = (e, refused, is)

-- status 0 where there is an answer
pub done : (Ends : Result (Unit {0}) Failure → Type 0) (answer : Result (Unit {0}) Failure) (r : Result ℕ Failure)
    → r ≡ result_map_both (λ _. 0) (λ e. e) answer → Ends answer → AndThen Ends (λ (_ : Unit {0}) status. status ≡ Ok 0) r
done Ends (Ok answer) r is h = inl (answer, h, is)
done Ends (Err e) r is h = inr (e, h, is)
