-- A listing as an output, and what its calls say of that.
use Rattle.std.specs.{Prelude.{◌≡◌, ℕ, Bool, false, if◌then◌else◌, List, Option, take, Result, Ok, Err}, Io.KnownBytes.{Appends, Keeps, append_known}}
use Rattle.clap.specs.Words.{Text}
use Rattle.dw_files.specs.declared.files.LoadError.{LoadError}
use Rattle.dw_show.specs.{Answers.{OverFile, Prints, Unprinted}, Output.Output}
use Rattle.dw_show.specs.declared.{failure.Failure.Failure, listing.Listing.Listing}

-- what was put so far, where it is known: what the output holds, and behind it what is left in the room
abbrev pub put_so_far : Option (List ℕ) → ℕ → List ℕ → Option (List ℕ)
put_so_far held len room = append_known held (take len room)

-- what was put to a listing
abbrev pub put_in : {W : Type 0} → (W → Option (List ℕ)) → Listing W → Option (List ℕ)
put_in contents l = put_so_far (contents l.out) l.len l.room

-- how often an output failed, by whether it did; one that failed is written to no more, so its count is at its end
abbrev pub failures_of : Bool → ℕ
failures_of failed = if failed then 18446744073709551615 else 0

-- a listing as an output, by what its writer holds
abbrev pub output_of : {W : Type 0} → (W → Option (List ℕ)) → Listing W → Output
output_of contents l = record { put = put_in contents l; left = l.len; failures = failures_of l.failed }

-- an answer is not printed to this listing: its output failed, or memory ran out
abbrev pub Breaks : {W : Type 0} → Listing W → Failure → Type 0
Breaks l failure = Unprinted 0 (failures_of l.failed) failure

-- unless the output failed by now, it had not failed before, and a text is put behind what was put then
pub record Adds {W : Type 0} (contents : W → Option (List ℕ)) (old new : Listing W) (text : List ℕ) : Type 0 where
  pub works : new.failed ≡ false → old.failed ≡ false
  pub put : new.failed ≡ false → Appends (put_in contents old) (put_in contents new) text

-- and what was put stays
pub record Stays {W : Type 0} (contents : W → Option (List ℕ)) (old new : Listing W) : Type 0 where
  pub works : new.failed ≡ false → old.failed ≡ false
  pub put : new.failed ≡ false → Keeps (put_in contents old) (put_in contents new)

-- what was put is written out, and the output works, or an answer is not printed
abbrev pub Finishes : {A W : Type 0} → (W → Option (List ℕ)) → Listing W → Listing W → Result A Failure → Type 0
Finishes contents old new (Ok a) = (new.failed ≡ false) × (new.len ≡ 0) × Stays contents old new
Finishes contents old new (Err failure) = Breaks new failure

-- a file is read and judged, and the text of what is found is printed to a listing
abbrev pub TellsOfFile : {A W : Type 0} → (Text → Result (List ℕ) LoadError → Type 0) → (W → Option (List ℕ)) → Listing W → Listing W
    → Text → (List ℕ → Result A Failure → Type 0) → (List ℕ → A → List ℕ) → Result (Unit {0}) Failure → Type 0
TellsOfFile gives contents old new path Judges text r =
    OverFile gives (output_of contents old) (output_of contents new) path Judges (λ s a. Prints (output_of contents old) (output_of contents new) (text s a) tt) r
