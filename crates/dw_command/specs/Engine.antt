-- What the command does to its output, by what the output holds.
use Rattle.std.specs.Prelude.{◌≡◌, ℕ, List, Option, Result}
use Rattle.clap.specs.Words.{Text}
use Rattle.dw_files.specs.declared.files.LoadError.{LoadError}
use Rattle.dw_show.specs.{Output.Output, declared.failure.Failure.Failure}
use Rattle.dw_command.specs.Answers.{Ends, exit_of}

-- an output that holds all that was put, and failed so often
abbrev pub holding : Option (List ℕ) → ℕ → Output
holding held failures = record { put = held; left = 0; failures = failures }

-- this is the exit status of an answer to these words, and what the output holds before and behind the run is what that answer says; the
-- output does not tell how often it failed
abbrev pub Runs : (Text → Result (List ℕ) LoadError → Type 0) → Option (List ℕ) → Option (List ℕ) → List Text → ℕ → Type 0
Runs gives before behind words status =
    (answer : Result ℕ Failure) × (failures : ℕ) × Ends gives (holding before 0) (holding behind failures) words answer × (status ≡ exit_of answer)
