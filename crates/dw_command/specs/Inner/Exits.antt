-- What the code says of a run before its output is given back.
use Rattle.std.specs.Prelude.{◌≡◌, ℕ, List, Result}
use Rattle.clap.specs.Words.{Text}
use Rattle.dw_files.specs.declared.files.LoadError.{LoadError}
use Rattle.dw_show.specs.{Output.Output, declared.failure.Failure.Failure}
use Rattle.dw_command.specs.Answers.{Ends, exit_of}

-- this is the exit status of an answer to these words
abbrev pub Exits : (Text → Result (List ℕ) LoadError → Type 0) → Output → Output → List Text → ℕ → Type 0
Exits gives old new words status = (answer : Result ℕ Failure) × Ends gives old new words answer × (status ≡ exit_of answer)
