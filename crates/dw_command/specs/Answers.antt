-- What a run answers and prints, over the whole command: normal forms, and which subcommand the words ask for.
use Rattle.std.specs.{Prelude.{◌≡◌, ℕ, ◌≤◌, List, Bool, if◌then◌else◌, length, Result, Ok, Err}, Bool.Decides}
use Rattle.clap.specs.Words.{Text}
use Rattle.dw_num.specs.{Refusals.Refuses, declared.target.Target.Target}
use Rattle.dw_section.specs.{Accepted.{Accepted, CheckFault}, Meaning.RowStarts, Meanings.SameMeaning}
use Rattle.dw_canon.specs.Normal.{IsNormalForm}
use Rattle.dw_normal.specs.Answers.{FitsCap, NormalFault, SameFault}
use Rattle.dw_words.specs.Plan.{Planned}
use Rattle.dw_words.specs.declared.request.{Request.Request, Task.Task}
use Rattle.dw_words.specs.declared.request.Request.TheVariants as requests
use Rattle.dw_words.specs.declared.request.Task.TheVariants as tasks
use Rattle.dw_files.specs.declared.files.LoadError.{LoadError}
use Rattle.dw_show.specs.{Failure.{of_read, of_plan, status_of}, Output.Output, RowTexts.member_text, Texts.{counts_text, entry_text, lines, sameness_text}, declared.failure.Failure.Failure}
use Rattle.dw_show.specs.Answers.{AndThen, AtEnds, Before, Calls, ChangeCount, Cost, Cuts, EvalEnds, ListsFdes, Loads, OverBlock, OverFile, Prints, PrintsText, Tallies, UnwindEnds, costs_text}
use Rattle.dw_command.specs.Failure.{OfSame}

-- ---- normal forms

-- the normal form of a section, of at most so many bytes
abbrev pub Normalises : Target → ℕ → List ℕ → Result (List ℕ) Failure → Type 0
Normalises target cap s r = Calls (λ n. IsNormalForm target s n × (length n ≤ cap)) (Refuses (NormalFault target cap s)) (λ e f. f ≡ of_read e) r

-- a section with this normal form is checked, and its rows and changes are counted
abbrev pub CostsBehind : Target → List ℕ → List ℕ → Result Cost Failure → Type 0
CostsBehind target s n r =
    Calls (λ (cost : Cost). Accepted target s × (cost.normal ≡ length n) × RowStarts target s cost.starts × ChangeCount target s cost.changes)
    (Refuses (CheckFault target s)) (λ e f. f ≡ of_read e) r

-- that of a section with a normal form of at most 2,147,483,647 bytes
abbrev pub Costs : Target → List ℕ → Result Cost Failure → Type 0
Costs target s r = AndThen (Normalises target 2147483647 s) (CostsBehind target s) r

-- two sections with normal forms of at most 2,147,483,647 bytes are compared
abbrev pub Compares : Target → List ℕ → List ℕ → Result Bool Failure → Type 0
Compares target s t r =
    Calls (λ b. FitsCap target 2147483647 s × FitsCap target 2147483647 t × Decides b (SameMeaning target s t))
    (SameFault target 2147483647 s t) OfSame r

-- ---- the subcommands

module _ (gives : Text → Result (List ℕ) LoadError → Type 0) (old new : Output) where
  -- 0 where both say the same, 1 where not
  abbrev pub SameEnds : Target → Text → Text → Result ℕ Failure → Type 0
  SameEnds target path other r =
      Before old new (Loads gives path) (λ s. Before old new (Loads gives other) (λ t. Before old new (Compares target s t) (λ b. Prints old new (sameness_text b) (if b then 0 else 1)))) r

  -- status 0 comes after an answer
  abbrev pub Done : (Result (Unit {0}) Failure → Type 0) → Result ℕ Failure → Type 0
  Done Ends r = AndThen Ends (λ _ status. status ≡ Ok 0) r

  -- the exit status of a subcommand, or why it has no answer
  abbrev pub TaskEnds : Target → Task → Result ℕ Failure → Type 0
  TaskEnds target (tasks.At l) r = Done (AtEnds gives old new target l) r
  TaskEnds target (tasks.Check path) r = Done (OverFile gives old new path.now (Tallies target) (λ s counts. Prints old new (counts_text counts (length s)) tt)) r
  TaskEnds target (tasks.Cost path) r = Done (OverFile gives old new path.now (Costs target) (λ s cost. Prints old new (costs_text (length s) cost) tt)) r
  TaskEnds target (tasks.Entries path) r = Done (OverFile gives old new path.now (Cuts target) (λ _ es. Prints old new (lines entry_text es) tt)) r
  TaskEnds target (tasks.Eval e) r = Done (EvalEnds gives old new target e) r
  TaskEnds target (tasks.Expr profile block) r = Done (OverBlock old new target profile block.items) r
  TaskEnds target (tasks.Normal w) r = Done (OverFile gives old new w.path.now (Normalises target w.cap) (λ _ n. Prints old new n tt)) r
  TaskEnds target (tasks.Rows path) r = Done (OverFile gives old new path.now (ListsFdes target) (λ _ ms. Prints old new (lines member_text ms) tt)) r
  TaskEnds target (tasks.Same path other) r = SameEnds target path.now other.now r
  TaskEnds target (tasks.Unwind u) r = Done (UnwindEnds gives old new target u) r

-- ---- the command

-- words are planned
abbrev pub Plans : List Text → Result Request Failure → Type 0
Plans words r = Calls (λ request. Planned words (Ok request)) (λ e. Planned words (Err e)) (λ e f. f ≡ of_plan e) r

module _ (gives : Text → Result (List ℕ) LoadError → Type 0) (old new : Output) where
  -- a text that is asked for is printed, a subcommand is run
  abbrev pub Follows : Request → Result ℕ Failure → Type 0
  Follows (requests.Run job) r = TaskEnds gives old new job.target job.task r
  Follows (requests.Help text) r = PrintsText old new 0 r

  -- what a run of these words answers and prints
  abbrev pub Ends : List Text → Result ℕ Failure → Type 0
  Ends words r = Before old new (Plans words) Follows r

-- the exit status of an answer
abbrev pub exit_of : Result ℕ Failure → ℕ
exit_of (Ok status) = status
exit_of (Err failure) = status_of failure
