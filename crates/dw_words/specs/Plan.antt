-- What the words of a run ask for.
use Rattle.std.specs.Prelude.{◌≡◌, ◌⊎◌, ⊤, List, [], Bool, true, false, Option, Some, None, codes, unwrap_or, option_and_then, option_map, Result, Ok, Err}
use Rattle.std.specs.Option.{option_map_or}
use Rattle.clap.specs.{Words.{IsAmong, Row, Text, all_of, fault_of, first_of, kind_of, subcommand_of}, declared.error.ErrorKind.ErrorKind}
use Rattle.clap.specs.declared.error.ErrorKind.TheVariants as kinds
use Rattle.dw_num.specs.declared.target.Size.{Size}
use Rattle.dw_values.specs.Values.{address, decimal, order_of, size_of}
use Rattle.dw_words.specs.{CommandLine.dwframe, Values.{all_read, block_of, cap_of, default_of, profile_of}}
use Rattle.dw_words.specs.declared.request.{Job.Job, PlanError.PlanError, Request.Request, Task.Task}
use Rattle.dw_words.specs.declared.request.PlanError.TheVariants as errors
use Rattle.dw_words.specs.declared.request.Request.TheVariants as requests
use Rattle.dw_words.specs.declared.request.Task.TheVariants as tasks

-- ---- a subcommand's values

module _ (values : List Row) where
  -- the value of this name is there, and is read so
  abbrev pub Says : {T : Type 0} → Text → (Text → Option T) → T → Type 0
  Says name read v = option_and_then read (first_of name values) ≡ Some v

  -- one that may be left out, which is the same as this
  abbrev pub MaySay : {T : Type 0} → Text → (Text → Option T) → T → T → Type 0
  MaySay name read without v = option_map_or read (first_of name values) (Some without) ≡ Some v

  -- all values of this name, none where the words have none
  abbrev pub texts_of : Text → List Text
  texts_of name = unwrap_or (all_of name values) []

  -- each of them is read so
  abbrev pub SaysAll : {T : Type 0} → Text → (Text → Option T) → List T → Type 0
  SaysAll name read vs = all_read read (texts_of name) ≡ Some vs

  -- the path of this name
  abbrev pub Names : Text → Text → Type 0
  Names name path = first_of name values ≡ Some path

  -- these values of the subcommand of this name are those of a task
  abbrev pub IsTask : Text → Size → Task → Type 0
  IsTask name size (tasks.At l) = (name ≡ codes "at") × Names (codes "FILE") l.path.now × SaysAll (codes "ADDRESS") (address size) l.addresses.items
  IsTask name size (tasks.Check path) = (name ≡ codes "check") × Names (codes "FILE") path.now
  IsTask name size (tasks.Cost path) = (name ≡ codes "cost") × Names (codes "FILE") path.now
  IsTask name size (tasks.Entries path) = (name ≡ codes "entries") × Names (codes "FILE") path.now
  IsTask name size (tasks.Eval e) =
      (name ≡ codes "eval") × MaySay (codes "steps") decimal 10000 e.steps × MaySay (codes "start") (λ text. option_map (λ v. Some v) (address size text)) None e.start
      × Says (codes "HEX") block_of e.block.items × (first_of (codes "DUMP") values ≡ option_map (λ path. path.now) e.dump)
  IsTask name size (tasks.Expr profile block) = (name ≡ codes "expr") × Says (codes "frame") profile_of profile × Says (codes "HEX") block_of block.items
  IsTask name size (tasks.Normal w) = (name ≡ codes "normal") × MaySay (codes "cap") cap_of 2147483647 w.cap × Names (codes "FILE") w.path.now
  IsTask name size (tasks.Rows path) = (name ≡ codes "rows") × Names (codes "FILE") path.now
  IsTask name size (tasks.Same path other) = (name ≡ codes "same") × Names (codes "FILE") path.now × Names (codes "FILE2") other.now
  IsTask name size (tasks.Unwind u) =
      (name ≡ codes "unwind") × Says (codes "default") default_of u.default × MaySay (codes "steps") decimal 10000 u.steps × Names (codes "FILE") u.path.now × Names (codes "DUMP") u.dump.now

  -- they are those of a run
  abbrev pub IsJob : Text → Job → Type 0
  IsJob name job = Says (codes "size") size_of job.target.size × Says (codes "order") order_of job.target.order × IsTask name job.target.size job.task

  -- the value of this name is there, and is not read so
  abbrev pub Misreads : {T : Type 0} → Text → (Text → Option T) → Type 0
  Misreads name read = option_map read (first_of name values) ≡ Some None

  -- what is named is an option or an operand that is there, with a value that is none that it may have; any text is a path
  abbrev pub IsBad : Text → Type 0
  IsBad what =
      (what ≡ codes "--size") × Misreads (codes "size") size_of
      ⊎ (what ≡ codes "--order") × Misreads (codes "order") order_of
      ⊎ (what ≡ codes "--default") × Misreads (codes "default") default_of
      ⊎ (what ≡ codes "--steps") × Misreads (codes "steps") decimal
      ⊎ (what ≡ codes "--start") × ((size : Size) × Says (codes "size") size_of size × Misreads (codes "start") (address size))
      ⊎ (what ≡ codes "--cap") × Misreads (codes "cap") cap_of
      ⊎ (what ≡ codes "HEX") × Misreads (codes "HEX") block_of
      ⊎ (what ≡ codes "ADDRESS") × ((size : Size) × Says (codes "size") size_of size × (all_read (address size) (texts_of (codes "ADDRESS")) ≡ None))

-- ---- plans

-- words ask for this run: clap's definition finds no fault in them, and reads them as a subcommand with its values
abbrev pub AskFor : List Text → Job → Type 0
AskFor words job = (fault_of dwframe words ≡ []) × (name : Text) × (values : List Row) × (subcommand_of dwframe words ≡ Some (name, values)) × IsJob values name job

-- what is named is bad among the values that clap's definition reads in words
abbrev pub HasBad : List Text → Text → Type 0
HasBad words what = (name : Text) × (values : List Row) × (subcommand_of dwframe words ≡ Some (name, values)) × IsBad values what

-- a kind by which clap says that help or the version is asked for
abbrev pub is_help : ErrorKind → Bool
is_help kinds.DisplayHelp = true
is_help kinds.DisplayVersion = true
is_help _ = false

-- what is planned for words: the run that they ask for, and a text of help exactly where clap's kind of fault says so
abbrev pub Planned : List Text → Result Request PlanError → Type 0
Planned words (Ok (requests.Run job)) = AskFor words job
Planned words (Ok (requests.Help error)) = IsAmong (kind_of error) (fault_of dwframe words) × (is_help (kind_of error) ≡ true)
Planned words (Err (errors.Words error)) = IsAmong (kind_of error) (fault_of dwframe words) × (is_help (kind_of error) ≡ false)
Planned words (Err (errors.BadValue what)) = (fault_of dwframe words ≡ []) × HasBad words what.now × ((job : Job) → AskFor words job → ⊥)
Planned words (Err errors.OutOfMemory) = ⊤
