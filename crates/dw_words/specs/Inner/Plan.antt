-- What the code and its proofs say beside Plan: the values of a subcommand, and whether a run has them.
use Rattle.std.specs.Prelude.{◌≡◌, ◌≢◌, ⊤, ℕ, ◌&&◌, ◌||◌, Bool, true, false, not, List, [], ◌∷◌, Option, Some, None, is_some, codes, slice_get}
use Rattle.std.specs.{Prelude.{option_and_then, option_map, if◌then◌else◌, Result, Ok, Err, MatchResult}, Option.option_map_or, Str.bytes_eq}
use Rattle.clap.specs.{Words.{Row, Text, first_of, kind_of}, declared.error.Error.Error}
use Rattle.clap.specs.declared.error.ErrorKind.TheVariants as kinds
use Rattle.dw_num.specs.declared.target.{Size.Size, Target.Target}
use Rattle.dw_op.specs.declared.profile.Profile.{Profile}
use Rattle.dw_eval.specs.declared.policy.Policy.{Policy}
use Rattle.dw_values.specs.Values.{address, decimal, order_of, size_of}
use Rattle.dw_words.specs.Plan.{IsBad, IsJob, IsTask, Says, is_help, texts_of}
use Rattle.dw_words.specs.Values.{all_read, block_of, cap_of, default_of, profile_of}
use Rattle.dw_words.specs.declared.request.{Job.Job, Name.Name, PlanError.PlanError, Request.Request, Task.Task}
use Rattle.dw_words.specs.declared.request.Name.TheVariants as names
use Rattle.dw_words.specs.declared.request.PlanError.TheVariants as errors
use Rattle.dw_words.specs.declared.request.Request.TheVariants as requests

-- ---- values

-- the name of a subcommand
abbrev pub text_of : Name → Text
text_of names.At = codes "at"
text_of names.Check = codes "check"
text_of names.Cost = codes "cost"
text_of names.Entries = codes "entries"
text_of names.Eval = codes "eval"
text_of names.Expr = codes "expr"
text_of names.Normal = codes "normal"
text_of names.Rows = codes "rows"
text_of names.Same = codes "same"
text_of names.Unwind = codes "unwind"

abbrev pub name_of : Text → Option Name
name_of text =
    if bytes_eq text (codes "at") then Some names.At
    else (if bytes_eq text (codes "check") then Some names.Check
    else (if bytes_eq text (codes "cost") then Some names.Cost
    else (if bytes_eq text (codes "entries") then Some names.Entries
    else (if bytes_eq text (codes "eval") then Some names.Eval
    else (if bytes_eq text (codes "expr") then Some names.Expr
    else (if bytes_eq text (codes "normal") then Some names.Normal
    else (if bytes_eq text (codes "rows") then Some names.Rows
    else (if bytes_eq text (codes "same") then Some names.Same
    else (if bytes_eq text (codes "unwind") then Some names.Unwind else None)))))))))

-- the subcommand whose name stands behind the program's
abbrev pub asked_by : List Text → Option Name
asked_by words = option_and_then name_of (slice_get words 1)

-- the target that the options give
abbrev pub target_in : List Row → Option Target
target_in values = option_and_then (λ size. option_map (λ order. record { size = size; order = order }) (option_and_then order_of (first_of (codes "order") values))) (option_and_then size_of (first_of (codes "size") values))

abbrev pub cap_in : List Row → Option ℕ
cap_in values = option_map_or cap_of (first_of (codes "cap") values) (Some 2147483647)

abbrev pub steps_in : List Row → Option ℕ
steps_in values = option_map_or decimal (first_of (codes "steps") values) (Some 10000)

abbrev pub start_in : Size → List Row → Option (Option ℕ)
start_in size values = option_map_or (λ text. option_map (λ v. Some v) (address size text)) (first_of (codes "start") values) (Some None)

abbrev pub default_in : List Row → Option Policy
default_in values = option_and_then default_of (first_of (codes "default") values)

abbrev pub profile_in : List Row → Option Profile
profile_in values = option_and_then profile_of (first_of (codes "frame") values)

abbrev pub block_in : List Row → Option (List ℕ)
block_in values = option_and_then block_of (first_of (codes "HEX") values)

abbrev pub file_in : List Row → Option Text
file_in values = first_of (codes "FILE") values

abbrev pub addresses_in : Size → List Row → Option (List ℕ)
addresses_in size values = all_read (address size) (texts_of values (codes "ADDRESS"))

abbrev pub dump_in : List Row → Option Text
dump_in values = first_of (codes "DUMP") values

-- ---- plans

-- these are values of a subcommand of this name
abbrev pub is_task : Name → Size → List Row → Bool
is_task names.At size values = is_some (file_in values) && is_some (addresses_in size values)
is_task names.Eval size values = is_some (steps_in values) && (is_some (start_in size values) && is_some (block_in values))
is_task names.Expr size values = is_some (profile_in values) && is_some (block_in values)
is_task names.Normal size values = is_some (cap_in values) && is_some (file_in values)
is_task names.Same size values = is_some (file_in values) && is_some (first_of (codes "FILE2") values)
is_task names.Unwind size values = is_some (steps_in values) && (is_some (default_in values) && (is_some (file_in values) && is_some (dump_in values)))
is_task _ size values = is_some (file_in values)

-- a run of a subcommand of this name has these values
abbrev pub is_run : Text → List Row → Bool
is_run text values = option_map_or (λ name. option_map_or (λ target. is_task name target.size values) (target_in values) false) (name_of text) false

-- ---- what stands in the values of words that clap takes

-- a text of the flag is one that clap gives it
abbrev pub fits : Text → Text → Bool
fits id text = not (bytes_eq id (codes "frame")) || is_some (profile_of text)

-- an argument of this name is there, with a text
abbrev pub HasText : Text → List Row → Type 0
HasText id values = (text : Text) × (first_of id values ≡ Some text) × (fits id text ≡ true)

-- each of these is there
abbrev pub Given : List Text → List Row → Type 0
Given [] values = ⊤
Given (id ∷ ids) values = HasText id values × Given ids values

-- and the size is this
abbrev pub GivenAt : Size → List Text → List Row → Type 0
GivenAt size ids values = Says values (codes "size") size_of size × Given ids values

-- what each subcommand has to have
abbrev pub options : List Text
options = codes "size" ∷ codes "order" ∷ []

-- what this one has to have beside them
abbrev pub own : Name → List Text
own names.Eval = codes "HEX" ∷ []
own names.Expr = codes "frame" ∷ codes "HEX" ∷ []
own names.Same = codes "FILE" ∷ codes "FILE2" ∷ []
own names.Unwind = codes "default" ∷ codes "FILE" ∷ codes "DUMP" ∷ []
own _ = codes "FILE" ∷ []

-- the values of a subcommand of this name, with all that it has to have
abbrev pub IsSupplied : Text → List Row → Type 0
IsSupplied text values = (name : Name) × (name_of text ≡ Some name) × Given options values × Given (own name) values

-- ---- what the code answers

-- an error of values: this is so of them, and what is named is bad where the values are known to have these; or memory ran out
abbrev pub Fails : List Row → (List Row → Type 0) → Type 0 → PlanError → Type 0
Fails values Known Lack (errors.BadValue what) = Lack × (Known values → IsBad values what.now)
Fails values Known Lack (errors.Words error) = ⊥
Fails values Known Lack errors.OutOfMemory = ⊤

-- a value is what is wanted of the values
abbrev pub Answers : {T X : Type 0} → List Row → (List Row → Type 0) → (List Row → Option X) → (T → X) → Result T PlanError → Type 0
Answers values Known wanted held result = MatchResult result (λ v. wanted values ≡ Some (held v)) (Fails values Known (wanted values ≡ None))

-- what is answered is the target of the options
abbrev pub Targets : List Row → Result Target PlanError → Type 0
Targets values result =
    MatchResult result (λ target. (target_in values ≡ Some target) × Says values (codes "size") size_of target.size × Says values (codes "order") order_of target.order)
    (Fails values (Given options) (target_in values ≡ None))

-- the task of the subcommand of this name
abbrev pub Tasks : List Row → Name → Size → Result Task PlanError → Type 0
Tasks values name size result = MatchResult result (IsTask values (text_of name) size) (Fails values (GivenAt size (own name)) (is_task name size values ≡ false))

-- and the run
abbrev pub Jobs : List Row → Text → Result Job PlanError → Type 0
Jobs values text result = MatchResult result (IsJob values text) (Fails values (IsSupplied text) (is_run text values ≡ false))

-- what a fault of clap's becomes
abbrev pub FromFault : Error → Result Request PlanError → Type 0
FromFault error (Ok (requests.Run job)) = ⊥
FromFault error (Ok (requests.Help text)) = (text ≡ error) × (is_help (kind_of error) ≡ true)
FromFault error (Err (errors.Words fault)) = (fault ≡ error) × (is_help (kind_of error) ≡ false) × (kind_of error ≢ kinds.OutOfMemory)
FromFault error (Err (errors.BadValue what)) = ⊥
FromFault error (Err errors.OutOfMemory) = kind_of error ≡ kinds.OutOfMemory
