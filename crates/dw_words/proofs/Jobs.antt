-- Whether a run has the values of a subcommand, as a function and as a relation.
use Rattle.dw_words.proofs.Words.{◌≡◌, ◌∙◌, List, Bool, true, false, true≢false, Option, Some, None, refl, ap, ap₂, subst, sym, codes, if◌then◌else◌, option_map_or, bytes_eq, Decides, bytes_eq-Decides, Row, Text}
use Rattle.dw_words.proofs.Words.{subcommand_of, dwframe, size_of, Name, PlanError, AskFor, IsJob, IsTask, Says, Fails, Given, GivenAt, IsSupplied, is_run, is_task, name_of, own, target_in, text_of}
use Rattle.dw_num.specs.declared.target.{Size.Size, Target.Target}
use Rattle.dw_words.specs.declared.request.{Job.Job, Task.Task}
use Rattle.dw_words.specs.declared.request.Name.TheVariants as names
use Rattle.dw_words.specs.declared.request.PlanError.TheVariants as errors
use Rattle.dw_words.specs.declared.request.Task.TheVariants as tasks

-- ---- names

step : (name : Text) (m n : Name) (rest : Option Name) → (rest ≡ Some n → name ≡ text_of n) → (if bytes_eq name (text_of m) then Some m else rest) ≡ Some n → name ≡ text_of n
step name m n rest later h = of (bytes_eq name (text_of m)) (bytes_eq-Decides name (text_of m)) h
  where
    of : (b : Bool) → Decides b (name ≡ text_of m) → (if b then Some m else rest) ≡ Some n → name ≡ text_of n
    of true is h = let it : m ≡ n = cc in is.0 refl ∙ ap text_of it
    of false is h = later h

pub named : (name : Text) (n : Name) → name_of name ≡ Some n → name ≡ text_of n
named name n =
    step name names.At n _ (step name names.Check n _ (step name names.Cost n _ (step name names.Entries n _ (step name names.Eval n _ (step name names.Expr n _
    (step name names.Normal n _ (step name names.Rows n _ (step name names.Same n _ (step name names.Unwind n None (λ h. absurd cc))))))))))

-- ---- what fails

-- a run is one of a name and of a target
run_is : (text : Text) (values : List Row) (n : Name) (t : Target) → name_of text ≡ Some n → target_in values ≡ Some t → is_run text values ≡ is_task n t.size values
run_is text values n t h i = rw (h, i) refl

-- a task that fails is a run that does
pub run_fails : (text : Text) (values : List Row) (n : Name) (t : Target) (e : PlanError) → name_of text ≡ Some n → target_in values ≡ Some t → Says values (codes "size") size_of t.size
    → Fails values (GivenAt t.size (own n)) (is_task n t.size values ≡ false) e → Fails values (IsSupplied text) (is_run text values ≡ false) e
run_fails text values n t (errors.BadValue what) is target said h = (
  run_is text values n t is target ∙ h.0,
  λ k.
      let same : k.0 ≡ n = ap (λ (o : Option Name). option_map_or (λ m. m) o n) (sym k.1 ∙ is) in
      h.1 (said, subst (λ (m : Name). Given (own m) values) same k.3),
)
run_fails text values n t (errors.Words error) is target said h = absurd h
run_fails text values n t errors.OutOfMemory is target said h = tt

-- ---- and what is asked for

task_has : (values : List Row) (name : Text) (size : Size) (task : Task) → IsTask values name size task → (n : Name) × (name_of name ≡ Some n) × (is_task n size values ≡ true)
task_has values name size (tasks.At l) (is, a, b) = (names.At, ap name_of is, rw (a, b) refl)
task_has values name size (tasks.Check path) (is, a) = (names.Check, ap name_of is, rw a refl)
task_has values name size (tasks.Cost path) (is, a) = (names.Cost, ap name_of is, rw a refl)
task_has values name size (tasks.Entries path) (is, a) = (names.Entries, ap name_of is, rw a refl)
task_has values name size (tasks.Eval e) (is, a, b, c, d) = (names.Eval, ap name_of is, rw (a, b, c) refl)
task_has values name size (tasks.Expr profile block) (is, a, b) = (names.Expr, ap name_of is, rw (a, b) refl)
task_has values name size (tasks.Normal w) (is, a, b) = (names.Normal, ap name_of is, rw (a, b) refl)
task_has values name size (tasks.Rows path) (is, a) = (names.Rows, ap name_of is, rw a refl)
task_has values name size (tasks.Same path other) (is, a, b) = (names.Same, ap name_of is, rw (a, b) refl)
task_has values name size (tasks.Unwind u) (is, a, b, c, d) = (names.Unwind, ap name_of is, rw (a, b, c, d) refl)

job_has : (name : Text) (values : List Row) (job : Job) → IsJob values name job → is_run name values ≡ true
job_has name values job (size, order, task) =
    let h = task_has values name job.target.size job.task task in
    let target : target_in values ≡ Some job.target = rw (size, order) refl in
    run_is name values h.0 job.target h.1 target ∙ h.2

-- ---- words

-- words whose subcommand is no run ask for none
pub none_asked : (words : List Text) (name : Text) (values : List Row) (job : Job) → subcommand_of dwframe words ≡ Some (name, values) → is_run name values ≡ false → AskFor words job → ⊥
none_asked words name values job is none (taken, n, vs, found, asked) =
    let has = job_has n vs job asked in
    let pairs : Some (n, vs) ≡ Some (name, values) = sym found ∙ is in
    let one : n ≡ name = ap (λ (o : Option (Text × List Row)). option_map_or (λ p. p.0) o name) pairs in
    let two : vs ≡ values = ap (λ (o : Option (Text × List Row)). option_map_or (λ p. p.1) o values) pairs in
    true≢false (sym has ∙ ap₂ is_run one two ∙ none)
