-- What a run tells of an output that is lent, and what the output holds behind it.
use Rattle.dw_command.proofs.Words.{◌≡◌, ◌∙◌, ℕ, ◌-◌, List, [], ◌∷◌, ◌++◌, length, take, if◌then◌else◌, Option, Some, None, option_map, Result, Ok, Err, inl, inr, sym, ap, arith, refl, Appends, Keeps, append-nil, length-append, Text}
use Rattle.dw_command.proofs.Words.{Target, Location, LoadError, Failure, lines_in, AndThen, Asks, AtEnds, Before, Checks, Compares, Costs, Cuts, Decodes, Ends, EvalEnds, Follows, Frames, ListsFdes, Loads}
use Rattle.dw_command.proofs.Words.{LoadsDump, LoadsText, Normalises, OverBlock, OverFile, Parses, Plans, Prints, PrintsOf, PrintsText, SpellsLeast, Tallies, TaskEnds, UnwindEnds, Values, costs_text, Output, put_so_far, at_text}
use Rattle.dw_command.proofs.Words.{member_text, block_text, counts_text, entry_text, frame_text, lines, sameness_text, value_text}
use Rattle.dw_words.specs.declared.request.{Request.Request, Task.Task}
use Rattle.dw_show.specs.Answers.{Tells as SaysOf}
use Rattle.dw_command.specs.{Engine.holding, Inner.Lent.lent_bytes}
use Rattle.dw_words.specs.declared.request.Request.TheVariants as requests
use Rattle.dw_words.specs.declared.request.Task.TheVariants as tasks

-- ---- one loan

head_is : (x y : ℕ) (xs ys : List ℕ) → (x ∷ xs) ≡ (y ∷ ys) → x ≡ y
head_is x y xs ys h = cc

tail_is : (x y : ℕ) (xs ys : List ℕ) → (x ∷ xs) ≡ (y ∷ ys) → xs ≡ ys
tail_is x y xs ys h = cc

-- an output that holds no less than before got none of what is left
nothing_left : (xs ys rest : List ℕ) (given : ℕ) → length ys - given ≡ length xs - 0 → ys ++ rest ≡ xs → ys ≡ xs
nothing_left xs ys [] given long is = sym (append-nil ys) ∙ is
nothing_left xs ys (x ∷ rest) given long is = let all = sym (length-append ys (x ∷ rest)) ∙ ap length is in absurd (omega (arith, long, all))

-- the output behind the run holds what it holds at the end of the loan, where it is the same loan
module _ (name name' given' len' : ℕ) (room room' : List ℕ) where
  loan_appends : (before after behind : Option (List ℕ)) (text : List ℕ) → (name' ≡ name → behind ≡ after) → len' ≡ 0
      → Appends (put_so_far (lent_bytes name 0 before) 0 room) (put_so_far (lent_bytes name' given' after) len' room') text → Appends before behind text
  loan_appends None after behind text ends none h = tt
  loan_appends (Some xs) None behind text ends none h = absurd h
  loan_appends (Some xs) (Some ys) behind text ends none h =
      let bytes = tail_is _ _ _ _ (tail_is _ _ _ _ h) in
      let whole : ys ≡ xs ++ text = sym (append-nil ys) ∙ ap (λ (k : ℕ). ys ++ take k room') (sym none) ∙ bytes ∙ ap (λ (l : List ℕ). l ++ text) (append-nil xs) in
      rw (ends (head_is name' name _ _ h)) whole

  loan_keeps : (before after behind : Option (List ℕ)) → (name' ≡ name → behind ≡ after)
      → Keeps (put_so_far (lent_bytes name 0 before) 0 room) (put_so_far (lent_bytes name' given' after) len' room') → Keeps before behind
  loan_keeps None after behind ends h = tt
  loan_keeps (Some xs) None behind ends h = absurd h
  loan_keeps (Some xs) (Some ys) behind ends h =
      let long = head_is _ _ _ _ (tail_is _ _ _ _ h) in
      let bytes = tail_is _ _ _ _ (tail_is _ _ _ _ h) in
      rw (ends (head_is name' name _ _ h)) (nothing_left xs ys (take len' room') given' long (bytes ∙ append-nil xs))

-- ---- what two outputs tell of a run, two others tell

pub record Tells (old new old' new' : Output) : Type 0 where
  pub before : old'.failures ≡ old.failures
  pub after : new'.failures ≡ new.failures
  pub left : new'.left ≡ 0
  pub appends : (text : List ℕ) → new.left ≡ 0 → Appends old.put new.put text → Appends old'.put new'.put text
  pub keeps : Keeps old.put new.put → Keeps old'.put new'.put

-- the output that is lent, and what it holds
pub of_loan : (name name' given' len' failures : ℕ) (room room' : List ℕ) (before after behind : Option (List ℕ)) → (name' ≡ name → behind ≡ after)
    → Tells (record { put = put_so_far (lent_bytes name 0 before) 0 room; left = 0; failures = 0 }) (record { put = put_so_far (lent_bytes name' given' after) len' room'; left = len'; failures = failures })
    (holding before 0) (holding behind failures)
of_loan name name' given' len' failures room room' before after behind ends = record {
  before = refl;
  after = refl;
  left = refl;
  appends = λ text none h. loan_appends name name' given' len' room room' before after behind text ends none h;
  keeps = λ h. loan_keeps name name' given' len' room room' before after behind ends h;
}

module _ (old new old' new' : Output) (tells : Tells old new old' new') where
  prints : {A : Type 0} (text : List ℕ) (a : A) (r : Result A Failure) → Prints old new text a r → Prints old' new' text a r
  prints text a (Ok b) h = (h.0, tells.after ∙ h.1 ∙ sym tells.before, tells.left, tells.appends text h.2 h.3)
  prints text a (Err failure) h = rw (tells.before, tells.after) h

  prints_of : {A B : Type 0} (Is : A → Type 0) (text : A → List ℕ) (b : B) (r : Result B Failure) → PrintsOf old new Is text b r → PrintsOf old' new' Is text b r
  prints_of Is text b (Ok c) h = (h.0, h.1, prints (text h.0) b (Ok c) h.2)
  prints_of Is text b (Err failure) h = rw (tells.before, tells.after) h

  prints_text : {A : Type 0} (a : A) (r : Result A Failure) → PrintsText old new a r → PrintsText old' new' a r
  prints_text a (Ok b) h = (h.0, tells.after ∙ h.1 ∙ sym tells.before, tells.left)
  prints_text a (Err failure) h = rw (tells.before, tells.after) h

  before : {A B : Type 0} (First : Result A Failure → Type 0) (Next Next' : A → Result B Failure → Type 0) → ((a : A) (r : Result B Failure) → Next a r → Next' a r)
      → (r : Result B Failure) → Before old new First Next r → Before old' new' First Next' r
  before First Next Next' next r (inl (a, first, h)) = inl (a, first, next a r h)
  before First Next Next' next r (inr (e, first, is, kept)) = inr (e, first, is, tells.keeps kept)

  done : (E E' : Result (Unit {0}) Failure → Type 0) → ((r : Result (Unit {0}) Failure) → E r → E' r)
      → (r : Result ℕ Failure) → AndThen E (λ (_ : Unit {0}) status. status ≡ Ok 0) r → AndThen E' (λ (_ : Unit {0}) status. status ≡ Ok 0) r
  done E E' go r (inl (a, h, is)) = inl (a, go (Ok a) h, is)
  done E E' go r (inr (e, h, is)) = inr (e, go (Err e) h, is)

  module _ (gives : Text → Result (List ℕ) LoadError → Type 0) where
    of_file : {A : Type 0} (path : Text) (Judges : List ℕ → Result A Failure → Type 0) (text : List ℕ → A → List ℕ)
        → (r : Result ℕ Failure) → AndThen (OverFile gives old new path Judges (λ s a. Prints old new (text s a) tt)) (λ (_ : Unit {0}) status. status ≡ Ok 0) r
        → AndThen (OverFile gives old' new' path Judges (λ s a. Prints old' new' (text s a) tt)) (λ (_ : Unit {0}) status. status ≡ Ok 0) r
    of_file path Judges text r h =
        done (OverFile gives old new path Judges (λ s a. Prints old new (text s a) tt)) (OverFile gives old' new' path Judges (λ s a. Prints old' new' (text s a) tt))
        (before (Loads gives path) _ _ (λ s. before (Judges s) _ _ (λ a. prints (text s a) tt))) r h

    task_ends : (target : Target) (task : Task) (r : Result ℕ Failure) → TaskEnds gives old new target task r → TaskEnds gives old' new' target task r
    task_ends target (tasks.At l) r h =
        done (AtEnds gives old new target l) (AtEnds gives old' new' target l)
        (before (Loads gives l.path.now) _ _ (λ s. before (LoadsText gives (lines_in l.addresses.items)) _ _ (λ text. before (Checks target s) _ _ (λ _.
        before (Asks target l.addresses.items text) _ _ (λ asked. prints_of (SaysOf target s asked) (lines at_text) tt))))) r h
    task_ends target (tasks.Check path) r h = of_file path.now (Tallies target) (λ s counts. counts_text counts (length s)) r h
    task_ends target (tasks.Cost path) r h = of_file path.now (Costs target) (λ s cost. costs_text (length s) cost) r h
    task_ends target (tasks.Entries path) r h = of_file path.now (Cuts target) (λ s es. lines entry_text es) r h
    task_ends target (tasks.Eval e) r h =
        done (EvalEnds gives old new target e) (EvalEnds gives old' new' target e)
        (before (LoadsText gives (option_map (λ path. path.now) e.dump)) _ _ (λ text. before (Decodes Location target e.block.items) _ _ (λ ops.
        before (Parses target text) _ _ (λ dump. before (Values target ops e.start dump e.steps) _ _ (λ v. prints (value_text v) tt))))) r h
    task_ends target (tasks.Expr profile block) r h =
        done (OverBlock old new target profile block.items) (OverBlock old' new' target profile block.items)
        (before (SpellsLeast profile target block.items) _ _ (λ spelled. prints (block_text spelled.0 spelled.1) tt)) r h
    task_ends target (tasks.Normal w) r h = of_file w.path.now (Normalises target w.cap) (λ s n. n) r h
    task_ends target (tasks.Rows path) r h = of_file path.now (ListsFdes target) (λ s ms. lines member_text ms) r h
    task_ends target (tasks.Same path other) r h =
        before (Loads gives path.now) _ _ (λ s. before (Loads gives other.now) _ _ (λ t. before (Compares target s t) _ _ (λ b. prints (sameness_text b) (if b then 0 else 1)))) r h
    task_ends target (tasks.Unwind u) r h =
        done (UnwindEnds gives old new target u) (UnwindEnds gives old' new' target u)
        (before (Loads gives u.path.now) _ _ (λ s. before (LoadsDump gives u.dump.now) _ _ (λ text. before (Checks target s) _ _ (λ _.
        before (Parses target text) _ _ (λ dump. before (Frames target s dump u.default u.steps) _ _ (λ frame. prints (frame_text frame) tt)))))) r h

    follows : (request : Request) (r : Result ℕ Failure) → Follows gives old new request r → Follows gives old' new' request r
    follows (requests.Run job) r h = task_ends job.target job.task r h
    follows (requests.Help text) r h = prints_text 0 r h

    pub ends : (words : List Text) (r : Result ℕ Failure) → Ends gives old new words r → Ends gives old' new' words r
    ends words r h = before (Plans words) _ _ follows r h
