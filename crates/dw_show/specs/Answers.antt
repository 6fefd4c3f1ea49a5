-- What a run answers and prints: which call comes after which, and that the first failure ends it.
use Rattle.std.specs.Prelude.{◌≡◌, ◌⊎◌, ⊤, ℕ, ◌<◌, ◌≤◌, List, [], ◌++◌, codes, Option, Some, None, length, map, option_map}
use Rattle.std.specs.{Prelude.{Result, Ok, Err}, Io.KnownBytes.{Appends, Keeps}, List.AllZip}
use Rattle.clap.specs.Words.{Text}
use Rattle.dw_num.specs.{Refusals.Refuses, Target.address_limit, declared.target.Target.Target}
use Rattle.dw_op.specs.{Faults.{BlockFault, IsBlock}, Least.LeastBlock, declared.op.Op.Op}
use Rattle.dw_op.specs.declared.profile.{Profile.Profile, Profile.TheVariants.Location}
use Rattle.dw_eval.specs.{Evaluation.{Evaluates, first_stack}, declared.policy.Policy.Policy}
use Rattle.dw_eval.specs.declared.error.EvalError.TheVariants as eval_error
use Rattle.dw_section.specs.{Accepted.{Accepted, CheckFault}, Among.IsAmong, Counts.AreCounts, Cut.Piece, Faults.CutFault}
use Rattle.dw_section.specs.{Meaning.{AreFdes, Covers, NoneCovers, RulesAt, total}, Pieces.{Entries, Pieces}}
use Rattle.dw_section.specs.declared.{entry.Entry.Entry, entry.EntryCounts.EntryCounts, lookup.Fde.Fde}
use Rattle.dw_canon.specs.Members.{AreMembers, Member, changes_of}
use Rattle.dw_dump.specs.{Describes.{Describes, RefusesDump}, Dump.Say, Lines.lines_of, Ranges.byte_in, Statement.Statement, declared.dump.Dump.Dump}
use Rattle.dw_frame.specs.{Frames.stopped, declared.frame.Frame.Frame}
use Rattle.dw_frame.specs.declared.frame.UnwindError.TheVariants as unwind_error
use Rattle.dw_unwind.specs.Unwound.{Unwound}
use Rattle.dw_words.specs.declared.request.Evaluation.{Evaluation}
use Rattle.dw_words.specs.declared.request.{Lookup.Lookup, Unwinding.Unwinding}
use Rattle.dw_files.specs.declared.files.{LoadError.LoadError, LoadError.TheVariants.CannotRead}
use Rattle.dw_show.specs.{Addresses.{RefusesLine, addresses_of, lines_in}, Failure.{OfLoad, OfUnwind, of_read, of_dump, of_eval}}
use Rattle.dw_show.specs.{Output.Output, RowTexts.{At, at_text}}
use Rattle.dw_show.specs.Texts.{block_text, cost_text, frame_text, lines, value_text}
use Rattle.dw_show.specs.declared.failure.Failure.{Failure}
use Rattle.dw_show.specs.declared.failure.Failure.TheVariants as failures

-- ---- one thing after another

-- the first has an answer, from which the second goes on, or it fails and nothing follows
abbrev pub AndThen : {A B : Type 0} → (Result A Failure → Type 0) → (A → Result B Failure → Type 0) → Result B Failure → Type 0
AndThen {A} {B} First Next r = ((a : A) × First (Ok a) × Next a r) ⊎ ((e : Failure) × First (Err e) × (r ≡ Err e))

-- a call below: what it answers, or its error, which becomes a failure
abbrev pub Calls : {A E : Type 0} → (A → Type 0) → (E → Type 0) → (E → Failure → Type 0) → Result A Failure → Type 0
Calls {A} {E} Answer Error Becomes (Ok a) = Answer a
Calls {A} {E} Answer Error Becomes (Err f) = (e : E) × Error e × Becomes e f

-- an answer is not printed: the output cannot be written to where its count of failures grew, or memory ran out
abbrev pub Unprinted : ℕ → ℕ → Failure → Type 0
Unprinted old new failures.CannotWrite = old < new
Unprinted old new failures.OutOfMemory = ⊤
Unprinted old new failure = ⊥

-- the text of the answer is printed behind what was put before, the count of the output's failures did not grow, and no byte is left
-- that the output was not given; or it is not printed
abbrev pub Prints : {A : Type 0} → Output → Output → List ℕ → A → Result A Failure → Type 0
Prints old new text a (Ok b) = (b ≡ a) × (new.failures ≡ old.failures) × (new.left ≡ 0) × Appends old.put new.put text
Prints old new text a (Err failure) = Unprinted old.failures new.failures failure

-- the text of something that is so is printed, or it is not printed
abbrev pub PrintsOf : {A B : Type 0} → Output → Output → (A → Type 0) → (A → List ℕ) → B → Result B Failure → Type 0
PrintsOf {A} old new Is text b (Ok c) = (a : A) × Is a × Prints old new (text a) b (Ok c)
PrintsOf old new Is text b (Err failure) = Unprinted old.failures new.failures failure

-- the same of a text that is not told
abbrev pub PrintsText : {A : Type 0} → Output → Output → A → Result A Failure → Type 0
PrintsText old new a (Ok b) = (b ≡ a) × (new.failures ≡ old.failures) × (new.left ≡ 0)
PrintsText old new a (Err failure) = Unprinted old.failures new.failures failure

-- the first has an answer, from which the second goes on, or it fails and nothing is put
abbrev pub Before : {A B : Type 0} → Output → Output → (Result A Failure → Type 0) → (A → Result B Failure → Type 0) → Result B Failure → Type 0
Before {A} {B} old new First Next r = ((a : A) × First (Ok a) × Next a r) ⊎ ((e : Failure) × First (Err e) × (r ≡ Err e) × Keeps old.put new.put)

-- ---- files, by what they may give for a path

-- the bytes of a file
abbrev pub Loads : (Text → Result (List ℕ) LoadError → Type 0) → Text → Result (List ℕ) Failure → Type 0
Loads gives path r = Calls (λ (bytes : List ℕ). gives path (Ok bytes)) (λ (e : LoadError). gives path (Err e)) (OfLoad path) r

-- why there is no dump: a file of more than 2,147,483,647 bytes is none
abbrev pub NoDump : (Text → Result (List ℕ) LoadError → Type 0) → Text → LoadError → Type 0
NoDump gives path e = gives path (Err e) ⊎ ((bytes : List ℕ) × gives path (Ok bytes) × (2147483647 < length bytes) × (e ≡ CannotRead))

-- the bytes of a dump
abbrev pub LoadsDump : (Text → Result (List ℕ) LoadError → Type 0) → Text → Result (List ℕ) Failure → Type 0
LoadsDump gives path r = Calls (λ (bytes : List ℕ). gives path (Ok bytes) × (length bytes ≤ 2147483647)) (NoDump gives path) (OfLoad path) r

-- no bytes where no dump is named
abbrev pub LoadsText : (Text → Result (List ℕ) LoadError → Type 0) → Option Text → Result (List ℕ) Failure → Type 0
LoadsText gives None r = r ≡ Ok []
LoadsText gives (Some path) r = LoadsDump gives path r

-- ---- the calls below

-- a section is checked
abbrev pub Checks : Target → List ℕ → Result (Unit {0}) Failure → Type 0
Checks target s r = Calls (λ (_ : Unit {0}). Accepted target s) (Refuses (CheckFault target s)) (λ e f. f ≡ of_read e) r

-- these are the counts of its entries
abbrev pub HasCounts : Target → List ℕ → EntryCounts → Type 0
HasCounts target s counts = (ps : List Piece) × Pieces target s ps × AreCounts ps counts

-- a section is checked, and its entries are counted
abbrev pub Tallies : Target → List ℕ → Result EntryCounts Failure → Type 0
Tallies target s r = Calls (λ counts. Accepted target s × HasCounts target s counts) (Refuses (CheckFault target s)) (λ e f. f ≡ of_read e) r

-- a section is checked, and these are its nonempty FDEs by begin, each with the addresses at which its rules change
abbrev pub ListsFdes : Target → List ℕ → Result (List Member) Failure → Type 0
ListsFdes target s r = Calls (λ ms. Accepted target s × AreMembers target s ms) (Refuses (CheckFault target s)) (λ e f. f ≡ of_read e) r

-- what a section with these FDEs says of an address: the one that covers it, and the rules there, or that none does
abbrev pub TellsOf : Target → List ℕ → List Fde → ℕ → At → Type 0
TellsOf target s fs asked (a, None) = (a ≡ asked) × NoneCovers a fs
TellsOf target s fs asked (a, Some (fde, rules)) = (a ≡ asked) × IsAmong fde fs × Covers a fde × RulesAt target s a rules

-- what it says of each
abbrev pub Tells : Target → List ℕ → List ℕ → List At → Type 0
Tells target s addresses found = (fs : List Fde) × AreFdes target s fs × AllZip (TellsOf target s fs) addresses found

-- these addresses are asked for: those of the words, and behind them those of a text's lines
abbrev pub Asks : Target → List ℕ → List ℕ → Result (List ℕ) Failure → Type 0
Asks target named text r = Calls (λ asked. (more : List ℕ) × (addresses_of target.size 1 (lines_of text) ≡ Ok more) × (asked ≡ named ++ more)) (RefusesLine target.size (lines_of text)) (λ e f. f ≡ of_dump e) r

-- a section is cut
abbrev pub Cuts : Target → List ℕ → Result (List Entry) Failure → Type 0
Cuts target s r = Calls (Entries target s) (Refuses (CutFault target s)) (λ e f. f ≡ of_read e) r

-- how many changes an FDE has
abbrev pub change_count : Member → ℕ
change_count m = length (changes_of m)

-- the nonempty FDEs of a section together have n changes
pub record ChangeCount (target : Target) (s : List ℕ) (n : ℕ) : Type 0 where
  pub members : List Member
  pub are : AreMembers target s members
  pub sum : n ≡ total (map change_count members)

-- what a section costs: the bytes of its normal form, the rows that its programs start, and the changes of its FDEs
pub record Cost : Type 0 where
  pub normal : ℕ
  pub starts : ℕ
  pub changes : ℕ

-- two lines: of the section, and of its normal form
abbrev pub costs_text : ℕ → Cost → List ℕ
costs_text bytes cost = cost_text (codes "bytes ") bytes cost.normal ++ cost_text (codes "rowstarts ") cost.starts cost.changes

-- a block is decoded
abbrev pub Decodes : Profile → Target → List ℕ → Result (List Op) Failure → Type 0
Decodes profile target block r =
    Calls (λ ops. IsBlock profile target ops block) (Refuses (BlockFault profile target block)) (λ e f. f ≡ of_read e) r

-- a block is decoded, and its operations have this least block
abbrev pub SpellsLeast : Profile → Target → List ℕ → Result (List Op × List ℕ) Failure → Type 0
SpellsLeast profile target block r =
    Calls (λ spelled. IsBlock profile target spelled.0 block × LeastBlock target spelled.0 spelled.1)
    (Refuses (BlockFault profile target block)) (λ e f. f ≡ of_read e) r

-- a dump holds what its lines say
abbrev pub Holds : Target → Text → Dump → Type 0
Holds target text dump = (ss : List Statement) × Say (address_limit target.size) (lines_of text) ss × Describes dump ss

-- a dump is read
abbrev pub Parses : Target → Text → Result Dump Failure → Type 0
Parses target text r = Calls (Holds target text) (RefusesDump (address_limit target.size) (lines_of text)) (λ e f. f ≡ of_dump e) r

-- operations are evaluated over a dump, without a frame base, a CFA or an object
abbrev pub Values : Target → List Op → Option ℕ → Dump → ℕ → Result ℕ Failure → Type 0
Values target ops start dump steps r =
    let Is = Evaluates ops (stopped target dump.registers (byte_in dump.memory)) (first_stack target.size start) steps in
    Calls (λ v. Is (Ok v)) (λ e. (e ≡ eval_error.OutOfMemory) ⊎ Is (Err e)) (λ e f. f ≡ of_eval e) r

-- a dump has a program counter
abbrev pub HasCounter : Dump → Result ℕ Failure → Type 0
HasCounter dump (Ok pc) = dump.pc ≡ Some pc
HasCounter dump (Err f) = (dump.pc ≡ None) × (f ≡ failures.NoCounter)

-- a frame of the caller is found from a program counter on
abbrev pub Unwinds : Target → List ℕ → Dump → Policy → ℕ → ℕ → Result Frame Failure → Type 0
Unwinds target s dump policy steps pc r =
    let Is = Unwound target s pc (stopped target dump.registers (byte_in dump.memory)) policy steps in
    Calls (λ frame. Is (Ok frame)) (λ e. (e ≡ unwind_error.OutOfMemory) ⊎ Is (Err e)) OfUnwind r

-- the frame of a dump
abbrev pub Frames : Target → List ℕ → Dump → Policy → ℕ → Result Frame Failure → Type 0
Frames target s dump policy steps r = AndThen (HasCounter dump) (λ pc. Unwinds target s dump policy steps pc) r

-- ---- the subcommands

module _ (old new : Output) where
  -- a block is decoded and spelled in the least way, and both are printed
  abbrev pub OverBlock : Target → Profile → List ℕ → Result (Unit {0}) Failure → Type 0
  OverBlock target profile block r = Before old new (SpellsLeast profile target block) (λ spelled. Prints old new (block_text spelled.0 spelled.1) tt) r

module _ (gives : Text → Result (List ℕ) LoadError → Type 0) (old new : Output) where
  -- a file is read and judged, and what is found is printed
  abbrev pub OverFile : {A : Type 0} → Text → (List ℕ → Result A Failure → Type 0) → (List ℕ → A → Result (Unit {0}) Failure → Type 0) → Result (Unit {0}) Failure → Type 0
  OverFile path Judges Ends r = Before old new (Loads gives path) (λ s. Before old new (Judges s) (Ends s)) r

  abbrev pub EvalEnds : Target → Evaluation → Result (Unit {0}) Failure → Type 0
  EvalEnds target e r =
      Before old new (LoadsText gives (option_map (λ path. path.now) e.dump)) (λ text. Before old new (Decodes Location target e.block.items) (λ ops.
      Before old new (Parses target text) (λ dump. Before old new (Values target ops e.start dump e.steps) (λ v. Prints old new (value_text v) tt)))) r

  abbrev pub UnwindEnds : Target → Unwinding → Result (Unit {0}) Failure → Type 0
  UnwindEnds target u r =
      Before old new (Loads gives u.path.now) (λ s. Before old new (LoadsDump gives u.dump.now) (λ text. Before old new (Checks target s) (λ _.
      Before old new (Parses target text) (λ dump. Before old new (Frames target s dump u.default u.steps) (λ frame. Prints old new (frame_text frame) tt))))) r

  -- the section is judged before the lines of standard input, which is read where the words have no address
  abbrev pub AtEnds : Target → Lookup → Result (Unit {0}) Failure → Type 0
  AtEnds target l r =
      Before old new (Loads gives l.path.now) (λ s. Before old new (LoadsText gives (lines_in l.addresses.items)) (λ text. Before old new (Checks target s) (λ _.
      Before old new (Asks target l.addresses.items text) (λ asked. PrintsOf old new (Tells target s asked) (lines at_text) tt)))) r
