-- From what clap says of words to what is planned.
use Rattle.clap.specs.declared.{error.Error.Error, parser.matches.ArgMatches.ArgMatches, parser.matches.ArgMatches.TheViews.{out-ArgMatches, out-SubCommand}}
use Rattle.dw_words.specs.declared.request.Request.{Request}
use Rattle.dw_words.specs.declared.request.PlanError.TheVariants as errors
use Rattle.dw_words.specs.declared.request.Request.TheVariants as requests
use Rattle.dw_words.proofs.Words.{◌≡◌, ◌∙◌, true, false, List, [], Option, Some, None, option_map, Result, Ok, Err, ap, ap₂, sym, inl, inr, box_value, App, HasKind, HasMatchesOf, Row, Text, fault_of, found_of, is_simple_and_free, rows_of}
use Rattle.dw_words.proofs.{Words.{subcommand_name_of, subcommand_of, subcommand_rows_of, dwframe, PlanError, Planned, is_help, asked, Fails, FromFault, IsSupplied, asked_by, is_run}, Asked.reads, Jobs.none_asked, Subcommands.supplied}

module _ {X : Type 0} (f : X → Text) (g : X → List Row) where
  abbrev both : X → Text × List Row
  both x = (f x, g x)

  pair_of : (o : Option X) (name : Text) (rows : List Row) → Some name ≡ option_map f o → Some rows ≡ option_map (λ (p : Text × List Row). p.1) (option_map both o) → option_map both o ≡ Some (name, rows)
  pair_of None name rows h k = absurd cc
  pair_of (Some x) name rows h k =
      let p : f x ≡ name = cc in
      let q : g x ≡ rows = cc in
      let P : Text → List Row → Option (Text × List Row) = λ a b. Some (a, b) in
      ap₂ P p q

-- words that clap takes, by the command that was made for them
pub accepted : (a : App) (words : List Text) (m : ArgMatches) (name : Text) (rows : List Row) → a ≡ asked (asked_by words)
    → (is_simple_and_free a ≡ true → fault_of a words ≡ []) → HasMatchesOf a words m
    → Some name ≡ subcommand_name_of m → Some rows ≡ option_map (λ (p : Text × List Row). p.1) (subcommand_rows_of m)
    → (fault_of dwframe words ≡ []) × (subcommand_of dwframe words ≡ Some (name, rows))
accepted a words m name rows made none matches named values =
    let h = reads a words made in
    let pair : subcommand_rows_of m ≡ Some (name, rows) = pair_of (λ b. (out-SubCommand (box_value b)).name.now) (λ b. rows_of (found_of (out-SubCommand (box_value b)).matches)) (out-ArgMatches m).subcommand name rows named values in
    (sym h.3 ∙ none h.1, sym ((matches h.0).1 ∙ h.4) ∙ pair)

-- words that clap takes, with a value that is none
pub failed : (words : List Text) (name : Text) (values : List Row) (e : PlanError) → fault_of dwframe words ≡ [] → subcommand_of dwframe words ≡ Some (name, values)
    → Fails values (IsSupplied name) (is_run name values ≡ false) e → Planned words (Err e)
failed words name values (errors.BadValue what) taken is h = (taken, (name, values, is, h.1 (supplied words name values taken is)), λ job asked. none_asked words name values job is h.0 asked)
failed words name values (errors.Words error) taken is h = absurd h
failed words name values errors.OutOfMemory taken is h = tt

-- words that clap does not take
pub refused : (words : List Text) (error : Error) (r : Result Request PlanError) → HasKind (fault_of dwframe words) error → FromFault error r → Planned words r
refused words error (Ok (requests.Run job)) h f = absurd f
refused words error (Ok (requests.Help text)) (inl short) f = let bad : false ≡ true = ap is_help (sym short) ∙ f.1 in absurd cc
refused words error (Ok (requests.Help text)) (inr among) f = rw f.0 (among, f.1)
refused words error (Err (errors.BadValue what)) h f = absurd f
refused words error (Err (errors.Words fault)) (inl short) f = absurd (f.2 short)
refused words error (Err (errors.Words fault)) (inr among) f = rw f.0 (among, f.1)
refused words error (Err errors.OutOfMemory) h f = tt
