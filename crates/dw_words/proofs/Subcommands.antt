-- The subcommand that clap reads where it finds no fault in words: one of the code's, with what it has to have.
use Rattle.clap.specs.Walk as steps
use Rattle.clap.specs.declared.error.kind.ErrorKind.TheVariants as kinds
use Rattle.dw_words.proofs.Words.{◌≡◌, ◌∙◌, ◌&&◌, ◌||◌, ℕ, Bool, true, false, not, cond, List, [], ◌∷◌, Option, Some, None, is_some, codes, refl, sym, ap, true≢false, inl, inr, slice_get, find, fold, option_map, list_all}
use Rattle.dw_words.proofs.Words.{list_any, option_map_or, bytes_eq, bytes_eq-Decides, both, long_of, short_of, Kinds, or_else, Held, Names, Outcome, Row, Rule, Step, Text, Waiting, Walk, after_flag, after_step, answers_to}
use Rattle.dw_words.proofs.Words.{arg_by_index, arg_by_long, bundle, long_met, long_or_other, nothing_held, plain_word, rows_after, short_or_plain, subcommand_met, subcommand_or_other, to_positional, trailing, walk}
use Rattle.dw_words.proofs.Words.{walk_from, walked, walked_from, word_met, entered_fault, fault_of, level_fault, other_fault, step_fault, turn_fault, walk_fault, word_fault, clap_on_literals, App, Shape, argument_words}
use Rattle.dw_words.proofs.{Words.{built, entered, label_of, names_of, rows_at, subcommand_of, dwframe, Name, IsSupplied, name_of, options, own}, Rows.{all_find, all_given, either, first_none, good, supplies, then_none}}

-- ---- where the walk stops

abbrev IsNoSubcommand : Step → Type 0
IsNoSubcommand (steps.subcommand name) = ⊥
IsNoSubcommand _ = Unit {0}

plain_is_none : (c : List Rule) (waiting : Waiting) (word : Text) (h : Held) → IsNoSubcommand (plain_word c waiting word h).1
plain_is_none c steps.idle word h = tt
plain_is_none c other word h = tt

flag_is_none : (c : List Rule) (waiting : Waiting) (word : Text) (h : Held) (o : Outcome) → IsNoSubcommand (after_flag c waiting word h o).1
flag_is_none c waiting word h steps.plain = plain_is_none c waiting word h
flag_is_none c waiting word h steps.refused = plain_is_none c waiting word h
flag_is_none c waiting word h other = tt

short_is_none : (c : List Rule) (waiting : Waiting) (word : Text) (h : Held) (o : Option Text) → IsNoSubcommand (short_or_plain c waiting word o h).1
short_is_none c waiting word h None = plain_is_none c waiting word h
short_is_none c waiting word h (Some flags) = flag_is_none c waiting word (bundle c flags h).0 (bundle c flags h).1

long_is_none : (c : List Rule) (waiting : Waiting) (word : Text) (h : Held) (o : Option (Text × Option Text)) → IsNoSubcommand (long_or_other c waiting word o h).1
long_is_none c waiting word h None = short_is_none c waiting word h (short_of word)
long_is_none c waiting word h (Some p) = flag_is_none c waiting word (long_met c (arg_by_long c p.0) p.1 h).0 (long_met c (arg_by_long c p.0) p.1 h).1

-- where the walk stopped, it is not `help`
abbrev IsNotHelp : Option (Text × List Text) → Type 0
IsNotHelp None = Unit {0}
IsNotHelp (Some p) = bytes_eq p.0 (codes "help") ≡ false

abbrev IsOther : Step → Type 0
IsOther (steps.subcommand name) = bytes_eq name (codes "help") ≡ false
IsOther _ = Unit {0}

other_than : (step : Step) → IsNoSubcommand step → IsOther step
other_than (steps.subcommand name) h = absurd h
other_than other h = tt

module _ (s : Shape) (enabled : s.disable_help_subcommand ≡ false) (names : Names) where
  step_names : (w : Walk) (word : Text) (h : Held) (step : Step) → IsOther step → IsNotHelp w.stopped → IsNotHelp (after_step s.rules word w h step).stopped
  step_names w word h (steps.subcommand name) ok h0 = ok
  step_names w word h steps.value ok h0 = go (arg_by_index s.rules w.position)
    where
      go : (o : Option Rule) → IsNotHelp (to_positional s.rules o word w h).stopped
      go None = h0
      go (Some a) = tt
  step_names w word h other ok h0 = h0

  word_names : (t : Bool) (waiting : Waiting) (position : ℕ) (word : Text) (h : Held) → word_fault s names t waiting word h ≡ [] → IsOther (word_met s.rules names t waiting position word h).1
  word_names true waiting position word h none = tt
  word_names false waiting position word h none = go (subcommand_met names waiting word) none
    where
      dashes : (t : Bool) → IsOther (cond {A = Held × Step} t (h, trailing position) (long_or_other s.rules waiting word (long_of word) h)).1
      dashes true = tt
      dashes false = other_than (long_or_other s.rules waiting word (long_of word) h).1 (long_is_none s.rules waiting word h (long_of word))

      named_so : (name : Text) (t d : Bool) → bytes_eq name (codes "help") ≡ t → d ≡ false → cond {A = Kinds} (t && not d) (kinds.DisplayHelp ∷ kinds.InvalidSubcommand ∷ []) [] ≡ [] → bytes_eq name (codes "help") ≡ false
      named_so name true d is on e =
          let bad : kinds.DisplayHelp ∷ kinds.InvalidSubcommand ∷ [] ≡ [] = rw on at e in
          absurd cc
      named_so name false d is on e = is

      go : (o : Option Text) → other_fault s o word h ≡ [] → IsOther (subcommand_or_other s.rules o waiting position word h).1
      go (Some name) e = named_so name (bytes_eq name (codes "help")) s.disable_help_subcommand refl enabled e
      go None e = dashes (bytes_eq word (45 ∷ 45 ∷ []))

  turn_names : (w : Walk) (word : Text) → turn_fault s names w word ≡ [] → IsNotHelp w.stopped → IsNotHelp (walked s.rules names w word).stopped
  unfolding walked
  turn_names w word none h0 = go w.stopped none h0
    where
      go : (o : Option (Text × List Text))
          → cond {A = Kinds} (is_some o) [] (or_else (word_fault s names w.is_trailing w.waiting word w.held) (step_fault s w.position (word_met s.rules names w.is_trailing w.waiting w.position word w.held).0 (word_met s.rules names w.is_trailing w.waiting w.position word w.held).1)) ≡ []
          → IsNotHelp o → IsNotHelp (walked_from s.rules names o w word).stopped
      go (Some p) e h = h
      go None e h =
          let met = word_met s.rules names w.is_trailing w.waiting w.position word w.held in
          step_names w word met.0 met.1 (word_names w.is_trailing w.waiting w.position word w.held (first_none (word_fault s names w.is_trailing w.waiting word w.held) _ e)) h0

  walk_names : (words : List Text) (w : Walk) → walk_fault s names w words ≡ [] → IsNotHelp w.stopped → IsNotHelp (fold (walked s.rules names) w words).stopped
  unfolding walk_fault
  walk_names [] w none h = h
  walk_names (word ∷ rest) w none h = walk_names rest (walked s.rules names w word) (then_none (turn_fault s names w word) _ none) (turn_names w word (first_none (turn_fault s names w word) _ none) h)

-- ---- the command

-- what is computed of each subcommand: it is `help`, or one of the code's with what it has to have
abbrev is_sound : Shape → Bool
is_sound s = not (is_some (slice_get s.aliases 0)) && (bytes_eq s.name (codes "help")
    || (list_all good s.rules && (list_all (supplies s.rules) options && option_map_or (λ n. list_all (supplies s.rules) (own n)) (name_of s.name) false)))

sound : list_all is_sound (built dwframe).subs ≡ true
unfolding clap_on_literals
sound = refl

helps : (built dwframe).top.disable_help_subcommand ≡ false
unfolding clap_on_literals
helps = refl

no_alias : (word : Text) (aliases : List Text) → not (is_some (slice_get aliases 0)) ≡ true → list_any (λ alias. bytes_eq alias word) aliases ≡ false
no_alias word [] h = refl
no_alias word (x ∷ xs) h = absurd (true≢false (sym h))

answered : (s : Shape) (word : Text) → not (is_some (slice_get s.aliases 0)) ≡ true → answers_to word (label_of s) ≡ true → s.name ≡ word
answered s word none h = (bytes_eq-Decides s.name word).0 (elim (either (bytes_eq s.name word) _ h) [
  | inl is ↦ is
  | inr alias ↦ absurd (true≢false (sym alias ∙ no_alias word s.aliases none))
])

entered_has : (s : Shape) (stop : Text × List Text) → is_sound s ≡ true → answers_to stop.0 (label_of s) ≡ true → bytes_eq stop.0 (codes "help") ≡ false → level_fault s [] nothing_held stop.1 false [] ≡ []
    → IsSupplied s.name (rows_after s.rules [] stop.1)
entered_has s stop ok answers other none =
    let b = both (not (is_some (slice_get s.aliases 0))) _ ok in
    let same = answered s stop.0 b.0 answers in
    let apart : bytes_eq s.name (codes "help") ≡ false = rw same other in
    let rest = elim (either (bytes_eq s.name (codes "help")) _ b.1) as (λ _. (list_all good s.rules && (list_all (supplies s.rules) options && option_map_or (λ n. list_all (supplies s.rules) (own n)) (name_of s.name) false)) ≡ true) [
      | inl is ↦ absurd (true≢false (sym is ∙ apart))
      | inr h ↦ h
    ] in
    let g = both (list_all good s.rules) _ rest in
    let o = both (list_all (supplies s.rules) options) _ g.1 in
    go (name_of s.name) refl g.0 o.0 o.1
  where
    go : (n : Option Name) → name_of s.name ≡ n → list_all good s.rules ≡ true → list_all (supplies s.rules) options ≡ true → option_map_or (λ n. list_all (supplies s.rules) (own n)) n false ≡ true
        → IsSupplied s.name (rows_after s.rules [] stop.1)
    go None is all a b = absurd (true≢false (sym b))
    go (Some n) is all a b = (n, is, all_given s stop.1 options all a none, all_given s stop.1 (own n) all b none)

module _ (a : App) (h : list_all is_sound a.subs ≡ true) (name : Text) (values : List Row) where
  entered_is : (stop : Option (Text × List Text)) → entered a stop ≡ Some (name, values) → IsNotHelp stop → entered_fault a stop ≡ [] → IsSupplied name values
  entered_is None is other none = absurd cc
  entered_is (Some p) is other none = go (find (λ s. answers_to p.0 (label_of s)) a.subs) refl is none
    where
      go : (o : Option Shape) → find (λ s. answers_to p.0 (label_of s)) a.subs ≡ o → option_map (λ s. rows_at s p.1) o ≡ Some (name, values) → option_map_or (λ s. level_fault s [] nothing_held p.1 false []) o [] ≡ []
          → IsSupplied name values
      go None found e none = absurd cc
      go (Some s) found e none =
          let f = all_find is_sound (λ s. answers_to p.0 (label_of s)) a.subs s h found in
          let one : s.name ≡ name = ap (λ (o : Option (Text × List Row)). option_map_or (λ p. p.0) o name) e in
          let two : rows_after s.rules [] p.1 ≡ values = ap (λ (o : Option (Text × List Row)). option_map_or (λ p. p.1) o values) e in
          rw (← one, ← two) (entered_has s p f.0 f.1 other none)

-- words that clap takes have a subcommand of the code's, with what it has to have
pub supplied : (words : List Text) (name : Text) (values : List Row) → fault_of dwframe words ≡ [] → subcommand_of dwframe words ≡ Some (name, values) → IsSupplied name values
supplied words name values none is =
    let a = built dwframe in
    let args = argument_words dwframe words in
    let names = names_of a in
    let stop = (walk a.top.rules names nothing_held args).stopped in
    let first = first_none (walk_fault a.top names (walk_from nothing_held) args) _ none in
    let later = then_none (walk_fault a.top names (walk_from nothing_held) args) _ none in
    entered_is a sound name values stop is (walk_names a.top helps names args (walk_from nothing_held) first tt) (first_none (entered_fault a stop) _ later)
