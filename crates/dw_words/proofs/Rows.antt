-- Where clap finds no fault in the words of a subcommand, each option and operand that it has to have is there, with a text.
use Rattle.dw_words.proofs.Words.{◌≡◌, ◌∙◌, ◌==◌, ◌&&◌, ◌||◌, ℕ, Bool, true, false, not, zero, suc, cond, nat_lt, List, [], ◌∷◌, ◌++◌, length, drop, Option, Some, None, is_some, codes, refl, sym, ap, arith, true≢false, ◌⊎◌, inl, inr}
use Rattle.dw_words.proofs.Words.{slice_get, find, fold, option_and_then, encode_utf8, list_all, list_any, option_map_or, bytes_eq, chars, ne_eqb, bytes_eq-Decides, both, long_of, short_of, Kinds, check_kinds, or_else, range_kinds, Held}
use Rattle.dw_words.proofs.Words.{Names, Outcome, Row, Rule, Step, Text, Waiting, Walk, action_of, after_flag, after_step, arg_by_id, arg_by_index, arg_by_long, arg_by_short, at_row, attached_value, bundle, bundle_met, bundle_step}
use Rattle.dw_words.proofs.Words.{default_rows, done, finished, flag_met, has_row, is_pending, long_met, long_or_other, more_values, most_values, nothing_held, option_met, option_word, plain_word, positional_held, reacted, reading_by}
use Rattle.dw_words.proofs.Words.{rows_after, settled, settled_rows, short_met, short_or_plain, subcommand_met, subcommand_or_other, takes_several, takes_values, to_positional, trailing, used, used_as, used_by_id, values_or_missing}
use Rattle.dw_words.proofs.Words.{walk, walk_from, walked, walked_from, with_default, with_values, without, word_met, Shape, defaults_fault, bundle_fault, bundle_step_fault, flag_word_fault, flags_fault, level_fault, long_fault}
use Rattle.dw_words.proofs.Words.{option_fault, other_fault, positional_fault, stray_fault, react_fault, settle_fault, short_fault, step_fault, turn_fault, use_fault, walk_fault, word_fault, Given, HasText, fits}
use Rattle.clap.specs.{Facts.{explicit_source, unwrap_or_range}, Takes.is_given, declared.builder.action.ArgAction.ArgAction, declared.builder.value_parser.Reading.Reading, declared.parser.matches.ValueSource.ValueSource}
use Rattle.clap.specs.Walk as steps
use Rattle.clap.specs.declared.builder.action.ArgAction.TheVariants as action
use Rattle.clap.specs.declared.error.kind.ErrorKind.TheVariants as kinds
use Rattle.clap.specs.declared.parser.matches.ValueSource.TheVariants as sources

-- ---- rows: each has a first text, and that of a flag is one of clap's

abbrev starts : Text → List Text → Bool
starts id values = option_map_or (fits id) (slice_get values 0) false

abbrev has_value : Row → Bool
has_value r = starts r.id r.values

abbrev Full : List Row → Type 0
Full rows = list_all has_value rows ≡ true

module _ {X : Type 0} (p : X → Bool) where
  all_both : (x : X) (xs : List X) → p x ≡ true → list_all p xs ≡ true → list_all p (x ∷ xs) ≡ true
  all_both x xs h t = rw (h, t) refl

  all_join : (xs ys : List X) → list_all p xs ≡ true → list_all p ys ≡ true → list_all p (xs ++ ys) ≡ true
  all_join [] ys h k = k
  all_join (x ∷ xs) ys h k =
      let b = both (p x) (list_all p xs) h in
      all_both x (xs ++ ys) b.0 (all_join xs ys b.1 k)

  pub all_find : (q : X → Bool) (xs : List X) (x : X) → list_all p xs ≡ true → find q xs ≡ Some x → (p x ≡ true) × (q x ≡ true)
  all_find q [] x h e = absurd cc
  all_find q (y ∷ ys) x h e = go (q y) refl e (all_find q ys x (both (p y) (list_all p ys) h).1)
    where
      go : (t : Bool) → q y ≡ t → cond t (Some y) (find q ys) ≡ Some x → (find q ys ≡ Some x → (p x ≡ true) × (q x ≡ true)) → (p x ≡ true) × (q x ≡ true)
      go true t e later =
          let same : y ≡ x = cc in
          (ap p (sym same) ∙ (both (p y) (list_all p ys) h).0, ap q (sym same) ∙ t)
      go false t e later = later e

module _ (id : Text) (change : Row → List Row) (missing : List Row) (changed : (r : Row) → has_value r ≡ true → Full (change r)) (added : Full missing) where
  at_row_full : (rows : List Row) → Full rows → Full (at_row id change missing rows)
  at_row_full [] h = added
  at_row_full (r ∷ rs) h =
      let b = both (has_value r) (list_all has_value rs) h in
      go (bytes_eq r.id id) b.0 b.1 (at_row_full rs b.1)
    where
      go : (t : Bool) → has_value r ≡ true → Full rs → Full (at_row id change missing rs) → Full (cond t (change r ++ rs) (r ∷ at_row id change missing rs))
      go true here rest later = all_join has_value (change r) rs (changed r here) rest
      go false here rest later = all_both has_value r (at_row id change missing rs) here later

starts_more : (id : Text) (values more : List Text) → starts id values ≡ true → starts id (values ++ more) ≡ true
starts_more id [] more h = absurd (true≢false (sym h))
starts_more id (v ∷ vs) more h = h

more_full : (s : ValueSource) (values : List Text) (r : Row) → has_value r ≡ true → Full (more_values s values r)
more_full s values r h = rw (starts_more r.id r.values values h) refl

with_values_full : (id : Text) (how : Reading) (s : ValueSource) (values : List Text) (rows : List Row) → starts id values ≡ true → Full rows → Full (with_values id how s values rows)
with_values_full id how s values rows h = at_row_full id (more_values s values) _ (more_full s values) (rw h refl) rows

without_full : (id : Text) (rows : List Row) → Full rows → Full (without id rows)
without_full id rows = at_row_full id (λ _. []) [] (λ r h. refl) refl rows

-- ---- one use of an argument

pub first_none : (a b : Kinds) → or_else a b ≡ [] → a ≡ []
first_none [] b e = refl
first_none (k ∷ ks) b e = e

pub then_none : (a b : Kinds) → or_else a b ≡ [] → b ≡ []
then_none [] b e = e
then_none (k ∷ ks) b e = absurd cc

-- each use of the argument leaves a value
abbrev good_by : ArgAction → Rule → Bool
good_by action.Set a = nat_lt 0 (unwrap_or_range a.range).start_inclusive && not (bytes_eq a.id (codes "frame"))
good_by action.SetTrue a = (unwrap_or_range a.range).start_inclusive == 0 && (most_values a == 0 && starts a.id a.missing)
good_by action.SetFalse a = false
good_by action.Append a = nat_lt 0 (unwrap_or_range a.range).start_inclusive && not (bytes_eq a.id (codes "frame"))
good_by action.Count a = false
good_by _ a = true

abbrev default_good : Rule → Bool
default_good a = option_map_or (fits a.id) (slice_get a.defaults 0) true

abbrev pub good : Rule → Bool
good a = good_by (action_of a) a && default_good a

some_wanted : (least most : ℕ) → nat_lt 0 least ≡ true → range_kinds least most 0 ≡ [] → ⊥
some_wanted least most some none =
    let bad : kinds.InvalidValue ∷ [] ≡ [] = rw some at none in
    absurd cc

none_wanted : (least most n : ℕ) → (least == 0) ≡ true → (most == 0) ≡ true → range_kinds least most (suc n) ≡ [] → ⊥
none_wanted (suc k) most n a b none = true≢false (sym a ∙ ne_eqb (suc k) 0 (λ e. omega (arith, e)))
none_wanted zero (suc k) n a b none = true≢false (sym b ∙ ne_eqb (suc k) 0 (λ e. omega (arith, e)))
none_wanted zero zero n a b none =
    let some : (0 == suc n) ≡ false = ne_eqb 0 (suc n) (λ e. omega (arith, e)) in
    let bad : kinds.WrongNumberOfValues ∷ [] ≡ [] = rw some at none in
    absurd cc

set_starts : (a : Rule) (values : List Text) → good_by action.Set a ≡ true
    → range_kinds (unwrap_or_range a.range).start_inclusive (most_values a) (length values) ≡ [] → starts a.id (values_or_missing a values) ≡ true
set_starts a [] g none = absurd (some_wanted _ (most_values a) (both (nat_lt 0 (unwrap_or_range a.range).start_inclusive) _ g).0 none)
set_starts a (v ∷ vs) g none =
    let b = both (nat_lt 0 (unwrap_or_range a.range).start_inclusive) _ g in
    rw b.1 refl

flag_starts : (a : Rule) (values : List Text) → good_by action.SetTrue a ≡ true
    → range_kinds (unwrap_or_range a.range).start_inclusive (most_values a) (length values) ≡ [] → starts a.id (values_or_missing a values) ≡ true
flag_starts a [] g none = (both (most_values a == 0) _ (both ((unwrap_or_range a.range).start_inclusive == 0) _ g).1).1
flag_starts a (v ∷ vs) g none =
    let b = both ((unwrap_or_range a.range).start_inclusive == 0) _ g in
    absurd (none_wanted _ (most_values a) (length vs) b.0 (both (most_values a == 0) _ b.1).0 none)

use_full : (again : Bool) (a : Rule) (values : List Text) (rows : List Row) → good a ≡ true → use_fault again a values rows ≡ [] → Full rows → Full (used a values rows)
use_full again a values rows g none full = go (action_of a) (both (good_by (action_of a) a) _ g).0
  where
    go : (x : ArgAction) → good_by x a ≡ true → Full (used_as x a.id (reading_by a) (values_or_missing a values) rows)
    go action.Set h = with_values_full a.id (reading_by a) _ _ _ (set_starts a values h (first_none _ _ none)) (without_full a.id rows full)
    go action.SetTrue h = with_values_full a.id (reading_by a) _ _ _ (flag_starts a values h (first_none _ _ none)) (without_full a.id rows full)
    go action.SetFalse h = absurd (true≢false (sym h))
    go action.Append h = with_values_full a.id (reading_by a) _ _ _ (set_starts a values h (first_none _ _ none)) full
    go action.Count h = absurd (true≢false (sym h))
    go other h = full

-- ---- the walk

module _ (c : List Rule) (all : list_all good c ≡ true) (again : Bool) where
  settled_full : (h : Held) → settle_fault c again h ≡ [] → Full h.rows → Full (settled c h).rows
  settled_full h none full = go h.pending none
    where
      by : (p : Text × List Text) (o : Option Rule) → arg_by_id c p.0 ≡ o → option_map_or (λ a. use_fault again a p.1 h.rows) o [] ≡ [] → Full (used_by_id o p.1 h.rows)
      by p None is e = full
      by p (Some a) is e = use_full again a p.1 h.rows (all_find good (λ a. bytes_eq a.id p.0) c a all is).0 e full

      go : (o : Option (Text × List Text)) → option_map_or (λ p. option_map_or (λ a. use_fault again a p.1 h.rows) (arg_by_id c p.0) []) o [] ≡ [] → Full (settled_rows c o h.rows)
      go None e = full
      go (Some p) e = by p (arg_by_id c p.0) refl e

  reacted_full : (a : Rule) (values : List Text) (h : Held) → good a ≡ true → react_fault c again a values h ≡ [] → Full h.rows → Full (reacted c a values h).rows
  reacted_full a values h g none full = use_full again a values (settled c h).rows g (then_none (settle_fault c again h) _ none) (settled_full h (first_none (settle_fault c again h) _ none) full)

  option_full : (a : Rule) (v : Option Text) (h : Held) → good a ≡ true → option_fault c again a v h ≡ [] → Full h.rows → Full (option_met c a v h).0.rows
  option_full a (Some v) h g none full = reacted_full a (v ∷ []) h g none full
  option_full a None h g none full = settled_full h none full

  long_full : (o : Option Rule) (v : Option Text) (h : Held) → ((a : Rule) → o ≡ Some a → good a ≡ true) → long_fault c again o v h ≡ [] → Full h.rows → Full (long_met c o v h).0.rows
  long_full None v h ok none full = full
  long_full (Some a) v h ok none full = go (takes_values a) v none
    where
      go : (t : Bool) (v : Option Text) → cond {A = Kinds} t (option_fault c again a v h) (cond {A = Kinds} (is_some v) (kinds.TooManyValues ∷ []) (react_fault c again a [] h)) ≡ []
          → Full (cond {A = Held × Outcome} t (option_met c a v h) (flag_met c a v h)).0.rows
      go true v e = option_full a v h (ok a refl) e full
      go false None e = reacted_full a [] h (ok a refl) e full
      go false (Some v) e = full

  short_full : (o : Option Rule) (rest : Text) (h : Held) (later : Held → Kinds) (met : Held → Held × Outcome) → ((a : Rule) → o ≡ Some a → good a ≡ true)
      → ((k : Held) → later k ≡ [] → Full k.rows → Full (met k).0.rows) → short_fault c again o rest h later ≡ [] → Full h.rows → Full (short_met c o rest h met).0.rows
  short_full None rest h later met ok after none full = full
  short_full (Some a) rest h later met ok after none full = go (takes_values a) none
    where
      go : (t : Bool) → cond {A = Kinds} t (option_fault c again a (attached_value rest) h) (or_else (react_fault c again a [] h) (later (reacted c a [] h))) ≡ []
          → Full (cond {A = Held × Outcome} t (option_met c a (attached_value rest) h) (met (reacted c a [] h))).0.rows
      go true e = option_full a (attached_value rest) h (ok a refl) e full
      go false e = after (reacted c a [] h) (then_none (react_fault c again a [] h) _ e) (reacted_full a [] h (ok a refl) (first_none (react_fault c again a [] h) _ e) full)

  bundle_full : (k : ℕ) (flags : Text) (skip : ℕ) (so_far : Outcome) (h : Held) → flags_fault c again k flags skip h ≡ [] → Full h.rows → Full (bundle_met c k flags skip so_far h).0.rows
  unfolding bundle_met flags_fault
  bundle_full zero flags skip so_far h none full = full
  bundle_full (suc k) flags skip so_far h none full = go (slice_get (chars flags) 0) skip none (λ flags skip so_far h. bundle_full k flags skip so_far h)
    where
      go : (x : Option ℕ) (skip : ℕ) → bundle_step_fault c again x flags skip h (flags_fault c again k) ≡ []
          → ((flags : Text) (skip : ℕ) (so_far : Outcome) (h : Held) → flags_fault c again k flags skip h ≡ [] → Full h.rows → Full (bundle_met c k flags skip so_far h).0.rows)
          → Full (bundle_step c x flags skip so_far h (bundle_met c k)).0.rows
      go None skip e later = full
      go (Some x) zero e later =
          let rest = drop (length (encode_utf8 x)) flags in
          short_full (arg_by_short c x) rest h (flags_fault c again k rest 0) (bundle_met c k rest 0 done) (λ a is. (all_find good _ c a all is).0) (λ g. later rest 0 done g) e full
      go (Some x) (suc skip) e later = later (drop (length (encode_utf8 x)) flags) skip so_far h e full

  plain_full : (waiting : Waiting) (word : Text) (h : Held) → Full h.rows → Full (plain_word c waiting word h).0.rows
  plain_full (steps.option id) word h full = go (arg_by_id c id)
    where
      go : (o : Option Rule) → Full (option_word o id word h).0.rows
      go None = full
      go (Some a) = full
  plain_full other word h full = full

  after_full : (waiting : Waiting) (word : Text) (h : Held) (o : Outcome) → Full h.rows → Full (after_flag c waiting word h o).0.rows
  after_full waiting word h steps.plain full = plain_full waiting word h full
  after_full waiting word h steps.refused full = plain_full waiting word h full
  after_full waiting word h other full = full

  short_word_full : (waiting : Waiting) (word : Text) (o : Option Text) (h : Held) → option_map_or (λ flags. bundle_fault c again flags h) o [] ≡ [] → Full h.rows
      → Full (short_or_plain c waiting word o h).0.rows
  short_word_full waiting word None h none full = plain_full waiting word h full
  short_word_full waiting word (Some flags) h none full = after_full waiting word (bundle c flags h).0 (bundle c flags h).1 (bundle_full (length flags) flags h.skip steps.plain (record h { skip = 0 }) none full)

  flag_word_full : (waiting : Waiting) (word : Text) (o : Option (Text × Option Text)) (h : Held) → flag_word_fault c again o word h ≡ [] → Full h.rows
      → Full (long_or_other c waiting word o h).0.rows
  flag_word_full waiting word None h none full = short_word_full waiting word (short_of word) h none full
  flag_word_full waiting word (Some p) h none full =
      let met = long_met c (arg_by_long c p.0) p.1 h in
      after_full waiting word met.0 met.1 (long_full (arg_by_long c p.0) p.1 h (λ a is. (all_find good _ c a all is).0) none full)

  positional_full : (a : Rule) (word : Text) (h : Held) → positional_fault c again a h ≡ [] → Full h.rows → Full (positional_held c a word h).rows
  positional_full a word h none full = go (is_pending a h.pending && takes_several a) none
    where
      go : (t : Bool) → cond {A = Kinds} t [] (settle_fault c again h) ≡ [] → Full (cond t h (settled c h)).rows
      go true e = full
      go false e = settled_full h e full

module _ (s : Shape) (all : list_all good s.rules ≡ true) (names : Names) where
  word_full : (t : Bool) (waiting : Waiting) (position : ℕ) (word : Text) (h : Held) → word_fault s names t waiting word h ≡ [] → Full h.rows
      → Full (word_met s.rules names t waiting position word h).0.rows
  word_full true waiting position word h none full = full
  word_full false waiting position word h none full = go (subcommand_met names waiting word) none
    where
      other : (t : Bool) → cond {A = Kinds} t [] (flag_word_fault s.rules s.args_override_self (long_of word) word h) ≡ []
          → Full (cond {A = Held × Step} t (h, trailing position) (long_or_other s.rules waiting word (long_of word) h)).0.rows
      other true e = full
      other false e = flag_word_full s.rules all s.args_override_self waiting word (long_of word) h e full

      go : (o : Option Text) → other_fault s o word h ≡ [] → Full (subcommand_or_other s.rules o waiting position word h).0.rows
      go (Some name) e = full
      go None e = other (bytes_eq word (45 ∷ 45 ∷ [])) e

  step_full : (w : Walk) (word : Text) (h : Held) (step : Step) → step_fault s w.position h step ≡ [] → Full h.rows → Full (after_step s.rules word w h step).held.rows
  step_full w word h steps.value none full = go (arg_by_index s.rules w.position) none
    where
      go : (o : Option Rule) → option_map_or (λ a. positional_fault s.rules s.args_override_self a h) o (stray_fault s) ≡ [] → Full (to_positional s.rules o word w h).held.rows
      go None e = full
      go (Some a) e = positional_full s.rules all s.args_override_self a word h e full
  step_full w word h other none full = full

  turn_full : (w : Walk) (word : Text) → turn_fault s names w word ≡ [] → Full w.held.rows → Full (walked s.rules names w word).held.rows
  unfolding walked
  turn_full w word none full = go w.stopped none
    where
      go : (o : Option (Text × List Text))
          → cond {A = Kinds} (is_some o) [] (or_else (word_fault s names w.is_trailing w.waiting word w.held) (step_fault s w.position (word_met s.rules names w.is_trailing w.waiting w.position word w.held).0 (word_met s.rules names w.is_trailing w.waiting w.position word w.held).1)) ≡ []
          → Full (walked_from s.rules names o w word).held.rows
      go (Some p) e = full
      go None e =
          let met = word_met s.rules names w.is_trailing w.waiting w.position word w.held in
          step_full w word met.0 met.1 (then_none (word_fault s names w.is_trailing w.waiting word w.held) _ e)
          (word_full w.is_trailing w.waiting w.position word w.held (first_none (word_fault s names w.is_trailing w.waiting word w.held) _ e) full)

  walk_full : (words : List Text) (w : Walk) → walk_fault s names w words ≡ [] → Full w.held.rows → Full (fold (walked s.rules names) w words).held.rows
  unfolding walk_fault
  walk_full [] w none full = full
  walk_full (word ∷ rest) w none full = walk_full rest (walked s.rules names w word) (then_none (turn_fault s names w word) _ none) (turn_full w word (first_none (turn_fault s names w word) _ none) full)

-- ---- what comes after the walk

default_full : (a : Rule) (rows : List Row) → good a ≡ true → Full rows → Full (with_default rows a)
default_full a rows g full = go (has_row a.id rows) a.defaults (both (good_by (action_of a) a) _ g).1
  where
    go : (t : Bool) (values : List Text) → option_map_or (fits a.id) (slice_get values 0) true ≡ true → Full (cond t rows (default_rows a.id (reading_by a) values rows))
    go true values h = full
    go false [] h = full
    go false (v ∷ vs) h = with_values_full a.id (reading_by a) sources.DefaultValue (v ∷ vs) rows h full

defaults_full : (c : List Rule) (rows : List Row) → list_all good c ≡ true → Full rows → Full (fold with_default rows c)
defaults_full [] rows all full = full
defaults_full (a ∷ rest) rows all full =
    let b = both (good a) (list_all good rest) all in
    defaults_full rest (with_default rows a) b.1 (default_full a rows b.0 full)

same_text : (id : Text) → bytes_eq id id ≡ true
same_text id = (bytes_eq-Decides id id).1 refl

or_true : (a : Bool) → (a || true) ≡ true
or_true true = refl
or_true false = refl

or_later : (a b : Bool) → b ≡ true → (a || b) ≡ true
or_later a b h = rw h (or_true a)

pub either : (a b : Bool) → (a || b) ≡ true → (a ≡ true) ⊎ (b ≡ true)
either true b h = inl refl
either false b h = inr h

module _ (id : Text) (how : Reading) (source : ValueSource) (values : List Text) where
  row_gets : (rows : List Row) → has_row id (with_values id how source values rows) ≡ true
  row_gets [] = rw (same_text id) refl
  row_gets (r ∷ rs) = go (bytes_eq r.id id) refl (row_gets rs)
    where
      go : (t : Bool) → bytes_eq r.id id ≡ t → has_row id (with_values id how source values rs) ≡ true
          → has_row id (cond {A = List Row} t (more_values source values r ++ rs) (r ∷ with_values id how source values rs)) ≡ true
      go true is later = rw is refl
      go false is later = or_later (bytes_eq r.id id) _ later

  row_stays : (other : Text) (rows : List Row) → has_row other rows ≡ true → has_row other (with_values id how source values rows) ≡ true
  row_stays other [] h = absurd (true≢false (sym h))
  row_stays other (r ∷ rs) h = go (bytes_eq r.id id) (either (bytes_eq r.id other) (has_row other rs) h) (row_stays other rs)
    where
      go : (t : Bool) → (bytes_eq r.id other ≡ true) ⊎ (has_row other rs ≡ true) → (has_row other rs ≡ true → has_row other (with_values id how source values rs) ≡ true)
          → has_row other (cond {A = List Row} t (more_values source values r ++ rs) (r ∷ with_values id how source values rs)) ≡ true
      go true (inl here) later = rw here refl
      go true (inr there) later = or_later (bytes_eq r.id other) _ there
      go false (inl here) later = rw here refl
      go false (inr there) later = or_later (bytes_eq r.id other) _ (later there)

default_stays : (id : Text) (a : Rule) (rows : List Row) → has_row id rows ≡ true → has_row id (with_default rows a) ≡ true
default_stays id a rows h = go (has_row a.id rows) a.defaults
  where
    go : (t : Bool) (values : List Text) → has_row id (cond t rows (default_rows a.id (reading_by a) values rows)) ≡ true
    go true values = h
    go false [] = h
    go false (v ∷ vs) = row_stays a.id (reading_by a) sources.DefaultValue (v ∷ vs) id rows h

defaults_stay : (id : Text) (c : List Rule) (rows : List Row) → has_row id rows ≡ true → has_row id (fold with_default rows c) ≡ true
defaults_stay id [] rows h = h
defaults_stay id (a ∷ rest) rows h = defaults_stay id rest (with_default rows a) (default_stays id a rows h)

-- an argument with a default
abbrev has_default : Text → Rule → Bool
has_default id a = bytes_eq a.id id && is_some (slice_get a.defaults 0)

default_comes : (id : Text) (a : Rule) (rows : List Row) → has_default id a ≡ true → has_row id (with_default rows a) ≡ true
default_comes id a rows h =
    let b = both (bytes_eq a.id id) _ h in
    let same : a.id ≡ id = (bytes_eq-Decides a.id id).0 b.0 in
    rw (← same) (go (has_row a.id rows) refl a.defaults b.1)
  where
    go : (t : Bool) → has_row a.id rows ≡ t → (values : List Text) → is_some (slice_get values 0) ≡ true → has_row a.id (cond t rows (default_rows a.id (reading_by a) values rows)) ≡ true
    go true is values some = is
    go false is [] some = absurd (true≢false (sym some))
    go false is (v ∷ vs) some = row_gets a.id (reading_by a) sources.DefaultValue (v ∷ vs) rows

defaults_come : (id : Text) (c : List Rule) (rows : List Row) → list_any (has_default id) c ≡ true → has_row id (fold with_default rows c) ≡ true
defaults_come id [] rows h = absurd (true≢false (sym h))
defaults_come id (a ∷ rest) rows h = go (either (has_default id a) (list_any (has_default id) rest) h) (defaults_come id rest (with_default rows a))
  where
    go : (has_default id a ≡ true) ⊎ (list_any (has_default id) rest ≡ true) → (list_any (has_default id) rest ≡ true → has_row id (fold with_default (with_default rows a) rest) ≡ true)
        → has_row id (fold with_default (with_default rows a) rest) ≡ true
    go (inl here) later = defaults_stay id rest (with_default rows a) (default_comes id a rows here)
    go (inr there) later = later there

given_row : (id : Text) (rows : List Row) → is_given id rows ≡ true → has_row id rows ≡ true
given_row id [] h = absurd (true≢false (sym h))
given_row id (r ∷ rs) h = go (bytes_eq r.id id) h (given_row id rs)
  where
    go : (t : Bool) → option_map_or (λ (r : Row). explicit_source r.source) (cond t (Some r) (find (λ r. bytes_eq r.id id) rs)) false ≡ true → (is_given id rs ≡ true → has_row id rs ≡ true) → (t || has_row id rs) ≡ true
    go true h later = refl
    go false h later = later h

abbrev is_required : Text → Rule → Bool
is_required id a = a.required && bytes_eq a.id id

abbrev is_wanting : List Row → Rule → Bool
is_wanting rows a = a.required && not (is_given a.id rows)

required_comes : (id : Text) (rows : List Row) (c : List Rule) → list_any (is_wanting rows) c ≡ false → list_any (is_required id) c ≡ true → has_row id rows ≡ true
required_comes id rows [] none h = absurd (true≢false (sym h))
required_comes id rows (a ∷ rest) none h = go (either (is_required id a) (list_any (is_required id) rest) h) (is_wanting rows a) refl none (required_comes id rows rest)
  where
    given : (g : Bool) → not g ≡ false → g ≡ true
    given true e = refl
    given false e = absurd (true≢false e)

    go : (is_required id a ≡ true) ⊎ (list_any (is_required id) rest ≡ true) → (t : Bool) → is_wanting rows a ≡ t → (t || list_any (is_wanting rows) rest) ≡ false
        → (list_any (is_wanting rows) rest ≡ false → list_any (is_required id) rest ≡ true → has_row id rows ≡ true) → has_row id rows ≡ true
    go which true is none later = absurd (true≢false none)
    go (inr there) false is none later = later none there
    go (inl here) false is none later =
        let b = both a.required _ here in
        let same : a.id ≡ id = (bytes_eq-Decides a.id id).0 b.1 in
        let lacks : not (is_given a.id rows) ≡ false = rw b.0 at is in
        rw (← same) (given_row a.id rows (given (is_given a.id rows) lacks))

row_text_of : (id : Text) (rows : List Row) → has_row id rows ≡ true → Full rows → HasText id rows
row_text_of id [] h full = absurd (true≢false (sym h))
row_text_of id (r ∷ rs) h full = go (bytes_eq r.id id) refl h (row_text_of id rs)
  where
    first : (o : Option Text) → bytes_eq r.id id ≡ true → option_map_or (fits r.id) o false ≡ true → (text : Text) × (o ≡ Some text) × (fits id text ≡ true)
    first None is h = absurd (true≢false (sym h))
    first (Some text) is h = (text, refl, rw (← (bytes_eq-Decides r.id id).0 is) h)

    go : (t : Bool) → bytes_eq r.id id ≡ t → (t || has_row id rs) ≡ true → (has_row id rs ≡ true → Full rs → HasText id rs)
        → (text : Text) × (option_and_then (λ (r : Row). slice_get r.values 0) (cond t (Some r) (find (λ r. bytes_eq r.id id) rs)) ≡ Some text) × (fits id text ≡ true)
    go true is h later = first (slice_get r.values 0) is (both (has_value r) (list_all has_value rs) full).0
    go false is h later = later h (both (has_value r) (list_all has_value rs) full).1

-- ---- a level of the parse

check_asks : (help sub arg : Bool) → check_kinds help sub arg ≡ [] → arg ≡ false
check_asks true sub arg e = absurd cc
check_asks false true arg e = absurd cc
check_asks false false true e = absurd cc
check_asks false false false e = refl

wanting : (negates b : Bool) → (not (negates && false) && b) ≡ false → b ≡ false
wanting true b e = e
wanting false b e = e

-- an argument that comes with each list of words that is taken
abbrev pub supplies : List Rule → Text → Bool
supplies c id = list_any (is_required id) c || list_any (has_default id) c

leaf_has : (s : Shape) (words : List Text) (id : Text) → list_all good s.rules ≡ true → supplies s.rules id ≡ true → level_fault s [] nothing_held words false [] ≡ []
    → HasText id (rows_after s.rules [] words)
leaf_has s words id all comes none =
    let end = (walk s.rules [] nothing_held words).held in
    let later = then_none (walk_fault s [] (walk_from nothing_held) words) _ none in
    let walked = walk_full s all [] words (walk_from nothing_held) (first_none (walk_fault s [] (walk_from nothing_held) words) _ none) refl in
    let at_end = settled_full s.rules all s.args_override_self end (first_none (settle_fault s.rules s.args_override_self end) _ later) walked in
    let full = defaults_full s.rules (settled s.rules end).rows all at_end in
    let checked = then_none (defaults_fault (settled s.rules end).rows s.rules) _ (then_none (settle_fault s.rules s.args_override_self end) _ later) in
    let none_wanting = wanting s.subcommand_negates_reqs _ (check_asks _ _ _ checked) in
    let row : has_row id (finished s.rules end) ≡ true = elim (either (list_any (is_required id) s.rules) _ comes) [
      | inl h ↦ required_comes id (finished s.rules end) s.rules none_wanting h
      | inr h ↦ defaults_come id s.rules (settled s.rules end).rows h
    ] in
    row_text_of id (finished s.rules end) row full

pub all_given : (s : Shape) (words : List Text) (ids : List Text) → list_all good s.rules ≡ true → list_all (supplies s.rules) ids ≡ true → level_fault s [] nothing_held words false [] ≡ []
    → Given ids (rows_after s.rules [] words)
all_given s words [] all come none = tt
all_given s words (id ∷ ids) all come none =
    let b = both (supplies s.rules id) _ come in
    (leaf_has s words id all b.0 none, all_given s words ids all b.1 none)
