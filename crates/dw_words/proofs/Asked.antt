-- Words that begin with a subcommand's name are read alike by the command with that subcommand alone.
use Rattle.clap.proofs.FaultLemmas.{stopped_fault}
use Rattle.dw_words.specs.declared.request.Name.TheVariants as names
use Rattle.dw_words.proofs.Words.{◌≡◌, ◌∙◌, true, List, [], ◌∷◌, Option, Some, None, refl, ap, ap₂, sym, find, fold, clap_on_literals, walk_stopped, built_fault, fault_of, is_simple_and_free, turn_fault, walk_fault, Kinds, or_else}
use Rattle.dw_words.proofs.{Words.{App, Shape, built, entered, is_simple, label_of, names_of, subcommand_of, Text, Walk, answers_to, nothing_held, walk, walk_from, walked, dwframe, asked, asked_by, name_of, text_of, Name}, Jobs.named}

-- ---- where the first word names a subcommand

abbrev start : Walk
start = walk_from nothing_held

abbrev stopped_at : Text → List Text → Walk
stopped_at word rest = record start { stopped = Some (word, rest) }

-- a walk over the word stops there, without a fault
abbrev Stops : App → Text → Type 0
Stops a word = (walked a.top.rules (names_of a) start word ≡ stopped_at word []) × (turn_fault a.top (names_of a) start word ≡ [])

abbrev found : App → Text → Option Shape
found a word = find (λ s. answers_to word (label_of s)) a.subs

module _ (a : App) (word : Text) (stops : Stops a word) (rest : List Text) where
  walk_is : walk a.top.rules (names_of a) nothing_held (word ∷ rest) ≡ stopped_at word rest
  walk_is = ap (λ (w : Walk). fold (walked a.top.rules (names_of a)) w rest) stops.0 ∙ sym (walk_stopped a.top.rules (names_of a) start word [] rest)

  passes : walk_fault a.top (names_of a) start (word ∷ rest) ≡ []
  unfolding walk_fault
  passes = ap₂ (λ (k : Kinds) (w : Walk). or_else k (walk_fault a.top (names_of a) w rest)) stops.1 stops.0 ∙ stopped_fault a.top (names_of a) start (word, []) rest

-- two commands that stop there with the same subcommand
module _ (a b : App) (word : Text) (h : Stops a word) (k : Stops b word) (sub : found a word ≡ found b word) (rest : List Text) where
  fault_same : a.top ≡ b.top → built_fault a nothing_held (word ∷ rest) ≡ built_fault b nothing_held (word ∷ rest)
  fault_same top = rw (passes a word h rest, passes b word k rest, walk_is a word h rest, walk_is b word k rest, top, sub) refl

  subcommand_same : entered a (walk a.top.rules (names_of a) nothing_held (word ∷ rest)).stopped ≡ entered b (walk b.top.rules (names_of b) nothing_held (word ∷ rest)).stopped
  subcommand_same = rw (walk_is a word h rest, walk_is b word k rest, sub) refl

-- ---- the command with one subcommand, and the whole command

-- both stop at the word with the same subcommand, and the first is a simple command
abbrev Alike : App → App → Text → Type 0
Alike a b word = Stops (built a) word × Stops (built b) word × (found (built a) word ≡ found (built b) word) × ((built a).top ≡ (built b).top) × (is_simple a ≡ true) × (is_simple_and_free a ≡ true)

alike : (n : Name) → Alike (asked (Some n)) dwframe (text_of n)
unfolding clap_on_literals
alike names.At = ((refl, refl), (refl, refl), refl, refl, refl, refl)
alike other = ((refl, refl), (refl, refl), refl, refl, refl, refl)

-- a simple command, which wants a subcommand, reads words as the whole one does
abbrev pub Reads : App → List Text → Type 0
Reads a words = (is_simple a ≡ true) × (is_simple_and_free a ≡ true) × (a.top.subcommand_required ≡ true) × (fault_of a words ≡ fault_of dwframe words) × (subcommand_of a words ≡ subcommand_of dwframe words)

whole : (words : List Text) → Reads dwframe words
unfolding clap_on_literals
whole words = (refl, refl, refl, refl, refl)

alone : (n : Name) (program : Text) (rest : List Text) → Reads (asked (Some n)) (program ∷ text_of n ∷ rest)
alone n program rest =
    let a = built (asked (Some n)) in
    let b = built dwframe in
    let h = alike n in
    (h.4, h.5, refl, fault_same a b (text_of n) h.0 h.1 h.2 rest h.3, subcommand_same a b (text_of n) h.0 h.1 h.2 rest)

asked_reads : (words : List Text) → Reads (asked (asked_by words)) words
asked_reads [] = whole []
asked_reads (program ∷ []) = whole (program ∷ [])
asked_reads (program ∷ word ∷ rest) = go (name_of word) refl
  where
    go : (o : Option Name) → name_of word ≡ o → Reads (asked o) (program ∷ word ∷ rest)
    go None e = whole (program ∷ word ∷ rest)
    go (Some n) e = rw (named word n e) (alone n program rest)

-- a command that is made for the words
pub reads : (a : App) (words : List Text) → a ≡ asked (asked_by words) → Reads a words
reads a words made = rw made (asked_reads words)
