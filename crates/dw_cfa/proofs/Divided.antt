-- A program that is divided behind some of its instructions: its bytes, and the list of its instructions with their places.
use Rattle.dw_cfa.proofs.Words.{◌≡◌, ℕ, ◌+◌, ◌<◌, List, [], ◌∷◌, ◌++◌, length, Option, None, Some, Ok, Err, refl, sym, ap, ◌∙◌, subst, append_assoc, arith, length-append, append-nil, AreBytes, Factors, Input, Instr, Placed, Read, Refusal}
use Rattle.dw_cfa.proofs.Words.{Target, done, taken_bytes, InstrSpells, ProgramSpells, instr_at, Placing, place_of, placed}
use Rattle.dw_op.specs.Inner.Walks.{put}
use Rattle.dw_cfa.proofs.{Lent.InstrLaws.instr_found, InstrAgain.instr_again, Placings.{placed_end, placed_step, placed_stuck, reads, some_spelled}, Lent.RowsAt.instrs_of}

abbrev pub input : ℕ → List ℕ → Target → Input
input at bytes t = record { at = at; bytes = bytes; target = t }

abbrev pub placing : List Placed → Option Refusal → Placing
placing items fault = record { items = items; fault = fault }

-- ---- what is placed first

-- an instruction, and what is placed behind it; or nothing is left; or what cannot be read
abbrev pub Begins : Factors → Input → List Placed → Option Refusal → Type 0
Begins f i [] None = i.bytes ≡ []
Begins f i [] (Some r) = (0 < length i.bytes) × (instr_at f i ≡ Err r)
Begins f i (item ∷ items) fault = (next : Input) × (instr_at f i ≡ done (item.instr, next)) × (item.at ≡ i.at) × (placed f next ≡ placing items fault)

none_begins : (f : Factors) (i : Input) (items : List Placed) (fault : Option Refusal) → i.bytes ≡ [] → [] ≡ items → None ≡ fault → Begins f i items fault
none_begins f i [] None is e last = is
none_begins f i items fault is e last = absurd cc

read_begins : (f : Factors) (i : Input) (r : Read Instr) (items : List Placed) (fault : Option Refusal) → AreBytes i.bytes → 0 < length i.bytes → instr_at f i ≡ r → placed f i ≡ placing items fault → Begins f i items fault
read_begins f i (Ok x) [] fault h some is e = let no = ap (λ (l : Placing). l.items) (sym (placed_step f i x h some is) ∙ e) in absurd cc
read_begins f i (Ok x) (item ∷ items) fault h some is e =
    let all : put (place_of i.at x.0) (placed f x.1) ≡ placing (item ∷ items) fault = sym (placed_step f i x h some is) ∙ e in
    let are = ap (λ (l : Placing). l.items) all in
    let same : place_of i.at x.0 ≡ item = cc in
    let rest : (placed f x.1).items ≡ items = cc in
    (x.1, is ∙ ap (λ (p : Placed). done (p.instr, x.1)) same, sym (ap (λ (p : Placed). p.at) same), ap (λ (l : List Placed). placing l (placed f x.1).fault) rest ∙ ap (placing items) (ap (λ (l : Placing). l.fault) all))
read_begins f i (Err r) [] (Some q) h some is e = let last = ap (λ (l : Placing). l.fault) (sym (placed_stuck f i r some is) ∙ e) in let one : r ≡ q = cc in (some, is ∙ ap (λ (x : Refusal). Err x) one)
read_begins f i (Err r) items fault h some is e = let all = sym (placed_stuck f i r some is) ∙ e in absurd (cc (ap (λ (l : Placing). l.items) all, ap (λ (l : Placing). l.fault) all))

pub begins : (f : Factors) (i : Input) (items : List Placed) (fault : Option Refusal) → AreBytes i.bytes → placed f i ≡ placing items fault → Begins f i items fault
begins f i items fault h e = of i.bytes refl
  where
    of : (bytes : List ℕ) → i.bytes ≡ bytes → Begins f i items fault
    of [] is = let all = sym (placed_end f i (ap length is)) ∙ e in none_begins f i items fault is (ap (λ (l : Placing). l.items) all) (ap (λ (l : Placing). l.fault) all)
    of (b ∷ bytes) is = read_begins f i (instr_at f i) items fault h (omega (arith, ap length is)) refl e

-- ---- from the list to the bytes

-- behind the first instructions stands what is placed behind them
pub record Divided (f : Factors) (i : Input) (before after : List Placed) (fault : Option Refusal) : Type 0 where
  pub front : List ℕ
  pub rest : List ℕ
  pub whole : i.bytes ≡ front ++ rest
  pub bytes : AreBytes rest
  pub read : ProgramSpells i.target f (instrs_of before) front
  pub left : placed f (input (i.at + length front) rest i.target) ≡ placing after fault

pub divided : (f : Factors) (before after : List Placed) (fault : Option Refusal) (i : Input) → AreBytes i.bytes → placed f i ≡ placing (before ++ after) fault → Divided f i before after fault
divided f [] after fault i h e =
    let at : i.at + 0 ≡ i.at = omega arith in
    record { front = []; rest = i.bytes; whole = refl; bytes = h; read = refl; left = ap (λ (n : ℕ). placed f (input n i.bytes i.target)) at ∙ e }
divided f (p ∷ before) after fault i h e =
    let first = begins f i (p ∷ (before ++ after)) fault h e in
    let next = first.0 in
    let found = instr_found f i next p.instr h first.1 in
    let d = divided f before after fault next (reads f i (p.instr, next) h first.1).bytes first.3 in
    let b = found.0 in
    let at : i.at + length (b ++ d.front) ≡ next.at + length d.front = omega (arith, found.2.at, length-append b d.front) in
    record {
      front = b ++ d.front;
      rest = d.rest;
      whole = found.2.bytes ∙ ap (λ (c : List ℕ). b ++ c) d.whole ∙ sym (append_assoc b d.front d.rest);
      bytes = d.bytes;
      read = record { front = b; back = d.front; first = found.1; second = subst (λ (t : Target). ProgramSpells t f (instrs_of before) d.front) found.2.target d.read; whole = refl };
      left = ap (λ (n : ℕ). placed f (input n d.rest i.target)) at ∙ ap (λ (t : Target). placed f (input (next.at + length d.front) d.rest t)) (sym found.2.target) ∙ d.left;
    }

-- behind all of them, nothing is left, or what cannot be read
pub behind_all : (f : Factors) (i : Input) (fault : Option Refusal) → AreBytes i.bytes → (placed f i).fault ≡ fault → Divided f i (placed f i).items [] fault
behind_all f i fault h e =
    let items = (placed f i).items in
    divided f items [] fault i h (ap (placing items) e ∙ ap (λ (l : List Placed). placing l fault) (sym (append-nil items)))

pub left_behind : (f : Factors) (i : Input) (before after : List Placed) (fault : Option Refusal) (d : Divided f i before after fault) → Begins f (input (i.at + length d.front) d.rest i.target) after fault
left_behind f i before after fault d = begins f (input (i.at + length d.front) d.rest i.target) after fault d.bytes d.left

-- ---- from the bytes to the list

pub placed_again : (f : Factors) (t : Target) (instr : Instr) (b : List ℕ) (at : ℕ) (rest : List ℕ) → InstrSpells t f instr b → AreBytes (b ++ rest)
    → placed f (input at (b ++ rest) t) ≡ put (place_of at instr) (placed f (input (at + length b) rest t))
placed_again f t instr b at rest s h =
    placed_step f (input at (b ++ rest) t) (instr, input (at + length b) rest t) h (omega (arith, some_spelled t f instr b s, length-append b rest)) (instr_again t f instr b s at rest)

pub record Joined (f : Factors) (i : Input) (instrs : List Instr) (behind : Placing) : Type 0 where
  pub before : List Placed
  pub are : instrs_of before ≡ instrs
  pub whole : placed f i ≡ placing (before ++ behind.items) behind.fault

pub joined : (f : Factors) (t : Target) (instrs : List Instr) (at : ℕ) (front rest : List ℕ) → AreBytes (front ++ rest) → ProgramSpells t f instrs front
    → Joined f (input at (front ++ rest) t) instrs (placed f (input (at + length front) rest t))
joined f t [] at front rest h p =
    subst (λ (b : List ℕ). Joined f (input at (b ++ rest) t) [] (placed f (input (at + length b) rest t))) (sym p)
    (record { before = []; are = refl; whole = ap (λ (n : ℕ). placed f (input n rest t)) (omega arith) })
joined f t (instr ∷ instrs) at front rest h p =
    let more = p.back ++ rest in
    let all : front ++ rest ≡ p.front ++ more = ap (λ (l : List ℕ). l ++ rest) p.whole ∙ append_assoc p.front p.back rest in
    let are : AreBytes (p.front ++ more) = subst AreBytes all h in
    let next = input (at + length p.front) more t in
    let j = joined f t instrs next.at p.back rest (taken_bytes (input at (p.front ++ more) t) next p.front (record { bytes = refl; at = refl; target = refl }) are) p.second in
    let place : next.at + length p.back ≡ at + length front = omega (arith, ap length p.whole, length-append p.front p.back) in
    subst (λ (n : ℕ). Joined f (input at (front ++ rest) t) (instr ∷ instrs) (placed f (input n rest t))) place (record {
      before = place_of at instr ∷ j.before;
      are = ap (λ (l : List Instr). instr ∷ l) j.are;
      whole = ap (λ (l : List ℕ). placed f (input at l t)) all ∙ placed_again f t instr p.front at more p.first are ∙ ap (put (place_of at instr)) j.whole;
    })

-- a program that is divided there
pub joined_at : (f : Factors) (i : Input) (instrs : List Instr) (front rest : List ℕ) → AreBytes i.bytes → i.bytes ≡ front ++ rest → ProgramSpells i.target f instrs front
    → Joined f i instrs (placed f (input (i.at + length front) rest i.target))
joined_at f i instrs front rest h whole p =
    subst (λ (b : List ℕ). Joined f (input i.at b i.target) instrs (placed f (input (i.at + length front) rest i.target))) (sym whole) (joined f i.target instrs i.at front rest (subst AreBytes whole h) p)
