-- A line says one thing, so lines that say something have no fault.
use Rattle.std.proofs.Common.{rules}
use Rattle.dw_dump.proofs.Words.{◌≡◌, ℕ, ◌<◌, ◌≤◌, cond, List, [], ◌∷◌, ◌++◌, length, length-append, Some, Ok, Err, refl, sym, ap, subst, ◌∙◌, arith, inl, inr, append_assoc, codes, is_some, Result, IfOk, IfErr, MatchResult}
use Rattle.dw_dump.proofs.Words.{AllZip, cases_lt, append_cancel_left, sum_by-append, decode_of, DumpCode, BadLine, ValueTooLarge, Repeated, DumpFault, SaysWithin, Say, FirstFault, IsFaulty, OneDump, NamesLine, number_behind, LineSays}
use Rattle.dw_dump.proofs.Words.{SkippedLine, Hexadecimal, RegisterName, HexPairs, Statement, DumpItem, Fits, nothing, counter_is, register_is, memory_is, told, times}
use Rattle.dw_dump.specs.{declared.dump.Dump.Dump, declared.fault.DumpError.DumpError, declared.fault.DumpError.TheVariants.{Fault, OutOfMemory}, Describes.{Describes, RefusesDump}}
use Rattle.dw_dump.proofs.{LineParts.{digits_lack_space, register_parts, memory_parts}, DumpExists.dump_exists}

one_number : (v w : ℕ) (a b : List ℕ) → Hexadecimal v a → Hexadecimal w b → a ≡ b → v ≡ w
one_number v w a b h k same = let both : Some v ≡ Some w = sym h.number ∙ subst (λ (t : List ℕ). number_behind 16 0 t ≡ Some w) (sym same) k.number in cc

one_name : (r q : ℕ) (a : List ℕ) → RegisterName r a → RegisterName q a → r ≡ q
one_name r q a h k = let both : Some r ≡ Some q = sym h.number ∙ k.number in cc

one_pairs : (bs cs a b : List ℕ) → HexPairs bs a → HexPairs cs b → a ≡ b → bs ≡ cs
one_pairs bs cs a b h k same = let both : Ok bs ≡ Ok cs = sym h.pairs ∙ subst (λ (t : List ℕ). decode_of t ≡ Ok cs) (sym same) k.pairs in cc

skipped_begins : (c : ℕ) (line rest : List ℕ) → SkippedLine line → line ≡ c ∷ rest → c ≡ 35
skipped_begins c line rest (inl empty) is = absurd (let no_line : [] ≡ c ∷ rest = sym empty ∙ is in cc)
skipped_begins c line rest (inr comment) is = let same : 35 ∷ comment.0 ≡ c ∷ rest = sym comment.1 ∙ is in cc

begins_one : (c e : ℕ) (line xs ys : List ℕ) → line ≡ c ∷ xs → line ≡ e ∷ ys → c ≡ e
begins_one c e line xs ys is at = let same : c ∷ xs ≡ e ∷ ys = sym is ∙ at in cc

pub says_one : (line : List ℕ) (s t : Statement) → LineSays line s → LineSays line t → s ≡ t
says_one line nothing nothing h k = refl
says_one line nothing (counter_is w) h k = absurd (let same = skipped_begins 112 line _ h k.2 in omega arith)
says_one line nothing (register_is q w) h k = absurd (let same = skipped_begins 114 line _ h k.4 in omega arith)
says_one line nothing (memory_is start bytes) h k = absurd (let same = skipped_begins 109 line _ h k.4 in omega arith)
says_one line (counter_is v) nothing h k = absurd (let same = skipped_begins 112 line _ k h.2 in omega arith)
says_one line (counter_is v) (counter_is w) h k = ap counter_is (one_number v w h.0 k.0 h.1 k.1 (append_cancel_left (codes "pc 0x") h.0 k.0 (sym h.2 ∙ k.2)))
says_one line (counter_is v) (register_is q w) h k = absurd (let same = begins_one 112 114 line _ _ h.2 k.4 in omega arith)
says_one line (counter_is v) (memory_is start bytes) h k = absurd (let same = begins_one 112 109 line _ _ h.2 k.4 in omega arith)
says_one line (register_is r v) nothing h k = absurd (let same = skipped_begins 114 line _ k h.4 in omega arith)
says_one line (register_is r v) (counter_is w) h k = absurd (let same = begins_one 114 112 line _ _ h.4 k.2 in omega arith)
says_one line (register_is r v) (register_is q w) h k = search (rules, register_parts line h.0 (codes "0x" ++ h.1) (digits_lack_space 10 0 r h.0 h.2.number) h.4 q w k, one_name, one_number)
says_one line (register_is r v) (memory_is start bytes) h k = absurd (let same = begins_one 114 109 line _ _ h.4 k.4 in omega arith)
says_one line (memory_is start bytes) nothing h k = absurd (let same = skipped_begins 109 line _ k h.4 in omega arith)
says_one line (memory_is start bytes) (counter_is w) h k = absurd (let same = begins_one 109 112 line _ _ h.4 k.2 in omega arith)
says_one line (memory_is start bytes) (register_is q w) h k = absurd (let same = begins_one 109 114 line _ _ h.4 k.4 in omega arith)
says_one line (memory_is start bytes) (memory_is other more) h k = search (rules, memory_parts line h.0 h.1 (digits_lack_space 16 0 start h.0 h.2.number) h.4 other k.1 (k.0, k.2, k.4), one_number, one_pairs)

-- ---- lines that say something have no fault

pub record Parts (limit : ℕ) (before : List (List ℕ)) (line : List ℕ) (ss known : List Statement) : Type 0 where
  pub statement : Statement
  pub after : List Statement
  pub whole : ss ≡ known ++ statement ∷ after
  pub holds : SaysWithin limit line statement

-- what lines say begins with what the first of them say
said_parts : (limit : ℕ) (before : List (List ℕ)) (line : List ℕ) (after : List (List ℕ)) (ss known : List Statement) → AllZip (SaysWithin limit) (before ++ line ∷ after) ss → AllZip (SaysWithin limit) before known → Parts limit before line ss known
said_parts limit [] line after (s ∷ ss) [] h k = record { statement = s; after = ss; whole = refl; holds = h.0 }
said_parts limit (b ∷ before) line after (s ∷ ss) (t ∷ known) h k = search (rules, says_one, said_parts limit before line after ss known h.1 k.1)
said_parts limit before line after ss known h k = absurd assumption

not_faulty : (limit : ℕ) (ss known : List Statement) (line : List ℕ) (code : DumpCode) (s : Statement) (after : List Statement) → ss ≡ known ++ s ∷ after → ((item : DumpItem) → times ss item ≤ 1) → SaysWithin limit line s → IsFaulty limit known line code → ⊥
not_faulty limit ss known line BadLine s after whole once says wrong = wrong s says.0
not_faulty limit ss known line ValueTooLarge s after whole once says wrong = wrong.2 (subst (Fits limit) (says_one line s wrong.0 says.0 wrong.1) says.1)
not_faulty limit ss known line Repeated s after whole once says wrong =
    let same = says_one line wrong.0 s wrong.1.0 says.0 in
    let item = wrong.2.0 in
    let twice : 1 < times (known ++ s ∷ []) item = subst (λ (t : Statement). 1 < times (known ++ t ∷ []) item) same wrong.2.1 in
    let cut : ss ≡ (known ++ s ∷ []) ++ after = whole ∙ sym (append_assoc known (s ∷ []) after) in
    let all = sum_by-append (λ (t : Statement). cond (is_some (told t item)) 1 0) (known ++ s ∷ []) after in
    let one : times ((known ++ s ∷ []) ++ after) item ≤ 1 = subst (λ (ts : List Statement). times ts item ≤ 1) cut (once item) in
    omega arith

pub said_has_no_fault : (limit : ℕ) (lines : List (List ℕ)) (ss : List Statement) (fault : DumpFault) → Say limit lines ss → FirstFault limit lines fault → ⊥
said_has_no_fault limit lines ss fault say first =
    let parts = said_parts limit first.before first.line first.after ss first.statements (subst (λ (ls : List (List ℕ)). AllZip (SaysWithin limit) ls ss) first.whole say.each) first.say.each in
    not_faulty limit ss first.statements first.line fault.code parts.statement parts.after parts.whole say.once parts.holds first.faulty

-- ---- lines say one list of things, and have one first fault

pub said_one : (limit : ℕ) (lines : List (List ℕ)) (ss ts : List Statement) → AllZip (SaysWithin limit) lines ss → AllZip (SaysWithin limit) lines ts → ss ≡ ts
said_one limit [] [] [] h k = refl
said_one limit (l ∷ ls) (s ∷ ss) (t ∷ ts) h k = ap (λ (u : Statement). u ∷ ss) (says_one l s t h.0.0 k.0.0) ∙ ap (λ (us : List Statement). t ∷ us) (said_one limit ls ss ts h.1 k.1)
said_one limit lines ss ts h k = absurd assumption

-- where lines tell nothing twice, a dump is theirs, and no refusal is a fault
pub only_dump : (limit : ℕ) (lines : List (List ℕ)) (result : Result Dump DumpError)
    → IfOk result (λ dump. (ss : List Statement) × Say limit lines ss × Describes dump ss) → IfErr result (RefusesDump limit lines)
    → (ss : List Statement) → Say limit lines ss → MatchResult result (λ dump. Describes dump ss) (λ e. e ≡ OutOfMemory)
only_dump limit lines (Ok dump) found first ss say = subst (Describes dump) (said_one limit lines found.0 ss found.1.each say.each) found.2
only_dump limit lines (Err (Fault fault)) found first ss say = absurd (said_has_no_fault limit lines ss fault say first)
only_dump limit lines (Err OutOfMemory) found first ss say = refl

-- ---- the first fault is one

-- a shorter beginning of a list begins a longer one
cut_within : {X : Type 0} (xs ys : List X) (x y : X) (more others : List X) → xs ++ x ∷ more ≡ ys ++ y ∷ others → length xs < length ys → (mid : List X) × (ys ≡ xs ++ x ∷ mid)
cut_within xs [] x y more others same less = absurd (omega arith)
cut_within [] (z ∷ ys) x y more others same less = let first : x ≡ z = cc in (ys, ap (λ (w : _). w ∷ ys) (sym first))
cut_within (w ∷ xs) (z ∷ ys) x y more others same less = search (rules, cut_within xs ys x y more others (cc) (omega arith))

pub record SameCut {X : Type 0} (xs ys : List X) (x y : X) : Type 0 where
  pub before : xs ≡ ys
  pub here : x ≡ y

cut_equal : {X : Type 0} (xs ys : List X) (x y : X) (more others : List X) → xs ++ x ∷ more ≡ ys ++ y ∷ others → length xs ≡ length ys → SameCut xs ys x y
cut_equal [] [] x y more others same len = record { before = refl; here = cc }
cut_equal (w ∷ xs) (z ∷ ys) x y more others same len = search (rules, cut_equal xs ys x y more others (cc) (omega arith))
cut_equal xs ys x y more others same len = absurd (omega arith)

-- a fault before the first one would be among lines that have none
no_earlier : (limit : ℕ) (lines : List (List ℕ)) (f g : DumpFault) (v : FirstFault limit lines f) (w : FirstFault limit lines g) → length v.before < length w.before → ⊥
no_earlier limit lines f g v w less =
    let cut = cut_within v.before w.before v.line w.line v.after w.after (sym v.whole ∙ w.whole) less in
    said_has_no_fault limit w.before w.statements f w.say
    (record { before = v.before; line = v.line; after = cut.0; statements = v.statements; whole = cut.1; say = v.say; faulty = v.faulty; number = v.number })

one_code : (limit : ℕ) (known : List Statement) (line : List ℕ) (a b : DumpCode) → IsFaulty limit known line a → IsFaulty limit known line b → a ≡ b
one_code limit known line BadLine BadLine v w = refl
one_code limit known line BadLine ValueTooLarge v w = absurd (v w.0 w.1)
one_code limit known line BadLine Repeated v w = absurd (v w.0 w.1.0)
one_code limit known line ValueTooLarge BadLine v w = absurd (w v.0 v.1)
one_code limit known line ValueTooLarge ValueTooLarge v w = refl
one_code limit known line ValueTooLarge Repeated v w = absurd (v.2 (subst (Fits limit) (says_one line w.0 v.0 w.1.0 v.1) w.1.1))
one_code limit known line Repeated BadLine v w = absurd (w v.0 v.1.0)
one_code limit known line Repeated ValueTooLarge v w = absurd (w.2 (subst (Fits limit) (says_one line v.0 w.0 v.1.0 w.1) v.1.1))
one_code limit known line Repeated Repeated v w = refl

same_place : (limit : ℕ) (lines : List (List ℕ)) (f g : DumpFault) (v : FirstFault limit lines f) (w : FirstFault limit lines g) → length v.before ≡ length w.before → f ≡ g
same_place limit lines f g v w len = search (rules, cut_equal, said_one, one_code)

one_fault : (limit : ℕ) (lines : List (List ℕ)) (f g : DumpFault) → FirstFault limit lines f → FirstFault limit lines g → f ≡ g
one_fault limit lines f g v w = elim (cases_lt (length v.before) (length w.before)) [
  | inl less ↦ absurd (no_earlier limit lines f g v w less)
  | inr most ↦ elim (cases_lt (length w.before) (length v.before)) [
    | inl less ↦ absurd (no_earlier limit lines g f w v less)
    | inr least ↦ same_place limit lines f g v w (omega (arith, most, least))
  ]
]

pub one_dump : OneDump
one_dump = record {
  exists = dump_exists;
  said = λ limit lines ss ts v w. said_one limit lines ss ts v.each w.each;
  fault = one_fault;
  apart = said_has_no_fault;
}

-- ---- its line is one of the lines

fault_within : (limit : ℕ) (lines : List (List ℕ)) (fault : DumpFault) → FirstFault limit lines fault → (1 ≤ fault.line) × (fault.line ≤ length lines)
fault_within limit lines fault first = search (rules, first.number, ap length first.whole ∙ length-append first.before (first.line ∷ first.after))

pub refuses_within : (limit : ℕ) (lines : List (List ℕ)) (result : Result Dump DumpError) → IfErr result (RefusesDump limit lines) → IfErr result (NamesLine lines)
refuses_within limit lines (Err (Fault fault)) h = fault_within limit lines fault h
refuses_within limit lines result h = tt
