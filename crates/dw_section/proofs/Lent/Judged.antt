-- What running programs tells of headers.
use Rattle.dw_cfa.specs.Coverage.{Lacks}
use Rattle.dw_cfa.proofs.Lent.RowsAt.{last_from}
use Rattle.dw_section.proofs.Words.{◌≡◌, ℕ, ◌+◌, ◌<◌, ◌≤◌, Bool, true, false, List, [], ◌∷◌, ◌++◌, map, length, get_or, Option, Some, None, Ok, Err, refl, sym, ap, subst, ◌∙◌, append_assoc, arith, inl, inr, MatchBool, nat_lt}
use Rattle.dw_section.proofs.Words.{AreBytes, Factors, Input, Led, LedTo, Leaves, Outcome, RunsBehind, RunsTo, behind_where_fault, leaves_one, leaves_where_kept, one_initial, rules_behind, cie, CieHead, CieRuns, factors_of, IsAmong}
use Rattle.dw_section.proofs.Words.{AllByRecursion, Refusal, Target, address_limit, Instr, CfaRule, Unset, LocatedRow, RulesBehind, cfa_after, FdeFault, FdeKept, initial_cfa, Counts, Rules, Initial, is_among, Head, fde, FdeHead}
use Rattle.dw_section.proofs.Words.{head_at, option_or, then_some, place_of, HasOrLacks, Rises, InitialInstrs, Instrs, FdeRuns, FdeBroken, HasRules, LacksRule, input_of, IsNonDecreasingBy, ltb-true}
use Rattle.dw_section.proofs.{Words.{ltb-false, cases_lt, get_or-map, length-map, All-from_recursion, NoCfaRule, FirstLacking, counts_exists}, Lent.Index.all_in, Places.{rises-at, among_place}, Stages.all_push}

-- ---- the search among them

pub initials_ascend : (low : ℕ) (cs : List Initial) → Rises low (map place_of cs) → IsNonDecreasingBy place_of cs
initials_ascend low cs up i j d le lt =
    let at : (k : ℕ) → k < length cs → get_or (map place_of cs) k 0 ≡ (get_or cs k d).at = λ k less. get_or-map place_of cs k d 0 less in
    omega (arith, rises-at low (map place_of cs) up i j le (omega (arith, lt, length-map cs place_of)), at i (omega arith), at j lt)

pub found_initial : (place : ℕ) (cs : List Initial) (i : ℕ) → Rises 0 (map place_of cs) → is_among place (map place_of cs) ≡ true
    → ((k : ℕ) (d : Initial) → k < i → nat_lt (get_or cs k d).at place ≡ true) → ((k : ℕ) (d : Initial) → i ≤ k → k < length cs → nat_lt (get_or cs k d).at place ≡ false)
    → (i < length cs) × ((d : Initial) → (get_or cs i d).at ≡ place)
found_initial place [] i up among below above = absurd cc
found_initial place (c ∷ cs) i up among below above =
    let all = c ∷ cs in
    let w = among_place place (map place_of all) among in
    let lt : w.0 < length all = omega (arith, w.1, length-map all place_of) in
    let at : (d : Initial) → (get_or all w.0 d).at ≡ place = λ d. sym (get_or-map place_of all w.0 d 0 lt) ∙ w.2 in
    let from : i ≤ w.0 = elim (cases_lt w.0 i) [ inl less ↦ absurd (omega (arith, ltb-true (get_or all w.0 c).at place (below w.0 c less), at c)) | inr ge ↦ ge ] in
    (omega (arith, from, lt), λ d. omega (arith, initials_ascend 0 all up i w.0 d from lt, at d, ltb-false (get_or all i d).at place (above i d (omega arith) (omega (arith, from, lt)))))

pub all_get : {X : Type 0} (P : X → Type 0) (xs : List X) (i : ℕ) (d : X) → AllByRecursion P xs → i < length xs → P (get_or xs i d)
all_get P xs i d h lt = All-from_recursion P xs h i d lt

pub all_get_map : {X Y : Type 0} (P : Y → Type 0) (view : X → Y) (xs : List X) (i : ℕ) (d : X) → AllByRecursion P (map view xs) → i < length xs → P (view (get_or xs i d))
all_get_map P view xs i d h lt = subst P (get_or-map view xs i d (view d) lt) (all_get P (map view xs) i (view d) h (omega (arith, lt, length-map xs view)))

-- ---- an FDE behind the row that its CIE leaves

module _ (target : Target) (hs : List Head) (c : CieHead) (among : IsAmong (cie c) hs) (initial : List Instr) (row : Rules) (left : Leaves (factors_of c) (input_of target c.program) initial row) (f : FdeHead) (place : c.at ≡ f.cie_at) where
  begins_so : InitialInstrs target hs f.cie_at c initial
  begins_so = record { among = among; stands = place; spelled = left.program }

  module _ (instrs : List Instr) (rows : List LocatedRow) (given : RulesBehind (factors_of c) row (input_of target f.program) f.begin instrs rows) where
    instrs_so : Instrs target hs f.cie_at f.program initial instrs
    instrs_so = record { head = c; begins = begins_so; spelled = given.program }

    fde_runs : FdeRuns target hs (fde f)
    fde_runs = (initial, instrs, instrs_so, subst (λ (x : CfaRule). FdeKept (address_limit target.size) f.begin x instrs) left.cfa given.kept)

    lacks_so : Lacks (f.begin + f.range) rows → LacksRule target hs (fde f) (record { code = NoCfaRule; at = f.at })
    lacks_so w =
        let from = last_from w.address f.begin rows w.row given.never_falls w.last in
        let counts = counts_exists f.begin instrs w.address from in
        let there = given.holds w.address counts.0 from counts.1 in
        let same : there.0 ≡ w.row = let e = sym there.1 ∙ w.last in cc in
        let here : cfa_after (initial_cfa initial) instrs counts.0 ≡ Unset = ap (λ (x : CfaRule). cfa_after x instrs counts.0) (sym left.cfa) ∙ sym there.2.cfa ∙ ap (λ (x : Rules). x.cfa) same ∙ w.unset in
        (refl, (initial, instrs, instrs_so, (w.address, from, w.below, (counts.0, counts.1, here))))

    has_at : (Lacks (f.begin + f.range) rows → ⊥) → (a : ℕ) → f.begin ≤ a → a < f.begin + f.range → (k : ℕ) → Counts f.begin instrs a k → cfa_after (initial_cfa initial) instrs k ≡ Unset → ⊥
    has_at none a le lt k counts unset =
        let there = given.holds a k le counts in
        none (record { address = a; below = lt; row = there.0; last = there.1; unset = there.2.cfa ∙ ap (λ (x : CfaRule). cfa_after x instrs k) left.cfa ∙ unset })

    has_or_lacks : (lacks : Bool) → MatchBool lacks (Lacks (f.begin + f.range) rows) (Lacks (f.begin + f.range) rows → ⊥) → HasOrLacks target hs (fde f) lacks
    has_or_lacks true w = lacks_so w
    has_or_lacks false none = (initial, instrs, instrs_so, has_at none)

-- behind a CIE's program that leaves a row, both programs run as the FDE's does behind that row
behind_of : (f : Factors) (i own : Input) (begin : ℕ) (instrs : List Instr) (row : Rules) (o : Outcome) → AreBytes i.bytes → Leaves f i instrs row → RunsTo f i own begin o → RunsBehind f row own begin o
behind_of f i own begin instrs row o cb l (inl (r, fault, is)) = let one = one_initial f i cb in let no : Ok row ≡ Err r = one.2 (Ok row) (instrs, l) ∙ sym (one.2 (Err r) fault) in absurd cc
behind_of f i own begin instrs row o cb l (inr (others, initial, left, runs)) = subst (λ (x : Rules). RunsBehind f x own begin o) (leaves_one f i others instrs initial row cb left l) runs

-- what a walk that was led to a CIE tells, where the programs of CIEs run
module _ (target : Target) (hs : List Head) (led : Led) (f : FdeHead) (is : LedTo target hs (Some f.cie_at) led) (cies : AllByRecursion (CieRuns target) hs) (fb : AreBytes f.program.bytes) (lt : f.begin < address_limit target.size) where
  abbrev c : CieHead
  c = is.0

  runs : CieRuns target (cie c)
  runs = all_in (CieRuns target) hs (cie c) cies is.1

  left : (row : Rules) × Leaves (factors_of c) (input_of target c.program) runs.0 row
  left = leaves_where_kept (factors_of c) (input_of target c.program) runs.0 is.4 runs.1 runs.2

  abbrev LedRuns : Outcome → Type 0
  LedRuns o = RunsTo led.factors led.program (input_of led.program.target f.program) f.begin o

  ran : (o : Outcome) → LedRuns o → RunsBehind (factors_of c) left.0 (input_of target f.program) f.begin o
  ran o runs_to = behind_of (factors_of c) (input_of target c.program) (input_of target f.program) f.begin runs.0 left.0 o is.4 left.1 (subst (λ (l : Led). RunsTo l.factors l.program (input_of l.program.target f.program) f.begin o) is.3 runs_to)

  pub behind_found : (o : Outcome) → LedRuns o → o.fault ≡ None → (lacks : Bool) → MatchBool lacks (Lacks (f.begin + f.range) o.rows) (Lacks (f.begin + f.range) o.rows → ⊥) → FdeRuns target hs (fde f) × HasOrLacks target hs (fde f) lacks
  behind_found o runs_to none lacks found =
      let y = rules_behind (factors_of c) left.0 (input_of target f.program) f.begin o fb left.1.listed (omega (arith, lt)) (ran o runs_to) none in
      (fde_runs target hs c is.1 runs.0 left.0 left.1 f is.2 y.0 o.rows y.1, has_or_lacks target hs c is.1 runs.0 left.0 left.1 f is.2 y.0 o.rows y.1 lacks found)

  pub behind_broken : (o : Outcome) → LedRuns o → (r : Refusal) → o.fault ≡ Some r → FdeBroken target hs (fde f) r
  behind_broken o runs_to r fault =
      (c, runs.0, begins_so target hs c is.1 runs.0 left.0 left.1 f is.2, subst (λ (x : CfaRule). FdeFault (factors_of c) x (input_of target f.program) f.begin r) left.1.cfa ((behind_where_fault (factors_of c) left.0 (input_of target f.program) f.begin fb left.1.listed (omega (arith, lt)) o (ran o runs_to) r).0 fault))

-- ---- the first that lacks one

pub lacking_more : (target : Target) (hs front : List Head) (h : Head) (lacking : Option ℕ) (lacks : Bool) → FirstLacking target hs front lacking → HasOrLacks target hs h lacks
    → FirstLacking target hs (front ++ h ∷ []) (option_or lacking (then_some lacks (head_at h)))
lacking_more target hs front h (Some place) lacks w l =
    record { before = w.before; it = w.it; after = w.after ++ h ∷ []; whole = ap (λ (xs : List Head). xs ++ h ∷ []) w.whole ∙ append_assoc w.before (w.it ∷ w.after) (h ∷ []); hold = w.hold; stuck = w.stuck }
lacking_more target hs front h None true w l = record { before = front; it = h; after = []; whole = refl; hold = w; stuck = l }
lacking_more target hs front h None false w l = all_push (HasRules target hs) front h w l
