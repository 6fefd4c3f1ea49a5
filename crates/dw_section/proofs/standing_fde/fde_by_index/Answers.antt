use Rattle.dw_section.proofs.Words.{map, get_or, get_or_default, refl, sym, ap, subst, ◌∙◌, ◌≤◌, length, inl, inr, arith, length-map, err_from_is_err_and, Fde, FdeHead, entry_head, initial_head, IsTable, StandsAt, range_in, fde_in, NoneCovers, IsAmong}
use Rattle.dw_section.proofs.{Lent.FdeLookup.{none, led_to, listed_are, fde_listed, listed_fde, same_fde}, StandFaults.misled, StandLaws.{IsListed, listed_stands, one_stands, stands_listed}, standing_fde.fde_by_index.Goals.{After-from, In-Some-2}}
use Rattle.dw_section.specs.{Ranges.LeadsTo, StandingFde.NoneStands}
use Rattle.dw_section.proofs.standing_fde.fde_by_index.Goals as goal

-- where the index leads
leads : (c : After-from) → LeadsTo c.args.index.now c.args.address c.from.result
leads c =
    let i = c.in-Some.place in
    let lt = c.in-Some.ensures.covers.0 in
    (get_or c.args.index.now i none, (i, lt, λ d. get_or_default c.args.index.now i none d lt), c.in-Some.ensures.covers.1 none, c.from.ensures)

-- by the index of a section some FDE stands there
stands : (c : After-from) → IsTable c.args.target c.args.bytes.now c.args.index.now → StandsAt c.args.target c.args.bytes.now c.from.result
stands c t =
    let l = leads c in
    subst (StandsAt c.args.target c.args.bytes.now) (sym l.3) (stands_listed c.args.target c.args.bytes.now t.indexed.headers (range_in l.0) l.0.return_register t.indexed.hold.0.0.0 (led_to _ _ _ _ _ t l))

-- and is the one that the section lists
listed : (c : In-Some-2) → (l : LeadsTo c.args.index.now c.args.address c.from.result) → (t : IsTable c.args.target c.args.bytes.now c.args.index.now) → IsListed t.indexed.headers (range_in l.0) l.0.return_register c.in-Some-2.found
listed c l t =
    let found = rw c.in-Some-2.is at c.in_ok-found.ensures.found in
    listed_stands c.args.target c.args.bytes.now t.indexed.headers (range_in l.0) l.0.return_register c.in-Some-2.found t.indexed.hold.0.0.0 (led_to _ _ _ _ _ t l) found.1 (found.0 ∙ l.3)

pub returns-in_default-clause-own : goal.returns-in_default-clause-own
returns-in_default-clause-own c = λ t fs are.
    subst (NoneCovers c.args.address) (listed_are _ _ _ t fs are) (c.in_default.ensures.none refl t.indexed.is_index.ascends t.apart)

pub returns-in_err-found-clause-own : goal.returns-in_err-found-clause-own
returns-in_err-found-clause-own c = λ t. absurd (c.in_err-found.ensures.only (stands (goal.at.returns-in_err-found-clause-own c).After-from t))

pub returns-in_err-found-clause-refused : goal.returns-in_err-found-clause-refused
returns-in_err-found-clause-refused c =
    let e = err_from_is_err_and c.from_residual.result c.from_residual.ensures.1 in
    let few : length c.args.bytes.now ≤ 2147483647 = omega (arith, c.if-bytes-gt-MOST.false) in
    rw (e.1, e.2) (inr (few, (c.from.result, leads (goal.at.returns-in_err-found-clause-refused c).After-from, inl c.in_err-found.ensures.fault)))

pub returns-in_default-2-clause-own : goal.returns-in_default-2-clause-own
returns-in_default-2-clause-own c = λ t.
    let some = rw c.in_default-2.is at (c.in_ok-found.ensures.only (stands (goal.at.returns-in_default-2-clause-own c).After-from t)) in
    absurd cc

pub returns-in_default-2-clause-bad : goal.returns-in_default-2-clause-bad
returns-in_default-2-clause-bad c = λ is.
    let at = c.from.result in
    let none : NoneStands c.args.target c.args.bytes.now at c.args.address = λ own named stands place le lt. let some = rw c.in_default-2.is at (c.in_ok-found.ensures.only (own, named, stands, place)) in absurd cc in
    (at, leads (goal.at.returns-in_default-2-clause-bad c).After-from, none, misled c.args.target c.args.bytes.now at c.args.address none c.in_ok-found.ensures.unfaulted)

pub returns-then-not-covers-clause-bad : goal.returns-then-not-covers-clause-bad
returns-then-not-covers-clause-bad c = λ is.
    let at = c.from.result in
    let none : NoneStands c.args.target c.args.bytes.now at c.args.address = λ own named stands place le lt.
    let found = rw c.in-Some-2.is at c.in_ok-found.ensures.found in
    let e = c.in-Some-2.found in
    let one = (one_stands c.args.target c.args.bytes.now own (entry_head e.own) named (initial_head e.cie) stands found.1 (place ∙ sym found.0)).0 in
    let begins = ap (λ (x : FdeHead). x.begin) one in
    absurd (c.if-not-covers.ensures (omega (arith, begins, le), omega (arith, begins, ap (λ (x : FdeHead). x.range) one, lt))) in
    (at, leads (goal.at.returns-then-not-covers-clause-bad c).After-from, none, misled c.args.target c.args.bytes.now at c.args.address none c.in_ok-found.ensures.unfaulted)

pub returns-then-not-covers-clause-own : goal.returns-then-not-covers-clause-own
returns-then-not-covers-clause-own c = λ t.
    let l = leads (goal.at.returns-then-not-covers-clause-own c).After-from in
    let same = listed (goal.at.returns-then-not-covers-clause-own c).In-Some-2 l t in
    absurd (c.if-not-covers.ensures (omega (arith, same.begin, l.2.0), omega (arith, same.begin, same.range, l.2.1)))

pub returns-clause-own : goal.returns-clause-own
returns-clause-own c = λ t fs are.
    let list = c.args.index.now in
    let l = leads (goal.at.returns-clause-own c).After-from in
    let same = listed (goal.at.returns-clause-own c).In-Some-2 l t in
    let own = same_fde c.in-Some-2.found.own.begin c.in-Some-2.found.own.range c.in-Some-2.found.cie.return_register l.0.begin l.0.range l.0.return_register same.begin same.range same.register_is in
    let among = fde_listed (fde_in l.0) (map fde_in list) l.1.0 (omega (arith, l.1.1, length-map list fde_in)) (λ d. listed_fde list l.1.0 l.0 d l.1.1 (l.1.2 l.0)) in
    subst (λ (f : Fde). IsAmong f fs) (sym own) (subst (IsAmong (fde_in l.0)) (listed_are _ _ list t fs are) among)
