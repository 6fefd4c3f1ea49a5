use Rattle.dw_normal.proofs.{Words.{◌≡◌, ◌<◌, ℕ, List, map, get_or, length, sym, ap, ◌∙◌, subst, IfSome, get_or-map, length-map, Fde, OpensBehind, Member, AreMembers, fde_of, HasJoined}, Again.{joined_is, then_joined}}
use Rattle.dw_normal.proofs.groups.join_fde.Goals as goal

pub returns-then-is_joined-clause-rows : goal.returns-then-is_joined-clause-rows
returns-then-is_joined-clause-rows c = λ ms are d.
    let t = c.args.table.now.target in
    let s = c.args.table.now.bytes in
    let at = get_or-map fde_of ms c.args.fde.place d in
    let lt = subst (λ (n : ℕ). c.args.fde.place < n) (length-map ms fde_of) (c.requires.place (map fde_of ms) are.fdes) in
    let fde = c.fde-register.ensures (map fde_of ms) are.fdes (fde_of d) ∙ at in
    let opens = subst (λ (f : Fde). IfSome c.args.row (OpensBehind t s f)) at (c.requires.opens (map fde_of ms) are.fdes (fde_of d)) in
    sym (joined_is t s c.args.rows.now.entries c.args.joined c.args.row c.fde-register.result.return_register (c.is_joined.ensures c.if-is_joined.true) c.requires.joined ms are d c.args.fde.place lt opens
    (ap (λ (f : Fde). f.return_register) (sym fde)))

pub returns-clause-joined : goal.returns-clause-joined
returns-clause-joined c =
    let t = c.args.table.now.target in
    let s = c.args.table.now.bytes in
    let place = c.args.fde.place in
    let register = c.fde-register.result.return_register in
    let lt : (ms : List Member) → AreMembers t s ms → place < length ms = λ ms are. subst (λ (n : ℕ). place < n) (length-map ms fde_of) (c.requires.place (map fde_of ms) are.fdes) in
    let opens : (ms : List Member) → AreMembers t s ms → (d : Member) → IfSome c.args.row (OpensBehind t s (fde_of (get_or ms place d))) = λ ms are d.
    subst (λ (f : Fde). IfSome c.args.row (OpensBehind t s f)) (get_or-map fde_of ms place d) (c.requires.opens (map fde_of ms) are.fdes (fde_of d)) in
    let own : (ms : List Member) → AreMembers t s ms → (d : Member) → (get_or ms place d).register ≡ register = λ ms are d.
    ap (λ (f : Fde). f.return_register) (sym (c.fde-register.ensures (map fde_of ms) are.fdes (fde_of d) ∙ get_or-map fde_of ms place d)) in
    subst (HasJoined t s c.add_fde.new.rows.entries) (sym c.joined_by.ensures)
    (then_joined t s c.accepted.ensures.bytes c.accepted.ensures.accepted place register c.args.row c.args.rows.now.entries c.add_fde.new.rows.entries lt opens c.requires.rows c.in_ok-add_fde.ensures.rows own)

pub returns-then-is_joined-clause-joined : goal.returns-then-is_joined-clause-joined
returns-then-is_joined-clause-joined c = c.requires.joined

pub returns-then-is_joined-clause-known : goal.returns-then-is_joined-clause-known
returns-then-is_joined-clause-known c = c.requires.known

pub add_fde-requires : goal.add_fde-requires
add_fde-requires c =
    let first = c.in_ok-behind.ensures in
    record { place = c.requires.place; behind = first.behind; shown = first.shown; section = first.section; stands = first.stands; known = c.requires.known }

pub returns-clause-rows : goal.returns-clause-rows
returns-clause-rows c = c.in_ok-add_fde.ensures.rows

pub returns-clause-known : goal.returns-clause-known
returns-clause-known c = c.in_ok-add_fde.ensures.known
