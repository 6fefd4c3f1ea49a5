-- One step more of the walks over members and changes.
use Rattle.std.proofs.lemmas.Grind.{flat_map-append}
use Rattle.dw_canon.proofs.Lent.Programs.{below_end}
use Rattle.dw_normal.proofs.Words.{rules, ◌≡◌, ℕ, ◌<◌, List, [], ◌∷◌, ◌++◌, Option, Some, None, refl, ap, subst, nat_eq, AllByRecursion, cases_Bool, append_assoc}
use Rattle.dw_normal.proofs.Words.{Target, Instr, Rules, move, difference, later_changes, group, shared_by, initial_row, kept_by, agreed, Member, Stand, later_bytes}
use Rattle.dw_normal.proofs.{Words.{row_or_blank, shown_row, address_limit, Changing, before_then, ChangesStand, InstrFits, difference_fits, instr_bytes, program_bytes}, ChangesToCome.Given}

-- ---- the pass over members

pub group_more : (r : ℕ) (xs ys : List Member) → group r (xs ++ ys) ≡ group r xs ++ group r ys
group_more r [] ys = refl
group_more r (x ∷ xs) ys = search (rules, cases_Bool (nat_eq x.register r), nat_eq x.register r, group_more r xs ys)

shared_more : (s : Rules) (xs ys : List Member) → shared_by s (xs ++ ys) ≡ shared_by (shared_by s xs) ys
shared_more s [] ys = refl
shared_more s (x ∷ xs) ys = shared_more (kept_by (agreed s x.first) x.later) xs ys

-- one more
pub next_member : (x : Member) (xs : List Member) (m : Member) → initial_row ((x ∷ xs) ++ m ∷ []) ≡ kept_by (agreed (initial_row (x ∷ xs)) m.first) m.later
next_member x xs m = shared_more (kept_by x.first x.later) xs (m ∷ [])

-- ---- the walk over changes

pub program_more : (t : Target) (xs ys : List Instr) → program_bytes t (xs ++ ys) ≡ program_bytes t xs ++ program_bytes t ys
program_more t xs ys = flat_map-append (instr_bytes t) xs ys

-- what is so of all is so of both halves
pub both_halves : {X : Type 0} (P : X → Type 0) (xs ys : List X) → AllByRecursion P (xs ++ ys) → AllByRecursion P xs × AllByRecursion P ys
both_halves P [] ys all = (tt, all)
both_halves P (x ∷ xs) ys all = let rest = both_halves P xs ys all.1 in ((all.0, rest.0), rest.1)

-- ---- the loop over changes

-- the row before a change is the one that was shown
pub shown_before : (shown before : Option Rules) (o : Option ℕ) (to : ℕ) → before ≡ before_then o shown → o ≡ Some to → row_or_blank before ≡ row_or_blank shown
shown_before shown before None to is e = absurd cc
shown_before shown before (Some a) to is e = ap row_or_blank is

module _ {t : Target} {shared : Rules} {at : ℕ} {changes next : Changing} {to : ℕ} (stand : Stand t shared at changes) (g : Given changes next to) where
  abbrev row : Rules
  row = shown_row changes

  abbrev after : Rules
  after = shown_row next

  stands : ChangesStand t shared (address_limit t.size) at row ((to, after) ∷ next.to_come)
  stands = subst (ChangesStand t shared (address_limit t.size) at row) g.come stand.later

  pub step_up : (at < to) × (to < address_limit t.size)
  step_up = (stands.0, below_end t shared (address_limit t.size) to after next.to_come stands.3)

  pub step_fits : AllByRecursion (InstrFits t) (difference shared row after)
  step_fits = difference_fits t shared row after stand.fits stands.2.fits stands.2.rests

  pub step_stand : Stand t shared to next
  step_stand = record { shown = g.shown; fits = stands.2.fits; later = stands.3 }

  step_bytes : later_bytes t shared at changes ≡ instr_bytes t (move at to) ++ (program_bytes t (difference shared row after) ++ later_bytes t shared to next)
  step_bytes = search (rules, program_bytes, later_changes, instr_bytes, move, program_more, difference)

  -- what a step writes is what is behind it no more
  pub step_written : (out new : List ℕ) → new ≡ (out ++ instr_bytes t (move at to)) ++ program_bytes t (difference shared row after) → new ++ later_bytes t shared to next ≡ out ++ later_bytes t shared at changes
  step_written out new is = search (rules, later_bytes, append_assoc, instr_bytes, move, program_bytes, difference, step_bytes)
