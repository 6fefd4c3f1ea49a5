use Rattle.dw_normal.proofs.Words.{AllocError, ◌≡◌, ◌++◌, sym, ap, ◌∙◌, arith, length, List, ℕ, ◌<◌, ◌^◌, address_limit, Size, Rules, difference, program_bytes, row_or_blank, shown_row}
use Rattle.dw_normal.proofs.{ChangesToCome.{Given, given}, Passes.{shown_before, step_up, step_fits, step_stand, step_written}, program.push_next.Goals.In-Some}
use Rattle.dw_num.specs.declared.target.Size.TheVariants.{Four, Eight}
use Rattle.dw_normal.proofs.program.push_next.Goals as goal

next : (c : In-Some) → Given c.args.changes.now c.advance.new.self c.in-Some.to
next c = given AllocError c.args.changes.now c.advance.new.self c.in_ok-to.field-0 c.in-Some.to c.in_ok-to.ensures.gives c.in-Some.is

-- the row before it is the one that was shown
before : (c : In-Some) → row_or_blank c.advance.new.self.before ≡ shown_row c.args.changes.now
before c = shown_before c.args.changes.now.shown c.advance.new.self.before c.in_ok-to.field-0 c.in-Some.to c.in_ok-to.ensures.before c.in-Some.is

-- an address is a word
address_low : (size : Size) (a : ℕ) → a < address_limit size → a < 2 ^ 64
address_low Four a lt = omega (arith, lt)
address_low Eight a lt = lt

pub overflow_cast-address : goal.overflow_cast-address
overflow_cast-address c =
    let low = address_low c.args.target.size c.in-Some.to (step_up c.requires (next (goal.at.overflow_cast-address c).In-Some)).1 in
    omega (arith, low)

pub push_move-requires : goal.push_move-requires
push_move-requires c =
    let up = step_up c.requires (next (goal.at.push_move-requires c).In-Some) in
    record { rises = up.0; in_space = up.1 }

pub push_difference-requires-clause-fits : goal.push_difference-requires-clause-fits
push_difference-requires-clause-fits c =
    let at = (goal.at.push_difference-requires-clause-fits c).In-Some in
    let was : c.in-Some-Some.before.now ≡ shown_row c.args.changes.now = sym (ap row_or_blank c.in-Some-Some.ensures) ∙ before at in
    let is : c.in-Some-Some.row.now ≡ shown_row c.advance.new.self = sym (ap row_or_blank c.in-Some-Some.ensures') in
    rw (was, is) (record { fits = step_fits c.requires (next at) })

pub returns-clause-goes : goal.returns-clause-goes
returns-clause-goes c =
    let at = (goal.at.returns-clause-goes c).In-Some in
    let was : c.in-Some-Some.before.now ≡ shown_row c.args.changes.now = sym (ap row_or_blank c.in-Some-Some.ensures) ∙ before at in
    let is : c.in-Some-Some.row.now ≡ shown_row c.advance.new.self = sym (ap row_or_blank c.in-Some-Some.ensures') in
    let behind = λ (out : List ℕ) (old new : Rules). out ++ program_bytes c.args.target (difference c.args.shared.now old new) in
    let long = ap length (next at).come in (
      step_stand c.requires (next at),
      omega (arith, long),
      step_written c.requires (next at) c.args.out.now.items c.push_difference.new.out.items
          (c.in_ok-push_difference.ensures.put ∙ ap (λ (old : Rules). behind c.push_move.new.out.items old c.in-Some-Some.row.now) was
          ∙ ap (behind c.push_move.new.out.items (shown_row c.args.changes.now)) is ∙ ap (λ (out : List ℕ). behind out (shown_row c.args.changes.now) (shown_row c.advance.new.self)) c.in_ok-push_move.ensures),
    )
