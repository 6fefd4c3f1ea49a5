use Rattle.dw_section.proofs.Words.{◌≡◌, ◌<◌, ◌∙◌, ℕ, List, Option, Some, ap, arith, get_or-map, length, length-map, subst, sym, AreAmong, AreLed, Head, Initial, IsAmong, LedTo, entry_head, entry_in, initial_in, place_of, refuses_by}
use Rattle.dw_section.proofs.{Lent.Judged.{all_get, behind_found, behind_broken}, Stages.handed_on, Tables.judged_more, fde_range.judge.Goals.After-go_to}
use Rattle.dw_section.proofs.fde_range.judge.Goals as goal

module _ (c : After-go_to) (hs : List Head) (all : AreAmong hs c.args.initials.now) where
  inside : c.args.found < length c.args.initials.now
  inside = omega (arith, c.requires.fits.2.0, length-map c.args.initials.now place_of)

  among : IsAmong (initial_in c.index-initials-found.result) hs
  among =
      let cie = c.index-initials-found in
      subst (λ (x : Initial). IsAmong (initial_in x) hs) (sym cie.is) (all_get (λ (x : Initial). IsAmong (initial_in x) hs) c.args.initials.now c.args.found cie.result all inside)

  -- the walk was led to the CIE at the FDE's place
  behind : AreLed c.args.target hs c.args.walks.now → LedTo c.args.target hs (Some c.args.fde.now.cie_at) c.lead.new.self.walk.led
  behind led =
      let cie = c.index-initials-found in
      let at : cie.result.at ≡ c.args.fde.now.cie_at = ap place_of cie.is ∙ sym (get_or-map place_of c.args.initials.now c.args.found cie.result 0 inside) ∙ c.requires.fits.2.1 in
      subst (λ (n : ℕ). LedTo c.args.target hs (Some n) c.lead.new.self.walk.led) at
      (subst (λ (n : Option ℕ). LedTo c.args.target hs n c.lead.new.self.walk.led) c.lead.ensures.at (c.lead.ensures.led hs among led).0)

pub returns-in_err-lacks-clause-stuck : goal.returns-in_err-lacks-clause-stuck
returns-in_err-lacks-clause-stuck c = λ hs all runs led.
    let led = behind (goal.at.returns-in_err-lacks-clause-stuck c).After-go_to hs all led in
    handed_on c.from_residual.result _ c.from_residual.ensures.1 (refuses_by c.in_err-lacks.field-0.0 _ _ (λ r h. behind_broken c.args.target hs c.lead.new.self.walk.led (entry_head c.args.fde.now) led runs c.are_bytes.ensures c.requires.fits.1
    c.go_to.new.self.steps.outcome c.go_to.ensures.runs r h) c.in_err-lacks.ensures.refused)

pub returns-clause-found : goal.returns-clause-found
returns-clause-found c = λ hs front all runs led listed w.
    let here = (goal.at.returns-clause-found c).After-go_to in
    let y = c.in_ok-lacks.ensures.found in
    let said = behind_found c.args.target hs c.lead.new.self.walk.led (entry_head c.args.fde.now) (behind here hs all led) runs c.are_bytes.ensures c.requires.fits.1
    c.go_to.new.self.steps.outcome c.go_to.ensures.runs y.0 c.in_ok-lacks.lacks (rw (c.from.ensures, c.from-2.ensures) at y.1) in
    let kept = c.in_ok-keep_range.ensures in
    rw (c.or-judged.ensures, c.then_some.ensures)
    (judged_more c.args.target hs front (entry_in c.args.fde.now) c.args.judged.now.lacking c.in_ok-lacks.lacks c.args.judged.now.list.items c.keep_range.new.list.items w said.0 said.1 kept.found (kept.each hs (among here hs all) listed w.each))

pub returns-in_err-lacks-clause-led : goal.returns-in_err-lacks-clause-led
returns-in_err-lacks-clause-led c = λ hs all led. rw (c.in_err-lacks.ensures.led, c.go_to.ensures.led) (c.lead.ensures.led hs (among (goal.at.returns-in_err-lacks-clause-led c).After-go_to hs all) led)

pub returns-in_err-keep_range-clause-led : goal.returns-in_err-keep_range-clause-led
returns-in_err-keep_range-clause-led c = λ hs all led. rw (c.in_ok-lacks.ensures.led, c.go_to.ensures.led) (c.lead.ensures.led hs (among (goal.at.returns-in_err-keep_range-clause-led c).After-go_to hs all) led)

pub returns-clause-led : goal.returns-clause-led
returns-clause-led c = λ hs all led. rw (c.in_ok-lacks.ensures.led, c.go_to.ensures.led) (c.lead.ensures.led hs (among (goal.at.returns-clause-led c).After-go_to hs all) led)
