use Rattle.std.proofs.lemmas.Fmt.{decimal_digit}
use Rattle.dw_show.proofs.{Words.{◌≡◌, ◌∙◌, ◌++◌, ◌+◌, ◌∷◌, ◌/◌, ◌%◌, [], ℕ, List, ap, arith, decimal, decimal_two, decimal_pair}, Puts.{filled, in_room}}
use Rattle.dw_show.proofs.listing.Listing.decimal.Goals as goal

pub returns-then-number-lt10-clause-fills : goal.returns-then-number-lt10-clause-fills
returns-then-number-lt10-clause-fills g c = rw (decimal_digit c.args.number (omega (arith, c.if-number-lt10.true))) (c.text.ensures.fills)

pub returns-then-number-lt100-clause-fills : goal.returns-then-number-lt100-clause-fills
returns-then-number-lt100-clause-fills g c = rw (decimal_two c.args.number (omega (arith, c.if-number-lt10.false)) (omega (arith, c.if-number-lt100.true))) (c.pair.ensures.fills)

pub returns-then-number-lt1000-clause-fills : goal.returns-then-number-lt1000-clause-fills
returns-then-number-lt1000-clause-fills g c =
    let n = c.args.number in
    let two : List ℕ = (48 + n % 100 / 10) ∷ (48 + n % 100 % 10) ∷ [] in
    let all : decimal n ≡ (48 + n / 100) ∷ two =
    decimal_pair n (omega (arith, c.if-number-lt100.false)) (omega (arith, c.if-number-lt1000.true)) ∙ ap (λ (l : List ℕ). l ++ two) (decimal_digit (n / 100) (omega (arith, c.if-number-lt1000.true))) in
    rw all (filled _ _ _ _ _ c.text-then-number-lt1000.ensures.fills c.pair-then-number-lt1000.ensures.fills)

pub returns-then-number-lt10-clause-adds : goal.returns-then-number-lt10-clause-adds
returns-then-number-lt10-clause-adds g c = in_room g.W.Write.contents _ _ _ (returns-then-number-lt10-clause-fills g c)

pub returns-then-number-lt100-clause-adds : goal.returns-then-number-lt100-clause-adds
returns-then-number-lt100-clause-adds g c = in_room g.W.Write.contents _ _ _ (returns-then-number-lt100-clause-fills g c)

pub returns-then-number-lt1000-clause-adds : goal.returns-then-number-lt1000-clause-adds
returns-then-number-lt1000-clause-adds g c = in_room g.W.Write.contents _ _ _ (returns-then-number-lt1000-clause-fills g c)
