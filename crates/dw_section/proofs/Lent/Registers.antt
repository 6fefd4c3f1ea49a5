-- Return address registers are below 65,536.
use Rattle.dw_section.proofs.{Words.{◌≡◌, ℕ, ◌<◌, List, arith, AllByRecursion, IsAmong, Target, Has, Lists, Range, AreFdes, cie_places, Fde}, Lent.FieldTable.cie_said, Lent.Index.zip_right, Stages.all_of_zip, StandLaws.cie_from}

pub fdes_registers : (target : Target) (s : List ℕ) (fs : List Fde) → AreFdes target s fs → AllByRecursion (λ (f : Fde). f.return_register < 65536) fs
fdes_registers target s fs h = all_of_zip (Lists h.headers) (λ (f : Fde). f.return_register < 65536) h.index fs low h.each
  where
    low : (a : Range) (f : Fde) → IsAmong a h.index → Lists h.headers a f → f.return_register < 65536
    low a f i z =
        let r = z.returns in
        let w = zip_right (Has target (cie_places h.are.entries)) h.are.entries h.headers _ h.are.each r.named_among in
        let c = cie_from target (cie_places h.are.entries) w.0 r.named w.2 in
        let same : r.named.return_register ≡ c.0.return_register = let e = c.3 in cc in
        omega (arith, r.is, same, (cie_said target target.size w.0.form c.0 c.2.1.spelling c.2.1.spells).1)
