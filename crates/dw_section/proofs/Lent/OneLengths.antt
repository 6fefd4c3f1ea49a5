-- The lengths of an FDE's programs are those of the programs that its instructions are read from.
use Rattle.dw_section.proofs.Words.{◌≡◌, ℕ, ◌<◌, List, length, sym, ap, subst, ◌∙◌, arith, Target, AreBytes, Instr, Accepted, CieHead, FdeHead, cie, FdeSays, HasLengths, IsAmong, Fde}
use Rattle.dw_section.proofs.Lent.{HeaderLaws.one_headers, Heads.{heads_rise, one_among, cie_or}, Sections.{hs, headers_of, here, one_head}}

pub one_lengths : (target : Target) (s : List ℕ) (b : AreBytes s) (ok : Accepted target s) (f : Fde) (i j : List Instr) (own initial : ℕ) → f.begin < f.end → (h : FdeSays target s f.begin f.end i j) → HasLengths target s f own initial
    → (own ≡ length (here target s b ok f.begin f.end i j h).head.program.bytes) × (initial ≡ length (here target s b ok f.begin f.end i j h).spelled.head.program.bytes)
unfolding here
one_lengths target s b ok f i j own initial some h l =
    let ks = hs target s b ok in
    let x = here target s b ok f.begin f.end i j h in
    let y = l.says in
    let fdes : x.head ≡ y.head = one_head target s b ok f.begin f.begin f.end f.begin f.end i j l.initial l.instrs (omega arith) some (omega arith) some h y in
    let begins = subst (IsAmong (cie y.spelled.head)) (one_headers target s y.headers ks y.are (headers_of target s b ok)) y.spelled.begins.among in
    let place = x.spelled.begins.stands ∙ ap (λ (h : FdeHead). h.cie_at) fdes ∙ sym y.spelled.begins.stands in
    let cies : x.spelled.head ≡ y.spelled.head = ap (cie_or x.spelled.head) (one_among 0 ks (cie x.spelled.head) (cie y.spelled.head) (heads_rise target s ks (headers_of target s b ok)) x.spelled.begins.among begins place) in
    (l.own_is ∙ ap (λ (h : FdeHead). length h.program.bytes) (sym fdes), l.cie_is ∙ ap (λ (c : CieHead). length c.program.bytes) (sym cies))
