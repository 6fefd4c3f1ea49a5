-- Headers are read as they are spelled, and a section has at most one list of them.
use Rattle.dw_section.proofs.Words.{◌≡◌, ℕ, ◌+◌, List, [], ◌∷◌, length, Result, Ok, Err, inl, inr, refl, sym, ap, subst, ◌∙◌, arith, IfErr, length-append, AllByRecursion, AllZip, Target, Refusal, Input, AreBytes, Span, CieFields, FdeFields}
use Rattle.dw_section.proofs.Words.{Kind, Piece, Pieces, cie_places, Rises, Fields, cie_fields, fde_fields, FieldsFault, program_of, contents_of, Head, cie_head, IsCie, IsFde, Has, Headers, CieHolds, CieStuck, FdeHolds, Read, ◌>>=◌, done}
use Rattle.dw_section.proofs.{Words.{ok_is, cie_of_piece, cie_at, fde_of_piece, fde_at, fde_head, HasFields}, FieldLaws.{AreNumbers, fields_at, fault_is, fields_found, fields_again}, Items.one_pieces, Places.{PiecesRise, pieces_up, places_rise}, Stages.one_zip}
use Rattle.dw_section.specs.Inner.Stage.{Answers}
use Rattle.dw_section.specs.declared.entry.Kind.TheVariants as kind

-- ---- what is read has that header

-- fields that are read at the front of a piece are what it says
pub reads_fields : {X : Type 0} (fs : Fields X) → AreNumbers fs → (target : Target) (p : Piece) (x : X) (j : Input) → AreBytes p.contents.bytes → fields_at fs (contents_of target p) ≡ done (x, j) → HasFields target p fs x (program_of j)
reads_fields fs are target p x j h e =
    let q = fields_found fs are (contents_of target p) j x h e in
    record { spelling = q.0; spells = q.1; whole = q.2.bytes; place = q.2.at }

pub fields_end : {X : Type 0} (target : Target) (p : Piece) (fs : Fields X) (x : X) (program : Span) → HasFields target p fs x program → program.at + length program.bytes ≡ p.contents.at + length p.contents.bytes
fields_end target p fs x program is = omega (arith, is.place, ap length is.whole, length-append is.spelling program.bytes)

-- ---- what has a header is read

fields_read : {X : Type 0} (fs : Fields X) (target : Target) (p : Piece) (x : X) (program : Span) → HasFields target p fs x program
    → fields_at fs (contents_of target p) ≡ done (x, record { at = program.at; bytes = program.bytes; target = target })
fields_read fs target p x program is = rw (is.whole, fields_again target fs x is.spelling is.spells p.contents.at program.bytes, ← is.place) refl

pub cie_at_again : (target : Target) (p : Piece) (f : CieFields) (program : Span) → IsCie target p f program → cie_at target p ≡ done (cie_head p f program)
unfolding cie_at
cie_at_again target p f program is = ap (λ (read : Read CieFields). read >>= cie_of_piece p) (fields_read (cie_fields target.size p.form) target p f program is.1)

pub fde_at_again : (target : Target) (places : List ℕ) (p : Piece) (f : FdeFields) (program : Span) → IsFde target places p f program → fde_at target places p ≡ done (fde_head p f program)
unfolding fde_at
fde_at_again target places p f program is = ap (λ (read : Read FdeFields). read >>= fde_of_piece p) (fields_read (fde_fields target.size places p.form) target p f program is.1)

-- ---- what is refused has that fault

read_faulty : {X : Type 0} (fs : Fields X) (make : X × Input → Head) (i : Input) (r : Refusal) (read : Read X) → fields_at fs i ≡ read → read >>= (λ x. done (make x)) ≡ Err r → FieldsFault fs i r
read_faulty fs make i r (Ok x) is e = absurd cc
read_faulty {X} fs make i r (Err q) is e = let same : q ≡ r = cc in (fault_is fs i r).1 (is ∙ ap (λ (x : Refusal). let k : Read X = Err x in k) same)

pub cie_faulty : (target : Target) (p : Piece) (r : Refusal) → cie_at target p ≡ Err r → FieldsFault (cie_fields target.size p.form) (contents_of target p) r
unfolding cie_at
cie_faulty target p r e = read_faulty (cie_fields target.size p.form) (λ f. cie_head p f.0 (program_of f.1)) (contents_of target p) r _ refl e

pub fde_faulty : (target : Target) (places : List ℕ) (p : Piece) (r : Refusal) → fde_at target places p ≡ Err r → FieldsFault (fde_fields target.size places p.form) (contents_of target p) r
unfolding fde_at
fde_faulty target places p r e = read_faulty (fde_fields target.size places p.form) (λ f. fde_head p f.0 (program_of f.1)) (contents_of target p) r _ refl e

pub fields_apart : {X : Type 0} (fs : Fields X) (target : Target) (p : Piece) (x : X) (program : Span) (r : Refusal) → HasFields target p fs x program → FieldsFault fs (contents_of target p) r → ⊥
fields_apart fs target p x program r is stuck = let a = sym (fields_read fs target p x program is) ∙ (fault_is fs (contents_of target p) r).0 stuck in cc

pub has_cie : (target : Target) (places : List ℕ) (p : Piece) (h : Head) → Has target places p h → CieHolds target p
has_cie target places p h (inl c) is = (c.0, c.1, c.2)
has_cie target places p h (inr f) is = let a = f.2.0 in absurd cc

pub has_fde : (target : Target) (places : List ℕ) (p : Piece) (h : Head) → Has target places p h → FdeHolds target places p
has_fde target places p h (inl c) is = let a = c.2.0 in absurd cc
has_fde target places p h (inr f) is = (f.0, f.1, f.2)

-- pieces whose fields hold have headers
module _ (target : Target) (places : List ℕ) where
  head_of : (p : Piece) (k : Kind) → p.kind ≡ k → CieHolds target p → FdeHolds target places p → (h : Head) × Has target places p h
  head_of p kind.Cie is cie fde = let f = cie is in (cie_head p f.0 f.1, inl (f.0, f.1, f.2, refl))
  head_of p kind.Fde is cie fde = let f = fde is in (fde_head p f.0 f.1, inr (f.0, f.1, f.2, refl))

  pub heads_of : (ps : List Piece) → AllByRecursion (CieHolds target) ps → AllByRecursion (FdeHolds target places) ps → (hs : List Head) × AllZip (Has target places) ps hs
  heads_of [] cies fdes = ([], tt)
  heads_of (p ∷ ps) cies fdes = let h = head_of p p.kind refl cies.0 fdes.0 in let more = heads_of ps cies.1 fdes.1 in (h.0 ∷ more.0, (h.1, more.1))

pub has_one : (target : Target) (places : List ℕ) (p : Piece) (h k : Head) → Has target places p h → Has target places p k → h ≡ k
has_one target places p h k (inl c) (inl d) = c.3 ∙ ok_is (cie_head p c.0 c.1) (cie_head p d.0 d.1) (sym (cie_at_again target p c.0 c.1 c.2) ∙ cie_at_again target p d.0 d.1 d.2) ∙ sym d.3
has_one target places p h k (inl c) (inr d) = let a = c.2.0 in let b = d.2.0 in absurd cc
has_one target places p h k (inr c) (inl d) = let a = c.2.0 in let b = d.2.0 in absurd cc
has_one target places p h k (inr c) (inr d) = c.3 ∙ ok_is (fde_head p c.0 c.1) (fde_head p d.0 d.1) (sym (fde_at_again target places p c.0 c.1 c.2) ∙ fde_at_again target places p d.0 d.1 d.2) ∙ sym d.3

-- ---- of a whole section

pub one_headers : (target : Target) (s : List ℕ) (hs ks : List Head) → Headers target s hs → Headers target s ks → hs ≡ ks
one_headers target s hs ks p q =
    let same = one_pieces target s q.entries p.entries q.cut p.cut in
    one_zip (Has target (cie_places p.entries)) (has_one target (cie_places p.entries)) p.entries hs ks p.each (subst (λ (ps : List Piece). AllZip (Has target (cie_places ps)) ps ks) same q.each)

-- the places of a section's CIEs rise
pub pieces_rise : (target : Target) (s : List ℕ) (ps : List Piece) → Pieces target s ps → Rises 0 (cie_places ps)
pieces_rise target s ps p = places_rise 0 ps (subst (PiecesRise 0) (sym p.are) (pieces_up target.order 0 p.items))

-- a CIE that is refused is stuck
pub cie_stuck : {X : Type 0} (view : X → Head) (target : Target) (p : Piece) (r : Result X Refusal) → p.kind ≡ kind.Cie → Answers view r (cie_at target p) → IfErr r (CieStuck target p)
cie_stuck view target p (Ok x) is a = tt
cie_stuck view target p (Err e) is a = (is, cie_faulty target p e a)
