-- An operation comes back from its line, so that equal lines are of equal operations.
use Rattle.dw_op.proofs.Words.{◌≡◌, ℕ, Bool, true, false, List, [], ◌∷◌, map, Option, Some, refl, sym, ap, ◌∙◌, ℤ, pos, negsuc, nat_eq, if◌then◌else◌, IsTrue, ◌↔◌, Target, Size, Four, Eight, Order, Little, Big, Op, Addr, Const, Pick}
use Rattle.dw_op.proofs.Words.{PlusUconst, Bra, Skip, Reg, Breg, Fbreg, Piece, DerefSize, Nop, BitPiece, Implicit, look_up, OpForm, none, op_form_table, Expression, bare, FrameBlock, in_frame, InFrame, sign_of, size_of, line, op_line, target_line}
use Rattle.dw_op.proofs.Words.{expression_lines, same_expression, Decides}
use Rattle.std.specs.{Bool.one_answer, Cmp.Lexicographic.{pointwise, pointwise_decides}, Ordering.int_eq, Prelude.◌&&◌}
use Rattle.std.proofs.lemmas.Bool.Decides.{Decides-and, Decides-eqb, Decides-int_eq}
use Rattle.dw_op.specs.Inner.{Equality.signed_with, EqualityLaws.lines_decide}

-- the operation of a form without fields
abbrev or_this : Option OpForm → Op → Op
or_this (Some (none alone)) op = alone
or_this form op = op

abbrev op_with : List ℕ → Op
op_with (kind ∷ first ∷ second ∷ sign ∷ number ∷ bytes) = or_this (look_up (op_form_table (record { size = Four; order = Little })) kind) (
    if nat_eq kind 0x03 then Addr first else
    if nat_eq kind 0x08 then Const first else
    if nat_eq kind 0x15 then Pick first else
    if nat_eq kind 0x23 then PlusUconst first else
    if nat_eq kind 0x28 then Bra first else
    if nat_eq kind 0x2f then Skip first else
    if nat_eq kind 0x50 then Reg first else
    if nat_eq kind 0x70 then Breg first (signed_with sign number) else
    if nat_eq kind 0x91 then Fbreg (signed_with sign number) else
    if nat_eq kind 0x93 then Piece first else
    if nat_eq kind 0x94 then DerefSize first else
    if nat_eq kind 0x9d then BitPiece first second else
    Implicit (record { ref_ptr = (0, 0); now = bytes }))
op_with other = Nop

pub signed_back : (z : ℤ) → signed_with (sign_of z) (size_of z) ≡ z
signed_back (pos n) = refl
signed_back (negsuc n) = refl

op_back : (op : Op) → op_with (op_line op) ≡ bare op
op_back (Breg r z) = ap (Breg r) (signed_back z)
op_back (Fbreg z) = ap Fbreg (signed_back z)
op_back op = refl

-- the test of lines by their parts
pub line_decides : (k f s : ℕ) (z : ℤ) (b : List ℕ) (k2 f2 s2 : ℕ) (z2 : ℤ) (b2 : List ℕ) →
    Decides ((((nat_eq k k2 && nat_eq f f2) && nat_eq s s2) && int_eq z z2) && pointwise nat_eq b b2) (line k f s z b ≡ line k2 f2 s2 z2 b2)
line_decides k f s z b k2 f2 s2 z2 b2 =
    let d = Decides-and _ _ (Decides-and _ _ (Decides-and _ _ (Decides-and _ _ (Decides-eqb k k2) (Decides-eqb f f2)) (Decides-eqb s s2)) (Decides-int_eq z z2)) (pointwise_decides Decides-eqb b b2) in (
      λ e. let h = d.0 e in rw (h.0.0.0.0, h.0.0.0.1, h.0.0.1, h.0.1, h.1) refl,
      λ e.
          let sign : sign_of z ≡ sign_of z2 = cc in
          let size : size_of z ≡ size_of z2 = cc in
          d.1 ((((cc, cc), cc), sym (signed_back z) ∙ ap (λ (n : ℕ). signed_with n (size_of z)) sign ∙ ap (λ (n : ℕ). signed_with (sign_of z2) n) size ∙ signed_back z2), cc),
    )

pub line_of_bare : (op : Op) → op_line (bare op) ≡ op_line op
line_of_bare (Implicit block) = refl
line_of_bare op = refl

-- equal lines, equal operations
pub same_op : (a b : Op) → op_line a ≡ op_line b → bare a ≡ bare b
same_op a b e = sym (op_back a) ∙ ap op_with e ∙ op_back b

pub op_same : (a b : Op) → bare a ≡ bare b → op_line a ≡ op_line b
op_same a b e = sym (line_of_bare a) ∙ ap op_line e ∙ line_of_bare b

-- an operation of a frame has no bytes
bare_frame : (op : Op) → in_frame op ≡ true → bare op ≡ op
bare_frame (Implicit block) h = let k : false ≡ true = h in absurd cc
bare_frame op h = refl

target_with : List ℕ → Target
target_with (size ∷ order ∷ more) = record { size = if nat_eq size 4 then Four else Eight; order = if nat_eq order 0 then Little else Big }
target_with other = record { size = Four; order = Little }

target_back_of : (size : Size) (order : Order) → target_with (target_line (record { size = size; order = order })) ≡ record { size = size; order = order }
unfolding target_with
target_back_of Four Little = refl
target_back_of Eight Little = refl
target_back_of size order = refl

pub same_target : (a b : Target) → target_line a ≡ target_line b → a ≡ b
same_target a b e = sym (target_back_of a.size a.order) ∙ ap target_with e ∙ target_back_of b.size b.order

-- ---- the test

abbrev pub expression : Target → List Op → Expression
expression t ops = record { target = t; ops = ops }

pub expression_is : (a b : Expression) → a.target ≡ b.target → a.ops ≡ b.ops → a ≡ b
expression_is a b target ops = ap (λ (t : Target). expression t a.ops) target ∙ ap (λ (l : List Op). expression b.target l) ops

-- equal lines, equal operations of frames
frame_lines : (a b : List Op) → InFrame a → InFrame b → map op_line a ≡ map op_line b → a ≡ b
frame_lines [] [] h k e = refl
frame_lines (x ∷ a) (y ∷ b) h k e =
    let line : op_line x ≡ op_line y = cc in
    let first : x ≡ y = sym (bare_frame x h.0) ∙ same_op x y line ∙ bare_frame y k.0 in
    let more = frame_lines a b h.1 k.1 cc in
    cc
frame_lines a b h k e = absurd cc

-- the test tells equal expressions
pub tells : (a b : Expression) → InFrame a.ops → InFrame b.ops → Decides (same_expression a b) (a ≡ b)
tells a b h k =
    let d = lines_decide (expression_lines a) (expression_lines b) in
    (λ e. let lines = d.0 e in expression_is a b (same_target a.target b.target cc) (frame_lines a.ops b.ops h k cc), λ e. d.1 (ap expression_lines e))

-- what tells equal expressions that have blocks is the test
pub is_test_of : (a b : Expression) (r : Bool) → ((bytes : List ℕ) × FrameBlock a.target a.ops bytes) → ((bytes : List ℕ) × FrameBlock b.target b.ops bytes) → (IsTrue r ↔ a ≡ b) → r ≡ same_expression a b
is_test_of a b r h k e = one_answer r (same_expression a b) e (tells a b h.1.1 k.1.1)
