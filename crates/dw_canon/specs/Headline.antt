-- The law of normal forms in one piece, for sections of one address size and byte order. An accepted section has a normal form, and
-- only one. Two accepted sections have byte-equal normal forms exactly if they give the same FDE ranges and return address
-- registers and, at every covered address, the same rules of the CFA and of all registers. Each normal form is accepted, says what
-- its source says, and is its own normal form. All but the first two are said of normal forms of at most 2,147,483,647 bytes, for no
-- longer section is accepted.
use Rattle.dw_canon.specs.Laws.{NormalFormExists, NormalFormIsOne, SameNormalForm, MeaningIsKept, NormalAgain}

pub record Headline : Type 0 where
  pub exists : NormalFormExists
  pub one : NormalFormIsOne
  pub equal : SameNormalForm
  pub kept : MeaningIsKept
  pub again : NormalAgain
