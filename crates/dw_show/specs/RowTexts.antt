-- How rows are printed: a line for an FDE, and below it one for each address from which its rules are others.
use Rattle.std.specs.{Prelude.{ℕ, ℤ, false, List, [], ◌∷◌, ◌++◌, codes, decimal, unsigned_abs, if◌then◌else◌, Option, Some, None}, Fmt.digits, Int.is_negative}
use Rattle.dw_op.specs.{Expression.Expression, declared.op.Op.Op}
use Rattle.dw_row.specs.{Rows.Rules, declared.rule.{CfaRule.CfaRule, RegRule.RegRule}}
use Rattle.dw_row.specs.declared.rule.CfaRule.TheVariants as cfa
use Rattle.dw_row.specs.declared.rule.RegRule.TheVariants as rules
use Rattle.dw_section.specs.declared.lookup.Fde.{Fde}
use Rattle.dw_canon.specs.Members.{Member, changes_of, fde_of}
use Rattle.dw_show.specs.{OpTexts.op_text, Texts.{line_end, lines}}

-- ---- rules

-- an offset from a register or from the CFA, with its sign
abbrev pub offset_text : ℤ → List ℕ
offset_text n = (if is_negative n then codes "-" else codes "+") ++ decimal (unsigned_abs n)

-- an operation behind another one
abbrev pub next_text : Op → List ℕ
next_text op = codes "; " ++ op_text op

abbrev pub operations_text : List Op → List ℕ
operations_text [] = []
operations_text (op ∷ ops) = op_text op ++ lines next_text ops

abbrev pub expression_text : Expression → List ℕ
expression_text e = codes "expr(" ++ operations_text e.ops ++ codes ")"

-- the CFA's rule; no row of an FDE is without one
abbrev pub cfa_text : CfaRule → List ℕ
cfa_text cfa.Unset = []
cfa_text (cfa.Register r n) = codes "r" ++ decimal r ++ offset_text n
cfa_text (cfa.Expression e) = expression_text e

-- a register's rule; what stands in memory is in brackets
abbrev pub rule_text : RegRule → List ℕ
rule_text rules.Unspecified = []
rule_text rules.Undefined = codes "u"
rule_text rules.SameValue = codes "s"
rule_text (rules.Offset n) = codes "[cfa" ++ offset_text n ++ codes "]"
rule_text (rules.ValOffset n) = codes "cfa" ++ offset_text n
rule_text (rules.Register q) = codes "r" ++ decimal q
rule_text (rules.Expression e) = codes "[" ++ expression_text e ++ codes "]"
rule_text (rules.ValExpression e) = expression_text e

-- ---- rows

-- a register with its rule
abbrev pub column_text : ℕ × RegRule → List ℕ
column_text column = codes " r" ++ decimal column.0 ++ codes "=" ++ rule_text column.1

-- the rules from an address on: the CFA's, and those of the registers that are not Unspecified
abbrev pub row_text : ℕ × Rules → List ℕ
row_text change = codes " 0x" ++ digits 16 false change.0 ++ codes " cfa=" ++ cfa_text change.1.cfa ++ lines column_text change.1.registers ++ line_end

-- the addresses that an FDE covers, up to its end, and its return address register
abbrev pub fde_text : Fde → List ℕ
fde_text fde = codes "fde 0x" ++ digits 16 false fde.begin ++ codes " 0x" ++ digits 16 false fde.end ++ codes " ra=r" ++ decimal fde.return_register ++ line_end

-- ---- `at`

-- an address with the FDE that covers it and the rules there, or with none
abbrev pub At : Type 0
At = ℕ × Option (Fde × Rules)

-- the line of the FDE, and below it that of the row, which begins with the address itself; one line where no FDE covers it
abbrev pub at_text : At → List ℕ
at_text (a, None) = codes " 0x" ++ digits 16 false a ++ codes " none" ++ line_end
at_text (a, Some (fde, rules)) = fde_text fde ++ row_text (a, rules)

-- ---- `rows`

-- an FDE with the addresses at which its rules change
abbrev pub member_text : Member → List ℕ
member_text m = fde_text (fde_of m) ++ lines row_text (changes_of m)
