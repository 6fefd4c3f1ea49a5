-- Where the registers of a row lie: those below 128 in slots under a mask, with their expressions in a tree, and the others in another tree.
use Rattle.std.specs.Prelude.{◌≡◌, ℕ, zero, suc, ◌<◌, ◌≤◌, ◌-◌, ◌%◌, ℤ, pos, List, [], ◌∷◌, length, set, Bool, Option, Some, None, IsTrue, nat_eq, nat_lt, if◌then◌else◌}
use Rattle.std.specs.{BTreeMap.Range.entries_between, Int.{bit_at, cast_unsigned, w64}, Ordering.nat_cmp, declared.ops.Bound.TheVariants.Unbounded}
use Rattle.std.proofs.Math.ListN.{get_or}
use Rattle.dw_row.specs.{Rows.{AreSpecified, is_specified, rule_in, listed}, declared.{entries.Entries.Entries, rule.RegRule.RegRule, slot.{Slot.Slot, Slots.Slots}}}
use Rattle.dw_row.specs.Inner.Difference.{start_behind}
use Rattle.dw_row.specs.declared.rule.RegRule.TheVariants as rules
use Rattle.dw_row.specs.declared.slot.Slot.TheVariants as slots

-- the rule of a kind with its number, where this is the one beside the slots
abbrev pub kind_rule : Slot → ℤ → RegRule → RegRule
kind_rule slots.Undefined n block = rules.Undefined
kind_rule slots.SameValue n block = rules.SameValue
kind_rule slots.Offset n block = rules.Offset n
kind_rule slots.ValOffset n block = rules.ValOffset n
kind_rule slots.Register n block = rules.Register (cast_unsigned w64 n % 65536)
kind_rule slots.Beside n block = block

-- the rule that a slot holds, which is a kind and a number
abbrev pub slot_rule : Slot × ℤ → RegRule → RegRule
slot_rule s block = kind_rule s.0 s.1 block

-- a slot that holds a rule by itself
abbrev pub IsSlotOf : RegRule → Slot × ℤ → Type 0
IsSlotOf rule s = (block : RegRule) → slot_rule s block ≡ rule

-- a slot holds the rule by itself: it has no expression
abbrev pub HasSlot : RegRule → Type 0
HasSlot rules.Unspecified = ⊥
HasSlot (rules.Expression e) = ⊥
HasSlot (rules.ValExpression e) = ⊥
HasSlot rule = Unit {0}

-- of the rules beside the slots none has one
abbrev pub NoneHasSlot : List (ℕ × RegRule) → Type 0
NoneHasSlot expressions = (q : ℕ) → HasSlot (rule_in expressions q) → ⊥

-- there is a slot for each register below 128
abbrev pub HasRoom : Slots → Type 0
HasRoom near = (length near.kinds ≡ 128) × (length near.numbers ≡ 128)

-- a slot's kind and number, or what an index outside would find; and the slots once one is set
abbrev pub slot_at : Slots → ℕ → Slot × ℤ
slot_at near q = (get_or near.kinds q slots.Undefined, get_or near.numbers q (pos 0))

abbrev pub set_at : Slots → ℕ → Slot × ℤ → Slots
set_at near q s = record { kinds = set near.kinds q s.0; numbers = set near.numbers q s.1 }

-- a register has the rule of its slot where the mask has it
abbrev pub rule_if : ℕ → Slot × ℤ → RegRule → RegRule
rule_if bit s block = if nat_eq bit 1 then slot_rule s block else rules.Unspecified

abbrev pub near_rule : ℕ → Slots → List (ℕ × RegRule) → ℕ → RegRule
near_rule used near expressions q = rule_if (bit_at used q) (slot_at near q) (rule_in expressions q)

-- so many registers from k on, with their rules, before others
unfoldable pub listed_from : ℕ → ℕ → (ℕ → RegRule) → List (ℕ × RegRule) → List (ℕ × RegRule)
listed_from k zero rule far = far
listed_from k (suc n) rule far = listed k (rule k) (listed_from (suc k) n rule far)

-- those below 128 that are left from k on
abbrev pub listed_near : ℕ → ℕ → Slots → List (ℕ × RegRule) → List (ℕ × RegRule) → List (ℕ × RegRule)
listed_near k used near expressions far = listed_from k (128 - k) (near_rule used near expressions) far

-- those of a tree behind a register, or all of them
abbrev pub far_behind : Option ℕ → List (ℕ × RegRule) → List (ℕ × RegRule)
far_behind behind far = entries_between nat_cmp (start_behind behind) Unbounded far

-- the registers that are not Unspecified, ascending, with their rules
abbrev pub entries_of : Entries → List (ℕ × RegRule)
entries_of e = listed_near 0 e.used e.slots e.expressions.entries e.far.entries

-- the first of a tree behind a register, or of all of it; none where none is there
abbrev pub FirstBehind : Option ℕ → List (ℕ × RegRule) → Option (ℕ × RegRule) → Type 0
FirstBehind behind far None = far_behind behind far ≡ []
FirstBehind behind far (Some entry) = far_behind behind far ≡ entry ∷ far_behind (Some entry.0) far

-- a register has the rule of the slot that is found, and is Unspecified where none is
abbrev pub FindsSlot : Entries → ℕ → Option (Slot × ℤ) → Type 0
FindsSlot e r None = rule_in (entries_of e) r ≡ rules.Unspecified
FindsSlot e r (Some slot) = rule_in (entries_of e) r ≡ slot_rule slot (rule_in e.expressions.entries r)

-- the slots of a mask are those of others
abbrev pub SameSlots : ℕ → Slots → Slots → Type 0
SameSlots mask others near = (q : ℕ) → bit_at mask q ≡ 1 → slot_at near q ≡ slot_at others q

-- all other slots are as they were
abbrev pub SameOutside : ℕ → Slots → Slots → Type 0
SameOutside mask old new = (q : ℕ) → bit_at mask q ≡ 0 → slot_at new q ≡ slot_at old q

-- a register that the mask has has a rule
abbrev pub Holds : ℕ → Slots → List (ℕ × RegRule) → Type 0
Holds used near expressions = (q : ℕ) → bit_at used q ≡ 1 → IsTrue (is_specified (near_rule used near expressions q))

-- the trees ascend, the slots are those below all that have none, and no rule is kept beside them without need
pub record EntriesSo (e : Entries) : Type 0 where
  pub used : Holds e.used e.slots e.expressions.entries
  pub slots : HasRoom e.slots
  pub expressions : AreSpecified 0 e.expressions.entries
  pub beside : NoneHasSlot e.expressions.entries
  pub far : AreSpecified 128 e.far.entries

-- the first bit of a mask from a place on, of those below an end
abbrev pub FirstIn : ℕ → Option ℕ → ℕ → ℕ → Type 0
FirstIn end None mask place = (q : ℕ) → place ≤ q → q < end → bit_at mask q ≡ 0
FirstIn end (Some r) mask place = (place ≤ r) × (r < end) × (bit_at mask r ≡ 1) × ((q : ℕ) → place ≤ q → q < r → bit_at mask q ≡ 0)

abbrev pub FirstBit : Option ℕ → ℕ → ℕ → Type 0
FirstBit first mask place = FirstIn 128 first mask place

-- what a test of entries leaves of a register's rule
abbrev pub left : (ℕ × RegRule → Bool) → ℕ → RegRule → RegRule
left test r rule = if test (r, rule) then rule else rules.Unspecified

-- what it leaves of some registers, of one, or of those below one. All others stay.
abbrev pub LeavesAmong : (ℕ → Bool) → (ℕ × RegRule → Bool) → List (ℕ × RegRule) → List (ℕ × RegRule) → Type 0
LeavesAmong among test old new = (q : ℕ) → rule_in new q ≡ (if among q then left test q (rule_in old q) else rule_in old q)

abbrev pub LeavesAt : (ℕ × RegRule → Bool) → ℕ → List (ℕ × RegRule) → List (ℕ × RegRule) → Type 0
LeavesAt test r old new = (q : ℕ) → rule_in new q ≡ (if nat_eq r q then left test q (rule_in old q) else rule_in old q)

abbrev pub LeavesBelow : (ℕ × RegRule → Bool) → ℕ → List (ℕ × RegRule) → List (ℕ × RegRule) → Type 0
LeavesBelow test n old new = (q : ℕ) → rule_in new q ≡ (if nat_lt q n then left test q (rule_in old q) else rule_in old q)
