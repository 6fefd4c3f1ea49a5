use Rattle.dw_dump.proofs.{Words.{◌≡◌, ℕ, ◌-◌, ◌^◌, ◌<◌, ◌≤◌, List, length, true, false, get_or, rules, sym, arith, nat_le, IsPartitionPoint, leb-true, leb-false, IsPartitionPoint-from_clause, IsPartitionedBy-leb, Range}, RangeLaws.{begins_rise, none_begun, byte_here, byte_missing}, memory.byte_at.Goals.After-partition_point-begun}
use Rattle.dw_dump.proofs.memory.byte_at.Goals as goal

no_range : Range
no_range = record { address = 0; place = 0; len = 0; line = 0 }

-- so many ranges begin at or below an address
abbrev Begun : List Range → ℕ → ℕ → Type 0
Begun rs a n = IsPartitionPoint (λ (r : Range). nat_le r.address a ≡ true) (λ (r : Range). nat_le r.address a ≡ false) rs n

-- the last of them does, and each behind it begins above
last : (rs : List Range) (a n : ℕ) → Begun rs a n → (n ≡ 0 → ⊥) → (get_or rs (n - 1) no_range).address ≤ a
last rs a n begun some = leb-true (get_or rs (n - 1) no_range).address a (begun.0 (n - 1) no_range (omega arith) (omega (arith, some)))

above : (rs : List Range) (a n : ℕ) → Begun rs a n → (k : ℕ) (d : Range) → n ≤ k → k < length rs → a < (get_or rs k d).address
above rs a n begun k d le lt = leb-false (get_or rs k d).address a (begun.1 k d le lt)

begun : (c : After-partition_point-begun) → Begun c.args.ranges.now c.args.address c.partition_point-begun.result
begun c = IsPartitionPoint-from_clause (λ (r : Range). nat_le r.address c.args.address) _ _ c.partition_point-begun.ensures.partitioned (IsPartitionedBy-leb (λ (r : Range). r.address) c.args.ranges.now c.args.address (begins_rise c.args.ranges.now c.requires.rise)) (λ a r f' k. search rules)

pub overflow_sub-offset : goal.overflow_sub-offset
unfolding no_range
overflow_sub-offset c = last c.args.ranges.now c.args.address c.partition_point-begun.result (begun (goal.at.overflow_sub-offset c).After-partition_point-begun) c.if-begun-eq0.false

pub returns-then-begun-eq0 : goal.returns-then-begun-eq0
returns-then-begun-eq0 c =
    sym (none_begun c.args.bytes.now c.args.address c.args.ranges.now (λ k d lt. above c.args.ranges.now c.args.address c.partition_point-begun.result (begun (goal.at.returns-then-begun-eq0 c).After-partition_point-begun) k d (omega (arith, c.if-begun-eq0.true)) lt))

pub returns-then-offset-range : goal.returns-then-offset-range
unfolding no_range
returns-then-offset-range c =
    let low = last c.args.ranges.now c.args.address c.partition_point-begun.result (begun (goal.at.returns-then-offset-range c).After-partition_point-begun) c.if-begun-eq0.false in
    byte_here (2 ^ 64) c.args.bytes.now c.args.address c.args.ranges.now (c.partition_point-begun.result - 1) no_range c.requires.rise c.requires.within (omega (arith, c.if-begun-eq0.false, c.partition_point-begun.ensures.bound)) low (omega (arith, low, c.if-offset-range.true))

pub returns-else-offset-range : goal.returns-else-offset-range
unfolding no_range
returns-else-offset-range c =
    let low = last c.args.ranges.now c.args.address c.partition_point-begun.result (begun (goal.at.returns-else-offset-range c).After-partition_point-begun) c.if-begun-eq0.false in
    sym (byte_missing c.args.bytes.now c.args.address c.args.ranges.now (c.partition_point-begun.result - 1) no_range c.requires.rise (omega (arith, c.if-begun-eq0.false, c.partition_point-begun.ensures.bound)) low (omega (arith, low, c.if-offset-range.false))
    (λ k e l m. above c.args.ranges.now c.args.address c.partition_point-begun.result (begun (goal.at.returns-else-offset-range c).After-partition_point-begun) k e (omega (arith, l)) m))
