use Rattle.dw_dump.proofs.{Words.{◌^◌, length, ◌∙◌, lines_of, Gathers, AreApart}, DumpLaws.{overlap_fault, later_fault, all_said, kept_within, kept_byte}, RangeLaws.have_bytes, dump.dump_of.Goals.{In_ok-fault, In_default}}
use Rattle.dw_dump.proofs.dump.dump_of.Goals as goal

gathered : (c : In_ok-fault) → Gathers c.args.limit (lines_of c.args.text.now) c.gather.new.kept c.in_ok-fault.fault
gathered c = c.in_ok-fault.ensures {u = tt}

apart : (c : In_default) → AreApart c.gather.new.kept.ranges.items
apart c =
    let told = c.in_ok-place.ensures {u = tt} in
    rw (c.in_default.is, c.deref.ensures.value) at told

pub first_overlap-requires : goal.first_overlap-requires
first_overlap-requires c =
    let kept = c.gather.new.kept in
    rw c.deref.ensures.value (have_bytes (2 ^ 64) (length kept.bytes.items) kept.ranges.items (kept_within c.requires (gathered (goal.at.first_overlap-requires c).In_ok-fault)))

pub returns-in-Some-clause-first : goal.returns-in-Some-clause-first
returns-in-Some-clause-first c =
    let told = c.in_ok-place.ensures {u = tt} in
    let found = rw (c.in-Some.is, c.deref.ensures.value) at told in
    rw c.index.ensures (overlap_fault c.in-Some.place c.index.result.now (gathered (goal.at.returns-in-Some-clause-first c).In_ok-fault) found.0 found.1 found.2)

pub returns-in-Some-fault-clause-first : goal.returns-in-Some-fault-clause-first
returns-in-Some-fault-clause-first c =
    let at = goal.at.returns-in-Some-fault-clause-first c in
    later_fault (rw c.in-Some-fault.is at (gathered at.In_ok-fault)) (apart at.In_default)

pub new-requires-4 : goal.new-requires-4
new-requires-4 c = let at = goal.at.new-requires-4 c in record { apart = apart at.In_default; within = kept_within c.requires (gathered at.In_ok-fault) }

pub returns-clause-found : goal.returns-clause-found
returns-clause-found c =
    let at = goal.at.returns-clause-found c in
    let h = rw c.in_default-fault.is at (gathered at.In_ok-fault) in
    let k = h.keeps in
    (h.statements, all_said h (apart at.In_default), record { pc = k.pc; registers = k.registers; memory = λ a. c.new-4.ensures a ∙ kept_byte h a })
