use Rattle.dw_dump.proofs.{Words.{ℕ, ◌+◌, ◌<◌, List, [], ◌++◌, length, take, drop, ap, refl, arith, ◌∙◌, AllZip-long, take_rest, SaysWithin, Takes, lines_of}, LineLaws.{lines_first, so_far_more, some_left}, dump.gather.Goals.In_ok-code}
use Rattle.std.proofs.lemmas.List.{drop_min}
use Rattle.dw_dump.proofs.dump.gather.Goals as goal

some : (c : In_ok-code) → 0 < length c.loop-rest.rest.now
some c = some_left (length c.loop-rest.rest.now) c.is_empty.result c.is_empty.ensures c.loop-rest-test.true

takes : (c : In_ok-code) → Takes c.args.limit c.take_line.new.kept c.loop-rest.invariant.statements (take c.len_until-len.result c.loop-rest.rest.now) c.in_ok-code.field-0
takes c =
    let so_far = c.loop-rest.invariant in
    let count = so_far.count in
    let len = AllZip-long (SaysWithin c.args.limit) so_far.read so_far.statements so_far.each in
    c.in_ok-code.ensures {u = tt} so_far.statements (omega arith) so_far.keeps

pub loop-rest-init : goal.loop-rest-init
loop-rest-init c = record { read = []; statements = []; each = tt; keeps = c.requires; parts = refl; count = refl; room = omega arith }

pub returns-in-Some : goal.returns-in-Some
returns-in-Some c =
    let so_far = c.loop-rest.invariant in
    let rest = c.loop-rest.rest.now in
    let count = so_far.count in
    let at = (goal.at.returns-in-Some c).In_ok-code in
    let took = rw c.in-Some.is at (takes at) in
    record {
      read = so_far.read;
      statements = so_far.statements;
      each = so_far.each;
      keeps = took.0;
      rest = (
        take c.len_until-len.result rest,
        lines_of (drop (c.len_until-len.result + 1) rest),
        so_far.parts ∙ ap (λ (ls : List (List ℕ)). so_far.read ++ ls) (lines_first rest c.len_until-len.result c.len_until-len.ensures.value (some at)),
        took.1,
        omega arith,
      );
    }

pub loop-rest-preserved : goal.loop-rest-preserved
loop-rest-preserved c =
    let at = (goal.at.loop-rest-preserved c).In_ok-code in
    let took = rw c.in_default.is at (takes at) in
    so_far_more took.0 c.loop-rest.invariant c.len_until-len.ensures.value c.len_until-len.ensures.within (some at) took.1 took.2
    (take_rest c.loop-rest.rest.now c.min.result ∙ ap (λ (n : ℕ). drop n c.loop-rest.rest.now) c.min.ensures ∙ drop_min (c.len_until-len.result + 1) c.loop-rest.rest.now)
