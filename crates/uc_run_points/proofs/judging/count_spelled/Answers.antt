use Rattle.std.proofs.Common.{◌≡◌, ◌-◌, ◌<◌, length, refl, arith}
use Rattle.std.proofs.lemmas.Bool.Decides.{nat_tests}
use Rattle.uc_run_points.proofs.Judged.{read_few, one_read, shorter, fault_there, all_spelled, all_starts}
use Rattle.uc_run_points.proofs.judging.count_spelled.Goals as goal

pub returns-in-None-clause-fault : goal.returns-in-None-clause-fault
returns-in-None-clause-fault c =
    let bytes = c.args.bytes.now in
    let rest = c.loop-rest.rest.now in
    let some : 0 < length rest = grind (arith, nat_tests) in
    fault_there bytes rest c.loop-rest.count (length bytes - length rest) c.loop-rest.starts.items refl some c.loop-rest.invariant c.in-None.ensures.none

pub overflow_add-count : goal.overflow_add-count
overflow_add-count c =
    omega (arith, read_few c.args.bytes.now c.loop-rest.rest.now c.loop-rest.count c.loop-rest.starts.items c.loop-rest.invariant, shorter c.loop-rest.rest.now c.in-Some.after.now c.in-Some.ensures.some)

pub loop-rest-smaller : goal.loop-rest-smaller
loop-rest-smaller c = shorter c.loop-rest.rest.now c.in-Some.after.now c.in-Some.ensures.some

pub loop-rest-preserved : goal.loop-rest-preserved
loop-rest-preserved c =
    let bytes = c.args.bytes.now in
    let rest = c.loop-rest.rest.now in
    one_read bytes rest c.in-Some.after.now c.loop-rest.count (length bytes - length rest) c.loop-rest.starts.items c.push_start.new.starts.items refl
    c.in_ok-push_start.ensures.pushed c.loop-rest.invariant c.in-Some.ensures.some

pub returns-clause-spelled : goal.returns-clause-spelled
returns-clause-spelled c =
    let none : length c.loop-rest.rest.now ≡ 0 = grind (arith, nat_tests) in
    all_spelled c.args.bytes.now c.loop-rest.rest.now c.loop-rest.count c.loop-rest.starts.items c.loop-rest.invariant none

pub returns-clause-starts : goal.returns-clause-starts
returns-clause-starts c =
    let none : length c.loop-rest.rest.now ≡ 0 = grind (arith, nat_tests) in
    all_starts c.args.bytes.now c.loop-rest.rest.now c.loop-rest.count c.loop-rest.starts.items c.loop-rest.invariant none
