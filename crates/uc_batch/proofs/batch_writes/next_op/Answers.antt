use Rattle.std.proofs.Common.{◌≡◌, ◌<◌, length, Ok, Some, None, ◌∙◌, rules}
use Rattle.uc_batch.specs.Records.{record_at}
use Rattle.uc_batch.proofs.Counted.{first_judged, never_fails, nothing_judged}
use Rattle.uc_batch.proofs.batch_writes.next_op.Goals as goal

pub returns-in-Ok-Some-clause-fine : goal.returns-in-Ok-Some-clause-fine
returns-in-Ok-Some-clause-fine c =
    let l = c.loop-batch in
    let some : 0 < length l.batch.rest.now = search rules in
    let read : record_at l.batch.total l.batch.rest.now ≡ Ok (Some c.in-Ok-Some.op, c.read_record.new.batch.rest.now) = rw (← c.in-Ok-Some.field-0-is) c.in-Ok-Some.ensures.value in
    rw c.read_record.ensures.total (first_judged l.batch.total l.batch.rest.now c.read_record.new.batch.rest.now (Some c.in-Ok-Some.op) some l.invariant.fine read).0

pub returns-in-Ok-Some-clause-ops : goal.returns-in-Ok-Some-clause-ops
returns-in-Ok-Some-clause-ops c =
    let l = c.loop-batch in
    let some : 0 < length l.batch.rest.now = search rules in
    let read : record_at l.batch.total l.batch.rest.now ≡ Ok (Some c.in-Ok-Some.op, c.read_record.new.batch.rest.now) = rw (← c.in-Ok-Some.field-0-is) c.in-Ok-Some.ensures.value in
    rw c.read_record.ensures.total (l.invariant.ops ∙ (first_judged l.batch.total l.batch.rest.now c.read_record.new.batch.rest.now (Some c.in-Ok-Some.op) some l.invariant.fine read).1)

pub loop-batch-preserved : goal.loop-batch-preserved
loop-batch-preserved c =
    let l = c.loop-batch in
    let some : 0 < length l.batch.rest.now = search rules in
    let read : record_at l.batch.total l.batch.rest.now ≡ Ok (None, c.read_record.new.batch.rest.now) = rw (← c.in-Ok-None.field-0-is) c.in-Ok-None.ensures.value in
    let there = first_judged l.batch.total l.batch.rest.now c.read_record.new.batch.rest.now None some l.invariant.fine read in
    rw c.read_record.ensures.total (record { fine = there.0; ops = l.invariant.ops ∙ there.1 })

pub unreachable-requires : goal.unreachable-requires
unreachable-requires c =
    let l = c.loop-batch in
    let some : 0 < length l.batch.rest.now = search rules in
    never_fails l.batch.total l.batch.rest.now _ some l.invariant.fine c.in-Err.ensures.value

pub returns-clause-none : goal.returns-clause-none
returns-clause-none c = let empty : length c.loop-batch.batch.rest.now ≡ 0 = search rules in nothing_judged c.loop-batch.batch.total c.loop-batch.batch.rest.now empty
