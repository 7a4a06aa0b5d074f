use Rattle.std.proofs.Common.{◌≡◌, ◌<◌, length, Ok, Err, ◌∙◌, rules}
use Rattle.std.specs.Prelude.{IsSome}
use Rattle.std.proofs.lemmas.List.{nil_from_length}
use Rattle.std.proofs.lemmas.Result.{err_from_is_err_and}
use Rattle.uc_batch.specs.Records.{record_at}
use Rattle.uc_batch.proofs.Counted.{counts_some, passes_other, is_whole, is_wrong, fails}
use Rattle.uc_batch.proofs.batch_writes.judge_records.Goals as goal

pub returns-in_err-read_record-clause-err : goal.returns-in_err-read_record-clause-err
returns-in_err-read_record-clause-err c =
    let a = c.args.batch in
    let l = c.loop-batch in
    let some : 0 < length l.batch.rest.now = search rules in
    let p = err_from_is_err_and c.from_residual.result c.from_residual.ensures.1 in
    let fault : record_at a.total l.batch.rest.now ≡ Err c.in_err-read_record.field-0.0 = rw (← l.invariant.same) c.in_err-read_record.ensures.value in
    rw (p.1, p.2) (λ sequence. fails a.total a.rest.now l.counted l.batch.rest.now l.invariant.so_far c.in_err-read_record.field-0.0 some fault sequence c.args.count)

pub loop-batch-preserved-then-is_some : goal.loop-batch-preserved-then-is_some
loop-batch-preserved-then-is_some c =
    let a = c.args.batch in
    let l = c.loop-batch in
    let some : 0 < length l.batch.rest.now = search rules in
    let counted : IsSome c.in_ok-read_record.field-0 = search rules in
    let read : record_at a.total l.batch.rest.now ≡ Ok (c.in_ok-read_record.field-0, c.read_record.new.batch.rest.now) = rw (← l.invariant.same) c.in_ok-read_record.ensures.value in
    record {
      same = c.read_record.ensures.total ∙ l.invariant.same;
      so_far = counts_some a.total a.rest.now l.counted l.batch.rest.now c.read_record.new.batch.rest.now some c.read_record.ensures.shorter l.invariant.so_far c.in_ok-read_record.field-0 counted read;
    }

pub loop-batch-preserved : goal.loop-batch-preserved
loop-batch-preserved c =
    let a = c.args.batch in
    let l = c.loop-batch in
    let some : 0 < length l.batch.rest.now = search rules in
    let passed : IsSome c.in_ok-read_record.field-0 → ⊥ = search rules in
    let read : record_at a.total l.batch.rest.now ≡ Ok (c.in_ok-read_record.field-0, c.read_record.new.batch.rest.now) = rw (← l.invariant.same) c.in_ok-read_record.ensures.value in
    record {
      same = c.read_record.ensures.total ∙ l.invariant.same;
      so_far = passes_other a.total a.rest.now l.counted l.batch.rest.now c.read_record.new.batch.rest.now some c.read_record.ensures.shorter l.invariant.so_far c.in_ok-read_record.field-0 passed read;
    }

pub returns-then-counted-from-clause-err : goal.returns-then-counted-from-clause-err
returns-then-counted-from-clause-err c =
    let a = c.args.batch in
    let l = c.loop-batch in
    let empty : length l.batch.rest.now ≡ 0 = search rules in
    λ sequence. is_wrong a.total a.rest.now l.counted l.batch.rest.now l.invariant.so_far (nil_from_length l.batch.rest.now empty) sequence c.args.count (search rules)

pub returns-clause-ok : goal.returns-clause-ok
returns-clause-ok c =
    let a = c.args.batch in
    let l = c.loop-batch in
    let empty : length l.batch.rest.now ≡ 0 = search rules in
    is_whole a.total a.rest.now l.counted l.batch.rest.now l.invariant.so_far (nil_from_length l.batch.rest.now empty) c.args.count (search rules)
