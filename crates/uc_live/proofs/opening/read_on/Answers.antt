use Rattle.std.proofs.Common.{subst}
use Rattle.uc_batch.specs.Position.{BatchComesFirst, Advances}
use Rattle.uc_batch.specs.declared.batch_reader.Advance.{Advance}
use Rattle.uc_live.proofs.LogTaken.{none_read, next_rises, one_read, all_read, ends}
use Rattle.uc_live.proofs.opening.read_on.Goals as goal

pub loop-store-init : goal.loop-store-init
loop-store-init g c = none_read g.O.Operator.meaning c.args.store.now c.args.batches.now c.requires.none c.requires.last

pub prepare_writes-requires-clause-none : goal.prepare_writes-requires-clause-none
prepare_writes-requires-clause-none g c = c.loop-store.invariant.none

pub prepare_writes-requires-clause-rising : goal.prepare_writes-requires-clause-rising
prepare_writes-requires-clause-rising g c =
    let comes : BatchComesFirst c.loop-store.batches c.advance.new.self =
    subst (λ (a : Advance). Advances a c.loop-store.batches c.advance.new.self) c.in-Batch.is c.in_ok-advance.ensures.ok in
    next_rises g.O.Operator.meaning c.args.store.now c.loop-store.store c.args.batches.now.ahead c.loop-store.batches c.advance.new.self c.loop-store.invariant comes c.writes.result c.writes.ensures

pub loop-store-smaller : goal.loop-store-smaller
loop-store-smaller g c =
    let comes : BatchComesFirst c.loop-store.batches c.advance.new.self =
    subst (λ (a : Advance). Advances a c.loop-store.batches c.advance.new.self) c.in-Batch.is c.in_ok-advance.ensures.ok in
    comes.fewer

pub loop-store-preserved : goal.loop-store-preserved
loop-store-preserved g c =
    let comes : BatchComesFirst c.loop-store.batches c.advance.new.self =
    subst (λ (a : Advance). Advances a c.loop-store.batches c.advance.new.self) c.in-Batch.is c.in_ok-advance.ensures.ok in
    one_read g.O.Operator.meaning c.args.store.now c.loop-store.store c.args.batches.now.ahead c.loop-store.batches c.advance.new.self c.loop-store.invariant comes c.writes.result c.writes.ensures
    c.prepare_writes.new.self c.commit.new.self c.in_ok-prepare_writes-in-Batch.ensures.ok c.commit.ensures

pub returns-in-Ended-clause-goes_on : goal.returns-in-Ended-clause-goes_on
returns-in-Ended-clause-goes_on g c =
    let told = subst (λ (a : Advance). Advances a c.loop-store.batches c.advance.new.self) c.in-Ended.is c.in_ok-advance.ensures.ok in
    all_read g.O.Operator.meaning c.args.store.now c.loop-store.store c.args.batches.now.ahead c.loop-store.batches c.advance.new.self c.loop-store.invariant c.in-Ended.ended told.0

pub returns-in-Ended-clause-none : goal.returns-in-Ended-clause-none
returns-in-Ended-clause-none g c = c.loop-store.invariant.none

pub returns-in-Ended-clause-ended : goal.returns-in-Ended-clause-ended
returns-in-Ended-clause-ended g c =
    let told = subst (λ (a : Advance). Advances a c.loop-store.batches c.advance.new.self) c.in-Ended.is c.in_ok-advance.ensures.ok in
    ends g.O.Operator.meaning c.args.store.now c.loop-store.store c.args.batches.now.ahead c.loop-store.batches c.advance.new.self c.loop-store.invariant c.in-Ended.ended told.0
