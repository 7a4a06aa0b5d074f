use Rattle.std.proofs.Common.{ap, ◌∙◌, subst, sym}
use Rattle.std.specs.Prelude.{Option, Some}
use Rattle.uc_engine.specs.declared.store_job.StoreJob.{StoreJob}
use Rattle.uc_engine.specs.declared.taken_job.TakenJob.{TakenJob}
use Rattle.uc_c.specs.Jobs.{Takes}
use Rattle.uc_c.proofs.Ended.{can_go_back, went_back}
use Rattle.uc_c.proofs.jobs.start.Goals as goal

pub give_back-requires : goal.give_back-requires
give_back-requires c =
    let job = c.in-Err.refused.value.job in
    let took : Takes (Some job) c.args.engine.now c.take_job.new.self =
    subst (λ (j : Option TakenJob). Takes j c.args.engine.now c.take_job.new.self) (c.in-Some.is ∙ ap (λ (j : StoreJob). Some j.job) (sym c.in-Err.ensures.value_returned)) c.in_ok-job.ensures.ok in
    can_go_back c.claims_are_held.ensures c.flushes_go_in.ensures.started c.flushes_go_in.ensures.own job c.args.engine.now c.take_job.new.self c.recall.ensures.owner took

pub returns-in-Err-clause-err : goal.returns-in-Err-clause-err
returns-in-Err-clause-err c =
    let job = c.in-Err.refused.value.job in
    let took : Takes (Some job) c.args.engine.now c.take_job.new.self =
    subst (λ (j : Option TakenJob). Takes j c.args.engine.now c.take_job.new.self) (c.in-Some.is ∙ ap (λ (j : StoreJob). Some j.job) (sym c.in-Err.ensures.value_returned)) c.in_ok-job.ensures.ok in
    went_back c.claimable_stretches_can_be_compacted.ensures.given_back c.flushes_go_in.ensures.alone job c.args.engine.now c.take_job.new.self c.give_back.new.engine took c.give_back.ensures
