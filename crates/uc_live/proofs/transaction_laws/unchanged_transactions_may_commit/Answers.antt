use Rattle.std.proofs.Common.{ap, sym, ◌∙◌}
use Rattle.std.proofs.Common.{◌++◌}
use Rattle.uc_batch.specs.Rising.{last_of}
use Rattle.uc_model.specs.Meaning.{value_of}
use Rattle.uc_live.specs.Judging.{value_before, value_now}
use Rattle.uc_live.specs.Views.{seen_in}
use Rattle.uc_version_state.specs.Histories.{writes_given}
use Rattle.uc_live.proofs.Judged.{later_above, unchanged_as}
use Rattle.uc_live.proofs.transaction_laws.unchanged_transactions_may_commit.Goals as goal

pub returns : goal.returns
returns g c old new before since writes reads taken rising taken' rising' unchanged =
    let m = g.O.Operator.meaning in
    let h = taken'.history in
    let above = later_above before since (writes_given h) new.gathered new.version.last taken'.writes
    (c.histories_say_writes_and_keeps.ensures.rising h taken'.legal)
    (c.histories_say_writes_and_keeps.ensures.last h taken'.legal ∙ sym (ap (λ v. v.last) taken'.version))
    rising' in
    c.reads_of_equal_values_are_current.ensures (before ++ since) writes (last_of 0 before) reads
    (unchanged_as (value_before m (seen_in old)) (value_now m new)
    (λ key. value_of m (before ++ since) key (last_of 0 before)) (λ key. value_of m (before ++ since) key (last_of 0 (before ++ since))) reads
    (λ key. c.views_answer_as_their_writes.ensures.value old before key taken rising
    ∙ sym (c.later_writes_change_nothing.ensures.value before since key (last_of 0 before) above))
    (λ key. c.stores_answer_as_their_writes.ensures.value new (before ++ since) key taken' rising')
    unchanged)
