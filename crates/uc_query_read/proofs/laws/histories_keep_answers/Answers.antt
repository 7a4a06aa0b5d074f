use Rattle.std.proofs.Common.{inl}
use Rattle.uc_query_read.specs.Query.{at_of}
use Rattle.uc_version_state.specs.Versions.{writes_in}
use Rattle.uc_version_state.specs.Histories.{version_after, writes_given}
use Rattle.uc_query_read.proofs.laws.histories_keep_answers.Goals as goal

pub returns : goal.returns
returns g c h query legal =
    c.equal_values_give_equal_answers.ensures (writes_in (version_after h)) (writes_given h) (version_after h).keeps query
    (λ kept key reads. c.histories_keep_what_is_read.ensures.values h key (at_of query) legal (inl kept))
