use Rattle.uc_query_workers.specs.Given.{GivenBySome}
use Rattle.uc_query_workers.proofs.Pieced.{mapped}
use Rattle.uc_query_workers.proofs.laws.answers_are_mapped.Goals as goal

pub returns : goal.returns
returns g c source before after answer_to queries answers alike all =
    mapped (GivenBySome (g.S.Source.gives source) before after) answer_to alike queries answers all
