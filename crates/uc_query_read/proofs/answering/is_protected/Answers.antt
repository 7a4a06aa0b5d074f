use Rattle.std.proofs.Common.{◌∙◌}
use Rattle.uc_query_read.proofs.Protection.{protected_by}
use Rattle.uc_query_read.proofs.answering.is_protected.Goals as goal

pub returns : goal.returns
returns c =
    c.is_ok.ensures.value ∙ protected_by c.args.at c.args.keeps.now c.requires c.binary_search.result c.binary_search.ensures.bound c.binary_search.ensures.position
