use Rattle.std.proofs.Common.{rules, ◌≡◌, ◌∙◌, ap, take}
use Rattle.uc_run.specs.Prefixes.{prefix_of}
use Rattle.uc_run.proofs.PrefixOrder.{prefix_of-take}
use Rattle.uc_run.proofs.prefixes.prefix_of.Goals as goal

pub returns-in-Some-clause-prefix : goal.returns-in-Some-clause-prefix
unfolding prefix_of
returns-in-Some-clause-prefix c =
    let eight : c.in-Some.first.now ≡ take 8 c.args.bytes.now = search rules in
    c.from_be_bytes.ensures ∙ ap prefix_of eight ∙ prefix_of-take c.args.bytes.now
