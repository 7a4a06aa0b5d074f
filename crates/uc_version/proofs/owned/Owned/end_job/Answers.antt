use Rattle.std.proofs.Common.{ap, ◌∙◌, subst}
use Rattle.uc_compact.specs.Inputs.{Compaction}
use Rattle.uc_version.specs.Claiming.{Claim, without_claim}
use Rattle.uc_version.specs.Installing.{stretch_of, IsRefused}
use Rattle.uc_version.specs.Jobs.{IsMadeOf}
use Rattle.uc_version.proofs.owned.Owned.end_job.Goals as goal

pub returns-in-Some-own_refusal_of-clause-ended : goal.returns-in-Some-own_refusal_of-clause-ended
returns-in-Some-own_refusal_of-clause-ended g c =
    let o = c.args.self.now in
    let job = c.args.job.now in
    let error = c.in-Some-own_refusal_of.error in
    let claim = c.end-claim.ensures.claim in
    let made = subst (IsMadeOf job) c.in-Some.is c.end-claim.ensures.made in
    let refused = subst (λ (held : Claim). IsRefused o.version (stretch_of o held) c.in-Some.made error) claim c.in-Some-own_refusal_of.ensures.some in (
      made.0,
      subst (λ (asked : Compaction). IsRefused o.version (stretch_of o job.claim) asked error) made.1 refused,
      c.abandon-in-Some-own_refusal_of.ensures ∙ ap (without_claim o) claim,
    )
