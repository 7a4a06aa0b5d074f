use Rattle.uc_version_state.proofs.MayBe.{may_be}
use Rattle.uc_version_state.proofs.version.Version.refusal.Goals as goal

pub returns-clause-none : goal.returns-clause-none
returns-clause-none c = may_be c.args.self.now c.args.install.now c.recall.ensures c.terms_refusal.result c.terms_refusal.ensures.none
