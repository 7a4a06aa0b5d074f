use Rattle.std.proofs.Common.{refl, sym, subst}
use Rattle.uc_live.specs.Lives.{Live}
use Rattle.uc_live.specs.Adding.{IsQuiet}
use Rattle.uc_live.proofs.Added.{added_is_live}
use Rattle.uc_live.proofs.live_store.LiveStore.add_run.Goals as goal

pub invariant_of-self : goal.invariant_of-self
invariant_of-self g c =
    let quiet = subst (λ (l : Live). IsQuiet l) (sym c.self.view_is) (c.if-not-is_quiet.ensures.0 refl) in
    added_is_live c.self.inside c.self.invariant c.in-Ok.next c.args.run c.in-Ok.ensures.ok quiet.0 quiet.1
