use Rattle.std.proofs.Common.{sym, subst}
use Rattle.uc_batch.specs.Rising.{IsRising}
use Rattle.uc_memtable.proofs.RisingParts.{rising_front}
use Rattle.uc_version.specs.Owners.{Owner, IsOwner}
use Rattle.uc_live.specs.Lives.{Live, owner_in}
use Rattle.uc_live.proofs.JobsHeld.{owner_is}
use Rattle.uc_live.proofs.live_store.LiveStore.recall.Goals as goal

pub returns-clause-owner : goal.returns-clause-owner
returns-clause-owner g c =
    let i = c.self.inside in
    subst (λ (l : Live). IsOwner (owner_in l)) c.self.view_is (subst (λ (o : Owner). IsOwner o) (sym (owner_is i c.self.invariant)) c.recall.ensures)

pub returns-clause-rising : goal.returns-clause-rising
returns-clause-rising g c =
    let i = c.self.inside in
    subst (λ (l : Live). IsRising l.version.last l.gathered) c.self.view_is (rising_front i.owned.version.last i.active.shown i.active.waiting c.self.invariant.rising)
