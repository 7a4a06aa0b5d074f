use Rattle.std.proofs.Common.{subst, sym}
use Rattle.uc_batch.specs.Rising.{IsRising}
use Rattle.uc_memtable.proofs.RisingParts.{rising_front}
use Rattle.uc_version_state.specs.Versions.{Stored}
use Rattle.uc_live.proofs.live_store.LiveStore.scan.Goals as goal

pub last_rows-requires : goal.last_rows-requires
last_rows-requires g c =
    let active = c.self.inside.active in
    subst (λ (v : Stored). IsRising v.last active.shown) (sym c.version.ensures)
    (rising_front c.self.inside.owned.version.last active.shown active.waiting c.self.invariant.rising)
