-- The effect of an event on a version.
use Rattle.std.proofs.Common.{◌≡◌, refl}
use Rattle.uc_batch.specs.Rising.{last_of}
use Rattle.uc_version_state.specs.Versions.{Stored}
use Rattle.uc_version_state.specs.declared.event.Event.{Event}
use Rattle.uc_version_state.specs.declared.event.Event.TheVariants.{Installed, Flushed, Kept, Released}
use Rattle.uc_version_state.specs.Histories.{after, writes_brought}

pub last_after : (v : Stored) (e : Event) → (after v e).last ≡ last_of v.last (writes_brought e)
last_after v (Installed i) = refl
last_after v (Flushed ws) = refl
last_after v Kept = refl
last_after v (Released seq) = refl

pub limit_after : (v : Stored) (e : Event) → (after v e).limit ≡ v.limit
limit_after v (Installed i) = refl
limit_after v (Flushed ws) = refl
limit_after v Kept = refl
limit_after v (Released seq) = refl
