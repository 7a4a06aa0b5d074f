-- Later states of a live store.
use Rattle.std.specs.Prelude.{◌≡◌, ◌⊎◌, true, List, ◌++◌, None, fold}
use Rattle.std.specs.List.{flat_map}
use Rattle.uc_bytes.specs.declared.write.Write.{Write}
use Rattle.uc_oper.specs.Operation.{Operation}
use Rattle.uc_version_state.specs.Versions.{Stored}
use Rattle.uc_version_state.specs.declared.event.Event.{Event}
use Rattle.uc_version_state.specs.Histories.{MayFollow, KeepsStay, after, writes_brought}
use Rattle.uc_version.specs.Owners.{Owner}
use Rattle.uc_version.specs.Claiming.{Claim, is_held}
use Rattle.uc_version.specs.Installing.{claimed_runs}
use Rattle.uc_live.specs.Lives.{Live, owner_in, has_claims}

-- Events happened to a version, each of which was allowed, and none of them took or released a snapshot. The writes in memtables
-- before, followed by `ws`, are those that the events brought, followed by those in memtables now.
pub record Follows (m : Operation) (v v' : Stored) (gathered gathered' ws : List Write) : Type 0 where
  pub events : List Event
  pub follow : MayFollow m v events
  pub keeps_stay : KeepsStay events
  pub version : v' ≡ fold after v events
  pub writes : flat_map writes_brought events ++ gathered' ≡ gathered ++ ws

-- Each claim that was held is held, with the runs that it had.
abbrev pub HoldsOn : Owner → Owner → Type 0
HoldsOn o p = (c : Claim) → is_held o c ≡ true → (is_held p c ≡ true) × (claimed_runs p c ≡ claimed_runs o c)

-- A pending flush job still is, and its writes stay in memtables, before newer ones; or its writes became a run, and it is no
-- longer pending. No new one is taken.
abbrev pub LetsLeave : Live → Live → Type 0
LetsLeave old new =
    (new.flushes ≡ old.flushes)
    × (((new.leaving ≡ old.leaving) × ((more : List Write) × (new.gathered ≡ old.gathered ++ more))) ⊎ (new.leaving ≡ None))

-- The store took these writes. Memtables may have been flushed, and runs without a claim may have been compacted. Its snapshots,
-- options and claims stay, and no claim is added.
abbrev pub GoesOn : Operation → Live → Live → List Write → Type 0
GoesOn m old new ws =
    Follows m old.version new.version old.gathered new.gathered ws × (new.snapshots ≡ old.snapshots) × (new.options ≡ old.options)
    × HoldsOn (owner_in old) (owner_in new) × (has_claims new ≡ has_claims old) × LetsLeave old new
