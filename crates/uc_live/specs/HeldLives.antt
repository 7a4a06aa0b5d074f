-- How a live store is held.
use Rattle.std.specs.Prelude.{◌≡◌, ℕ, ◌-◌, ◌^◌, ◌<◌, ◌↔◌, true, ◌++◌, Contains, IfSome}
use Rattle.uc_batch.specs.Rising.{IsRising}
use Rattle.uc_run.specs.Size.{memtable_size}
use Rattle.uc_live.specs.LiveOptions.{are_good}
use Rattle.uc_live.specs.Lives.{Live}
use Rattle.uc_live.specs.declared.live_store.LiveStore.TheInside.{Inside}

abbrev pub live : {O : Type 0} → Inside O → Live
live i = record {
  version = i.owned.version;
  gathered = i.active.shown;
  prepared = i.active.waiting;
  snapshots = i.snapshots.items;
  claims = i.owned.claims;
  flushes = i.flushes;
  leaving = i.leaving;
  options = i.options;
}

pub record IsLive {O : Type 0} (i : Inside O) : Type 0 where
  pub options_good : are_good i.options ≡ true
  -- its owner compacts by them
  pub options_are : i.owned.options ≡ i.options.store
  -- the version never cuts what it is fed
  pub whole : i.owned.version.limit ≡ 2 ^ 64 - 1
  pub small : memtable_size (i.active.shown ++ i.active.waiting) < 2 ^ 64 - 1
  -- shown and prepared writes are newer than the runs
  pub rising : IsRising i.owned.version.last (i.active.shown ++ i.active.waiting)
  -- what leaves is set apart
  pub leaves : IfSome i.leaving (λ n. i.active.apart ≡ n)
  -- the keeps are the sequences of the snapshots
  pub taken : (seq : ℕ) → Contains i.snapshots.items seq ↔ Contains i.owned.version.keeps seq
