-- Effects of feeding, keeping and releasing on an owner.
use Rattle.std.specs.Prelude.{◌≡◌, ◌≢◌, ℕ, ◌+◌, ◌<◌, List, [], ◌∷◌, Option, Some, None, map, length}
use Rattle.uc_bytes.specs.declared.write.Write.{Write}
use Rattle.uc_batch.specs.Rising.{IsRising, last_of}
use Rattle.uc_run_entry.specs.Run.{Contents}
use Rattle.uc_run.specs.Flush.{flushed}
use Rattle.uc_run.specs.Size.{memtable_size}
use Rattle.uc_version_state.specs.Versions.{Stored}
use Rattle.uc_version_state.specs.Feeds.{memtables_in, fed, feed_refusal}
use Rattle.uc_version_state.specs.Snapshots.{kept, released}
use Rattle.uc_version.specs.declared.held_stretch.HeldStretch.{HeldStretch}
use Rattle.uc_version.specs.Owners.{Owner}

-- a held stretch, after `count` more runs
abbrev pub moved_down : ℕ → Option HeldStretch → Option HeldStretch
moved_down count None = None
moved_down count (Some h) = Some (record h { first = h.first + count })

-- the owner after writes were fed: claims continue to hold their runs, which are after the new ones
abbrev pub after_feed : List Write → Owner → Owner
after_feed ws o = record o { version = fed ws o.version; claims = map (moved_down (length (memtables_in o.version ws))) o.claims }

-- the owner after the last sequence was kept, and after a keep was released
abbrev pub after_keep : Owner → Owner
after_keep o = record o { version = kept o.version }

abbrev pub after_release : ℕ → Owner → Owner
after_release seq o = record o { version = released seq o.version }

-- The writes make one run of a version, which is this one, and are newer than all that it has.
pub record MakesRun (v : Stored) (run : Contents) (last : ℕ) (ws : List Write) : Type 0 where
  pub some : ws ≢ []
  pub small : memtable_size ws < v.limit
  pub rising : IsRising v.last ws
  pub run_is : run ≡ flushed ws
  pub last_is : last ≡ last_of v.last ws

-- Some writes do.
abbrev pub IsOfWrites : Stored → Contents → ℕ → Type 0
IsOfWrites v run last = (ws : List Write) × MakesRun v run last ws

-- The version after writes were fed that make one run.
pub record Shows (v next : Stored) (ws : List Write) : Type 0 where
  pub rising : IsRising v.last ws
  pub none : feed_refusal v ws ≡ None
  pub one : memtables_in v ws ≡ ws ∷ []
  pub next_is : next ≡ fed ws v
