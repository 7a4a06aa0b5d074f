-- How the memtables of an opening are held.
use Rattle.std.specs.Prelude.{◌≡◌, List}
use Rattle.uc_bytes.specs.declared.write.Write.{Write}
use Rattle.uc_batch.specs.Rising.{IsRising}
use Rattle.uc_version_open.specs.Progress.{Progress, progress_of}
use Rattle.uc_version_open.specs.declared.opener.Opener.TheInside.{Inside}

abbrev pub progress : Inside → Progress
progress o = record { options = o.options; last = o.last; held = o.memtables }

-- some writes, which rise, came so far
pub record HasProgressed (o : Inside) : Type 0 where
  pub writes : List Write
  pub rising : IsRising 0 writes
  pub is : progress o ≡ progress_of o.options writes
