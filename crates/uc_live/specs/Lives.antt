-- A store that is written to: a version, and the writes in memtables, which are newer.
use Rattle.std.specs.Prelude.{ℕ, Bool, List, [], ◌++◌, Option, None, is_some}
use Rattle.std.specs.List.{list_any}
use Rattle.uc_bytes.specs.declared.write.Write.{Write}
use Rattle.uc_batch.specs.Rising.{last_of}
use Rattle.uc_version_state.specs.Versions.{Stored, writes_in}
use Rattle.uc_version_state.specs.Openings.{Opening, opened}
use Rattle.uc_version_state.specs.Snapshots.{released}
use Rattle.uc_version.specs.declared.held_stretch.HeldStretch.{HeldStretch}
use Rattle.uc_version.specs.Owners.{Owner, unclaimed}
use Rattle.uc_live.specs.declared.live_options.LiveOptions.{LiveOptions}
use Rattle.uc_live.specs.LiveOptions.{version_options}

-- a version; the writes that no run has yet, oldest first; those of a prepared batch, which no read sees; the sequence number of
-- each snapshot that was taken and not released, oldest first; for each number the claim that has it, if one is held: a job is
-- pending for each; the number of flush jobs that were taken out, and the number of writes that the last one has, the oldest in
-- memtables, while it is pending; and its options
pub record Live : Type 0 where
  pub version : Stored
  pub gathered : List Write
  pub prepared : List Write
  pub snapshots : List ℕ
  pub claims : List (Option HeldStretch)
  pub flushes : ℕ
  pub leaving : Option ℕ
  pub options : LiveOptions

-- the owner of its runs
abbrev pub owner_in : Live → Owner
owner_in l = record { version = l.version; options = l.options.store; claims = l.claims }

-- whether a claim is held
abbrev pub has_claims : Live → Bool
has_claims l = list_any is_some l.claims

-- its plain writes: those of its runs, and those in memtables
abbrev pub writes_of : Live → List Write
writes_of l = writes_in l.version ++ l.gathered

-- the last sequence
abbrev pub last : Live → ℕ
last l = last_of l.version.last l.gathered

-- how the version of a store without writes opens
abbrev pub empty_opening : LiveOptions → Opening
empty_opening o = record { writes = []; keeps = []; options = version_options o }

-- a store without writes, without snapshots and of which no job is out
abbrev pub created : LiveOptions → Live
created o =
    let version = released 0 (opened (empty_opening o)) in
    record {
      version = version;
      gathered = [];
      prepared = [];
      snapshots = [];
      claims = (unclaimed version o.store).claims;
      flushes = 0;
      leaving = None;
      options = o;
    }

-- without the batch that is prepared
abbrev pub unprepared : Live → Live
unprepared l = record l { prepared = [] }

-- with that batch taken
abbrev pub committed : Live → Live
committed l = record l { gathered = l.gathered ++ l.prepared; prepared = [] }
