-- Installs of compacted, claimed stretches.
use Rattle.std.specs.Prelude.{◌≢◌, ℕ, ◌-◌, List, Option, Some, None, map, nat_lt, if◌then◌else◌}
use Rattle.uc_oper.specs.Operation.{Operation}
use Rattle.uc_compact.specs.Inputs.{Compaction}
use Rattle.uc_compact.specs.Output.{output_of}
use Rattle.uc_version_state.specs.declared.stretch.Stretch.{Stretch}
use Rattle.uc_version_state.specs.Versions.{PlacedRun, Stored}
use Rattle.uc_version_state.specs.Installs as installs
use Rattle.uc_version_state.specs.Installs.{Install, replaced}
use Rattle.uc_version.specs.declared.held_stretch.HeldStretch.{HeldStretch}
use Rattle.uc_version_compact.specs.declared.install_error.InstallError.{InstallError}
use Rattle.uc_version_compact.specs.declared.install_error.InstallError.TheVariants.{Stale}
use Rattle.uc_version.specs.Owners.{Owner, runs_held}
use Rattle.uc_version.specs.Claiming.{Claim, held_by, without_claim}
use Rattle.uc_version_compact.specs.Compacting.{compaction_at, install_for, IsInstallable, IsNotInstallable}

-- the stretch of a claim
abbrev pub stretch_in : Option HeldStretch → HeldStretch
stretch_in None = record { first = 0; count = 0; newest = 0; oldest = 0 }
stretch_in (Some h) = h

abbrev pub stretch_of : Owner → Claim → HeldStretch
stretch_of o c = stretch_in (held_by o.claims c.number)

-- the runs of a claim
abbrev pub claimed_runs : Owner → Claim → List PlacedRun
claimed_runs o c = runs_held o.version (stretch_of o c)

-- an id is left for the output: 2^64 - 1 is never given
abbrev pub IdLeft : Stored → Type 0
IdLeft v = installs.IdLeft v

-- where a held stretch is
abbrev pub place_held : HeldStretch → Stretch
place_held h = record { first = h.first; count = h.count }

-- its compaction
abbrev pub compaction_of : Stored → HeldStretch → Compaction
compaction_of v h = compaction_at v (place_held h)

-- when a compaction may be installed for it
abbrev pub MayReplace : Stored → HeldStretch → Compaction → Type 0
MayReplace v h made = IsInstallable v (runs_held v h) made

-- why it may not; the runs of a held stretch are always in place
abbrev pub IsRefused : Stored → HeldStretch → Compaction → InstallError → Type 0
IsRefused v h made error = IsNotInstallable v (runs_held v h) made error × (error ≢ Stale)

-- a held stretch, after `count` runs that come after the first ones became one: it moves up if it comes after them
abbrev pub moved_up : ℕ → ℕ → Option HeldStretch → Option HeldStretch
moved_up first count None = None
moved_up first count (Some h) =
    if nat_lt first h.first then Some (record h { first = h.first - (count - 1) }) else Some h

-- the owner after the install, which gives the claim back
abbrev pub after_install : Operation → Owner → Claim → Compaction → Owner
after_install m o c made = record o {
  version = replaced (stretch_of o c).first (stretch_of o c).count (output_of m made) o.version;
  claims = map (moved_up (stretch_of o c).first (stretch_of o c).count) (without_claim o c).claims;
}

-- the install that it is
abbrev pub install_of : Operation → Stored → HeldStretch → Compaction → Install
install_of m v h made = install_for m (runs_held v h) made
