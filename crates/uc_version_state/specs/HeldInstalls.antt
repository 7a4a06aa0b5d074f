-- How an install is held.
use Rattle.std.specs.Prelude.{◌≤◌, length}
use Rattle.std.specs.Arc.{arc_value}
use Rattle.std.specs.List.Sorted.{IsStrictlySortedBy}
use Rattle.std.specs.Ordering.{nat_cmp}
use Rattle.uc_version_state.specs.Installs.{Install}
use Rattle.uc_version_state.specs.declared.install.Install.TheInside.{Inside}

abbrev pub install : Inside → Install
install i = record { ids = i.ids.items; keeps = i.keeps.items; oldest = i.oldest; output = arc_value i.output }

-- Invariant of every install.
pub record IsInstall (i : Install) : Type 0 where
  -- an install of a single run would replace a run by a copy of it
  pub two : 2 ≤ length i.ids
  pub keeps_rise : IsStrictlySortedBy nat_cmp i.keeps

abbrev pub HoldsInstall : Inside → Type 0
HoldsInstall i = IsInstall (install i)
