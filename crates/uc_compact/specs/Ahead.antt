-- The groups ahead of a merge.
use Rattle.std.specs.Prelude.{◌≡◌, List, map}
use Rattle.std.specs.List.{AllByRecursion, flat_map}
use Rattle.std.specs.List.Sorted.{IsStrictlySortedBy}
use Rattle.std.specs.Ordering.{nat_cmp}
use Rattle.uc_run_entry.specs.Order.{entry_cmp}
use Rattle.uc_compact.specs.Groups.{Group, groups_of}
use Rattle.uc_compact.specs.Heads.{first_key}
use Rattle.uc_compact.specs.Lasting.{lasting_group}
use Rattle.uc_compact.specs.declared.groups.Groups.TheInside.{Inside}

-- the groups of the points that are ahead of all cursors, with those of their points that last
abbrev pub ahead : Inside → List Group
ahead g = map (lasting_group g.keeps.now) (groups_of (flat_map (λ points. points) g.cursors.items))

-- the keeps rise, each cursor's points are in order, and the next keys are those of the cursors
pub record AreHeld (g : Inside) : Type 0 where
  pub rise : IsStrictlySortedBy nat_cmp g.keeps.now
  pub sorted : AllByRecursion (IsStrictlySortedBy entry_cmp) g.cursors.items
  pub heads : g.heads.keys ≡ map first_key g.cursors.items
