-- Invariant of the cursors of several runs.
use Rattle.std.specs.Prelude.{◌≡◌, false, IfSome, IsTrue, map, option_map}
use Rattle.std.specs.List.{AllByRecursion}
use Rattle.uc_run.specs.Cursors.{has_ranges}
use Rattle.uc_run.specs.Heads.{IsLeast, next_key, number_of}
use Rattle.uc_query_read.specs.Walks.{Numbered, IsOfRun, newer_of}
use Rattle.uc_query_read.specs.declared.walkers.Walkers.TheInside.{Inside}

abbrev pub numbered : Inside → Numbered
numbered w = record { front = w.heads.front; cursors = w.cursors.items }

-- they are in runs, the next keys of the newer ones and the least of these are known, and whether no run has range deletions
pub record AreKnown (w : Inside) : Type 0 where
  pub of_runs : AllByRecursion IsOfRun w.cursors.items
  pub heads : w.heads.keys ≡ map next_key (newer_of w.cursors.items)
  pub least : IsLeast w.heads.keys (option_map (λ head. head.key.now) w.newer)
  pub number : IfSome w.newer (λ head. head.number ≡ number_of w.heads.front head.key.now)
  pub plain : IsTrue w.is_plain → AllByRecursion (λ c. has_ranges c ≡ false) w.cursors.items
