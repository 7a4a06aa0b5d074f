-- How a run holds its contents.
use Rattle.std.specs.Prelude.{◌≡◌}
use Rattle.uc_run_entry.specs.Run.{Contents, IsRun}
use Rattle.uc_run_entry.specs.Size.{size_of}
use Rattle.uc_run.specs.Fences.{IsFenced}
use Rattle.uc_run.specs.Filters.{AdmitsAll}
use Rattle.uc_run.specs.declared.run.Run.TheInside.{Inside}

abbrev pub contents : Inside → Contents
contents r = record { low = r.low; high = r.high; points = r.points; fragments = r.fragments }

-- they make a run, its size is counted, its blocks are fenced, and its filter admits the keys of its points
pub record IsHeld (r : Inside) : Type 0 where
  pub is_run : IsRun r.low r.high r.points r.fragments
  pub size_counted : r.size ≡ size_of (contents r)
  pub fenced : IsFenced r.points r.fences
  pub admitted : AdmitsAll r.filter r.points
