-- The contents of an engine, in numbers.
use Rattle.std.specs.Prelude.{ℕ, List, length, fold}
use Rattle.uc_run_entry.specs.Size.{size_of}
use Rattle.uc_fold.specs.declared.totals.Totals.{Totals}
use Rattle.uc_fold.specs.Adding.{nothing, added}
use Rattle.uc_version_state.specs.Versions.{PlacedRun, Stored}
use Rattle.uc_live.specs.Lives as lives
use Rattle.uc_live.specs.Lives.{Live}
use Rattle.uc_live.specs.Views as views
use Rattle.uc_live.specs.Views.{Seen}
use Rattle.uc_engine.specs.declared.report.EngineReport.{EngineReport}

-- what a run adds to the totals
abbrev pub totals_of : PlacedRun → Totals
totals_of p = record { points = length p.run.points; fragments = length p.run.fragments; size = size_of p.run }

-- the sums of all runs, each held at 2^64 - 1
abbrev pub total : List PlacedRun → Totals
total runs = fold (λ sum p. added sum (totals_of p)) nothing runs

-- the report of a version with `gathered` writes in memtables, up to a last sequence number
abbrev pub report_with : Stored → ℕ → ℕ → EngineReport
report_with v gathered last = record { runs = length v.runs; keeps = length v.keeps; total = total v.runs; gathered = gathered; last = last }

abbrev pub report_of : Live → EngineReport
report_of l = report_with l.version (length l.gathered) (lives.last l)

abbrev pub report_seen : Seen → EngineReport
report_seen s = report_with s.version (length s.gathered) (views.last s)
