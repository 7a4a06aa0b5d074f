-- The report of a version, and the fields that are printed of it.
use Rattle.std.specs.Prelude.{ℕ, List, [], ◌∷◌, length, map, fold, codes}
use Rattle.uc_run_entry.specs.Size.{size_of}
use Rattle.uc_fold.specs.declared.totals.Totals.{Totals}
use Rattle.uc_fold.specs.Adding.{nothing, added}
use Rattle.uc_version_state.specs.Versions.{PlacedRun, Stored}
use Rattle.uc_query.specs.declared.figure.Figure.{Figure}
use Rattle.uc_query.specs.declared.figure.Figure.TheVariants.{Number, Range}
use Rattle.uc_query.specs.declared.run_line.RunLine.{RunLine}
use Rattle.uc_query.specs.declared.summary.Report.{Report}

-- a run in numbers
abbrev pub line_of : PlacedRun → RunLine
line_of p = record {
  id = p.id;
  slot = p.slot;
  points = length p.run.points;
  fragments = length p.run.fragments;
  size = size_of p.run;
  low = p.run.low;
  high = p.run.high;
}

-- what a run adds to the totals
abbrev pub totals_of : RunLine → Totals
totals_of r = record { points = r.points; fragments = r.fragments; size = r.size }

-- the sums of all runs, each held at the greatest number of 64 bits
abbrev pub total : List RunLine → Totals
total lines = fold added nothing (map totals_of lines)

abbrev pub report_of : Stored → Report
report_of v =
    let lines = map line_of v.runs in
    record { lines = lines; total = total lines; keeps = v.keeps; last = v.last }

-- a name and its figure
abbrev pub Field : Type 0
Field = List ℕ × Figure

-- the fields of a run, which are printed after its number
abbrev pub run_fields : RunLine → List Field
run_fields r =
    (codes "slot", Number r.slot)
    ∷ (codes "points", Number r.points)
    ∷ (codes "fragments", Number r.fragments)
    ∷ (codes "size", Number r.size)
    ∷ (codes "seqs", Range r.low r.high)
    ∷ []

-- the fields of all runs together, which are printed after the number of runs
abbrev pub total_fields : Totals → List Field
total_fields t =
    (codes "points", Number t.points)
    ∷ (codes "fragments", Number t.fragments)
    ∷ (codes "size", Number t.size)
    ∷ []
