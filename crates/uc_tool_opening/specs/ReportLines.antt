-- The lines of a report.
use Rattle.std.specs.Prelude.{ℕ, List, [], ◌∷◌, ◌++◌, length, codes}
use Rattle.std.specs.List.{flat_map}
use Rattle.std.specs.Fmt.{decimal}
use Rattle.uc_fold.specs.declared.totals.Totals.{Totals}
use Rattle.uc_query.specs.Reports.{Field, run_fields, total_fields}
use Rattle.uc_query.specs.declared.figure.Figure.{Figure}
use Rattle.uc_query.specs.declared.figure.Figure.TheVariants.{Number, Range}
use Rattle.uc_query.specs.declared.run_line.RunLine.{RunLine}
use Rattle.uc_query.specs.declared.summary.Report.{Report}
use Rattle.uc_tool_io.specs.Line.{numbered_line}

-- a space and a number
abbrev pub spaced : ℕ → List ℕ
spaced number = 32 ∷ decimal number

-- a number, or both of a range
abbrev pub figure_text : Figure → List ℕ
figure_text (Number number) = spaced number
figure_text (Range low high) = spaced low ++ spaced high

-- a name and its figure
abbrev pub field_text : Field → List ℕ
field_text field = 32 ∷ field.0 ++ figure_text field.1

-- words with a number, the fields after it, and the end of the line
abbrev pub counted_line : List ℕ → ℕ → List Field → List ℕ
counted_line words number fields = words ++ decimal number ++ flat_map field_text fields ++ 10 ∷ []

-- a run
abbrev pub run_line : RunLine → List ℕ
run_line r = counted_line (codes "run ") r.id (run_fields r)

-- how many runs there are, and what they hold in all
abbrev pub total_line : ℕ → Totals → List ℕ
total_line runs t = counted_line (codes "total runs ") runs (total_fields t)

-- the sequences that are kept
abbrev pub keeps_line : List ℕ → List ℕ
keeps_line keeps = codes "keeps" ++ flat_map spaced keeps ++ 10 ∷ []

-- the newest run first, then all runs together, the kept sequences and the last one
abbrev pub report_lines : Report → List ℕ
report_lines r = flat_map run_line r.lines ++ total_line (length r.lines) r.total ++ keeps_line r.keeps ++ numbered_line (codes "last ") r.last
