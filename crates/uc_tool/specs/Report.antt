-- The output of the report on a log.
use Rattle.std.specs.Prelude.{ℕ, zero, suc, List, [], ◌∷◌, ◌++◌, length, Option, Some, None, if◌then◌else◌}
use Rattle.uc_oper.specs.Operation.{Operation}
use Rattle.uc_bytes.specs.declared.write.Write.{Write}
use Rattle.uc_batch.specs.Log.{log_writes}
use Rattle.uc_batch.specs.WriteLog.{WriteLog}
use Rattle.uc_batch.specs.declared.ended.Ended.{Ended}
use Rattle.uc_batch.specs.declared.ended.Ended.TheVariants as ended
use Rattle.uc_version_state.specs.Picks.{picked}
use Rattle.uc_version_state.specs.declared.options.Options.{Options}
use Rattle.uc_version_state.specs.declared.stretch.Stretch.{Stretch}
use Rattle.uc_version_state.specs.Versions.{Stored}
use Rattle.uc_version_state.specs.Openings.{Opening, opened}
use Rattle.uc_version_open.specs.Refusal.{opening_refusal}
use Rattle.uc_version_open.specs.declared.open_error.OpenError.{OpenError}
use Rattle.uc_query.specs.Reports as reports
use Rattle.uc_version.specs.Owners.{Owner, is_busy, unclaimed}
use Rattle.uc_version.specs.Picking.{candidates_of}
use Rattle.uc_version.specs.AtOnce.{after_compaction}
use Rattle.uc_version_compact.specs.declared.install_error.InstallError.TheVariants.{IdsSpent}
use Rattle.uc_query.specs.Turns.{has_id}
use Rattle.uc_tool_opening.specs.RefusalLines.{install_refusal_line}
use Rattle.uc_tool_opening.specs.ReplyLines.{compacted_line}
use Rattle.uc_tool_opening.specs.ReportLines.{report_lines}
use Rattle.uc_tool_io.specs.Output.{Output, refused}
use Rattle.uc_tool_opening.specs.Reasons.{Cause, log_cause}
use Rattle.uc_tool_opening.specs.Refusals.{opening_refusal_line, bad_log}
use Rattle.uc_tool_io.specs.declared.done.Done.TheVariants.{Fine}

-- the lines of some compactions, and what is then
pub record Compactions : Type 0 where
  pub lines : List (List ℕ)
  pub owner : Owner

-- compactions that end here, with no line more or with one
abbrev pub no_more : Owner → Compactions
no_more o = record { lines = []; owner = o }

abbrev pub last_line : List ℕ → Owner → Compactions
last_line line o = record { lines = line ∷ []; owner = o }

-- a line in front of those of the compactions that follow
abbrev pub behind_line : List ℕ → Compactions → Compactions
behind_line line others = record { lines = line ∷ others.lines; owner = others.owner }

-- the picked stretch is compacted, and the compactions continue from the result; if no id is left the error ends them, and if
-- nothing is picked they end too
abbrev pub after_pick : Operation → Owner → Option Stretch → (Owner → Compactions) → Compactions
after_pick m o None others = no_more o
after_pick m o (Some stretch) others =
    if has_id o.version then behind_line (compacted_line stretch o.version.next_id) (others (after_compaction m o stretch))
    else last_line (install_refusal_line IdsSpent) o

-- what universal compaction picks of a store
abbrev pub pick_of : Owner → Option Stretch
pick_of o = picked o.options (candidates_of o.version (is_busy o))

-- Compacts as long as something is picked, at most as often as the number says. Each compaction leaves fewer runs, so their number
-- is enough.
abbrev pub compactions : Operation → ℕ → Owner → Compactions
compactions m zero o = no_more o
compactions m (suc n) o = after_pick m o (pick_of o) (λ next. compactions m n next)

-- the compactions of a store
abbrev pub compactions_of : Operation → Owner → Compactions
compactions_of m o = compactions m (length o.version.runs) o

-- what a store holds, as lines
abbrev pub store_lines : Stored → List ℕ
store_lines v = report_lines (reports.report_of v)

-- a report, the compactions, and a report on what is then
abbrev pub output_of : Operation → Owner → Output
output_of m o = record {
  replies = store_lines o.version ∷ (compactions_of m o).lines ++ store_lines (compactions_of m o).owner.version ∷ [];
  done = Fine;
}

-- the output for an opening, by its error, if it has one
abbrev pub unless_refused : Operation → Opening → Option OpenError → Output
unless_refused m o (Some error) = refused (opening_refusal_line error)
unless_refused m o None = output_of m (unclaimed (opened o) o.options)

-- what is printed of these writes
abbrev pub of_writes : Operation → Options → List Write → Output
of_writes m options writes =
    let o : Opening = record { writes = writes; keeps = []; options = options } in
    unless_refused m o (opening_refusal o)

-- a log that has a fault is rejected; a torn tail is none
abbrev pub unless_faulty : Operation → Options → List Write → Ended → Output
unless_faulty m options writes ended.Clean = of_writes m options writes
unless_faulty m options writes (ended.Torn offset) = of_writes m options writes
unless_faulty m options writes (ended.LogFault fault offset) = bad_log (ended.LogFault fault offset)
unless_faulty m options writes (ended.BatchFault number fault) = bad_log (ended.BatchFault number fault)

abbrev pub reported : Operation → Options → WriteLog → Output
reported m options log = unless_faulty m options log.list log.ended

-- what the report on a log's bytes prints, under an operator and options
abbrev pub report_of : Operation → Options → List ℕ → Output
report_of m options input = reported m options (log_writes input)

-- the cause why the report on a log's bytes fails, under options, if it does
abbrev pub cause_of : Options → List ℕ → Option Cause
cause_of options input = log_cause options [] (log_writes input)
