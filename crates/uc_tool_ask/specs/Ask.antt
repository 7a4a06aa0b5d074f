-- The output for the queries in front of a log.
use Rattle.std.specs.Prelude.{ℕ, ◌-◌, List, map, drop, take, length, codes, Option, Some, None, Result, Ok, Err}
use Rattle.uc_oper.specs.Operation.{Operation}
use Rattle.uc_bytes.specs.declared.write.Write.{Write}
use Rattle.uc_batch.specs.Log.{log_writes}
use Rattle.uc_batch.specs.WriteLog.{WriteLog}
use Rattle.uc_batch.specs.declared.ended.Ended.{Ended}
use Rattle.uc_batch.specs.declared.ended.Ended.TheVariants as ended
use Rattle.uc_script.specs.Head.{Head, head_of}
use Rattle.uc_script.specs.declared.query.Query.{Query as Asked}
use Rattle.uc_script.specs.declared.part.Source.TheVariants as source
use Rattle.uc_version_state.specs.declared.options.Options.{Options}
use Rattle.uc_version_state.specs.Openings.{Opening, opened}
use Rattle.uc_version_open.specs.Refusal.{opening_refusal}
use Rattle.uc_version_open.specs.declared.open_error.OpenError.{OpenError}
use Rattle.uc_query_read.specs.Answers.{answer_of}
use Rattle.uc_tool_io.specs.Output.{Output, refused}
use Rattle.uc_tool_io.specs.declared.done.Done.TheVariants.{Fine}
use Rattle.uc_tool_opening.specs.AnswerLines.{answer_lines}
use Rattle.uc_tool_io.specs.Line.{numbered_line}
use Rattle.uc_tool_opening.specs.Asked.{query_of}
use Rattle.uc_tool_opening.specs.Reasons.{Cause, AtLine, log_cause}
use Rattle.uc_tool_opening.specs.Refusals.{opening_refusal_line, bad_log}

-- the lines of the answer to what a line of a head asks, from these writes, at the sequences that are kept, where `last` is the
-- last sequence of the log
abbrev pub reply_to : Operation → List Write → List ℕ → ℕ → Asked → List ℕ
reply_to m writes keeps last asked = answer_lines (answer_of m writes keeps (query_of last asked))

-- those of the answers to some lines, in their order
abbrev pub replies_to : Operation → List Write → List ℕ → ℕ → List Asked → List (List ℕ)
replies_to m writes keeps last queries = map (reply_to m writes keeps last) queries

-- what is printed for queries once the store is open
abbrev pub output_of : Operation → Opening → List Asked → Output
output_of m o queries = record { replies = replies_to m o.writes (opened o).keeps (opened o).last queries; done = Fine }

-- the output for an opening and queries, by the opening's error, if it has one
abbrev pub unless_refused : Operation → Opening → List Asked → Option OpenError → Output
unless_refused m o queries (Some error) = refused (opening_refusal_line error)
unless_refused m o queries None = output_of m o queries

-- what is printed of these writes, where these sequences are kept
abbrev pub of_writes : Operation → Options → List ℕ → List Asked → List Write → Output
of_writes m options keeps queries writes =
    let o : Opening = record { writes = writes; keeps = keeps; options = options } in
    unless_refused m o queries (opening_refusal o)

-- a log that has a fault is rejected; a torn tail is none
abbrev pub unless_faulty : Operation → Options → List ℕ → List Asked → List Write → Ended → Output
unless_faulty m options keeps queries writes ended.Clean = of_writes m options keeps queries writes
unless_faulty m options keeps queries writes (ended.Torn offset) = of_writes m options keeps queries writes
unless_faulty m options keeps queries writes (ended.LogFault fault offset) = bad_log (ended.LogFault fault offset)
unless_faulty m options keeps queries writes (ended.BatchFault number fault) = bad_log (ended.BatchFault number fault)

-- writes without the last ones: without all, where there are fewer
abbrev pub without_last : ℕ → List Write → List Write
without_last later writes = take (length writes - later) writes

-- what is printed of a log whose last writes come later
abbrev pub of_log : Operation → Options → List ℕ → List Asked → ℕ → WriteLog → Output
of_log m options keeps queries later log = unless_faulty m options keeps queries (without_last later log.list) log.ended

-- the first fault of the head, or the output for the log after it
abbrev pub asked_of : Operation → Options → ℕ → List ℕ → Result Head ℕ → Output
asked_of m options later input (Err line) = refused (numbered_line (codes "fault line ") line)
asked_of m options later input (Ok head) = of_log m options head.keeps head.queries later (log_writes (drop head.size input))

-- the output for the bytes of a head and a log, under an operator and options, where the log's last `later` writes come later
abbrev pub ask_of : Operation → Options → ℕ → List ℕ → Output
ask_of m options later input = asked_of m options later input (head_of input)

-- the cause that rejects a log whose last writes come later: a fault anywhere in it has no cause, and the opening is checked
-- without these writes
abbrev pub opened_cause : Options → List ℕ → ℕ → WriteLog → Option Cause
opened_cause options keeps later log = log_cause options keeps (record log { list = without_last later log.list })

-- the cause that rejects a head and the log after it, by what is read of the head
abbrev pub head_cause : Options → ℕ → List ℕ → Result Head ℕ → Option Cause
head_cause options later input (Err line) = Some (AtLine source.Head input line)
head_cause options later input (Ok head) = opened_cause options head.keeps later (log_writes (drop head.size input))

-- the cause why the bytes of a head and a log are rejected, under options, if they are
abbrev pub cause_of : Options → ℕ → List ℕ → Option Cause
cause_of options later input = head_cause options later input (head_of input)
