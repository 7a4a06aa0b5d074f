-- The output of a script's run.
use Rattle.std.specs.Prelude.{ℕ, ◌+◌, ⊤, List, [], ◌∷◌, length, codes, Option, Some, None, Result, Ok, Err}
use Rattle.uc_oper.specs.Operation.{Operation}
use Rattle.uc_batch.specs.Batch.{numbered}
use Rattle.uc_batch.specs.Rising.{last_of}
use Rattle.uc_batch.specs.declared.ended.Ended.TheVariants.{Clean}
use Rattle.uc_query_read.specs.declared.query.Query.{Query}
use Rattle.uc_script.specs.Fed.{fed_ops}
use Rattle.uc_script.specs.Script.{script_of}
use Rattle.uc_script.specs.declared.call.Call.{Call}
use Rattle.uc_script.specs.declared.call.Call.TheVariants.{Read, Claim, Install, Abandon, Compact, Pick, Report, Feed, Keep, Release}
use Rattle.uc_script.specs.declared.script.Script.{Script}
use Rattle.uc_script.specs.declared.part.Source.TheVariants as source
use Rattle.uc_version_state.specs.declared.options.Options.{Options}
use Rattle.uc_version_state.specs.Versions.{Stored}
use Rattle.uc_version_state.specs.Openings.{Opening, opened}
use Rattle.uc_version_open.specs.Refusal.{opening_refusal}
use Rattle.uc_version_open.specs.declared.open_error.OpenError.{OpenError}
use Rattle.uc_version.specs.Owners.{unclaimed}
use Rattle.uc_query.specs.Names.{State}
use Rattle.uc_query.specs.Running.{run_of, unnamed}
use Rattle.uc_query.specs.declared.call.Call.{Call as StoreCall}
use Rattle.uc_query.specs.declared.call.Call.TheVariants as store
use Rattle.uc_query.specs.declared.reply.Reply.{Reply}
use Rattle.uc_query.specs.declared.reply.Reply.TheVariants.{Fed}
use Rattle.uc_tool_io.specs.Line.{numbered_line}
use Rattle.uc_tool_opening.specs.Asked.{query_of, seq_at}
use Rattle.uc_tool_opening.specs.Opening.{FitsLog}
use Rattle.uc_tool_opening.specs.Reasons.{Cause, AtLine, opening_cause}
use Rattle.uc_tool_opening.specs.Refusals.{opening_refusal_line}
use Rattle.uc_tool_opening.specs.ReplyLines.{reply_lines}
use Rattle.uc_tool_io.specs.Output.{Output, refused}
use Rattle.uc_tool_io.specs.declared.done.Done.TheVariants.{Fine}

-- a query alone, for one worker
abbrev pub asked_alone : Query → StoreCall
asked_alone q = store.Ask (q ∷ []) 1 1

-- what a script's call asks of the store, where `last` is the last sequence at opening, and writes are numbered from `next` on
abbrev pub call_of : ℕ → ℕ → Call → StoreCall
call_of last next (Read asked) = asked_alone (query_of last asked)
call_of last next (Claim name first count) = store.Claim name (record { first = first; count = count })
call_of last next (Install name) = store.Install name
call_of last next (Abandon name) = store.Abandon name
call_of last next (Compact first count) = store.Compact (record { first = first; count = count })
call_of last next Pick = store.Pick
call_of last next Report = store.Report
call_of last next (Feed ops) = store.Feed (record { list = numbered next ops; ended = Clean })
call_of last next Keep = store.Keep
call_of last next (Release at) = store.Release (seq_at last at)

-- what its calls ask; writes keep their numbers whether or not they are fed
abbrev pub calls_of : ℕ → ℕ → List Call → List StoreCall
calls_of last next [] = []
calls_of last next (call ∷ calls) = call_of last next call ∷ calls_of last (next + length (fed_ops call)) calls

-- what is fed fits a log each time
abbrev pub FitLogs : ℕ → List Call → Type 0
FitLogs next [] = ⊤
FitLogs next (call ∷ calls) = FitsLog next (fed_ops call) × FitLogs (next + length (fed_ops call)) calls

-- the opening that a script asks for
abbrev pub opening_of : Options → Script → Opening
opening_of options script = record { writes = numbered 1 script.ops; keeps = script.keeps; options = options }

-- the last sequence after a call with this reply
abbrev pub last_then : ℕ → StoreCall → Reply → ℕ
last_then last (store.Feed writes) (Fed runs) = last_of last writes.list
last_then last _ _ = last

-- the lines of each reply to calls, from this last sequence on
abbrev pub lines_of : ℕ → List StoreCall → List Reply → List (List ℕ)
lines_of last (call ∷ calls) (reply ∷ replies) =
    reply_lines (last_then last call reply) reply ∷ lines_of (last_then last call reply) calls replies
lines_of last _ _ = []

-- the lines of each reply to a script's calls, from a store in this state
abbrev pub replies_of : Operation → State → ℕ → ℕ → List Call → List (List ℕ)
replies_of m s last next calls = lines_of s.owner.version.last (calls_of last next calls) (run_of m s (calls_of last next calls)).replies

-- a run that opened with this version, of which nothing is claimed, and its replies to these calls
abbrev pub output_of : Operation → Stored → Options → List Call → Output
output_of m version options calls = record {
  replies = numbered_line (codes "opened ") version.last ∷ replies_of m (unnamed (unclaimed version options)) version.last (version.last + 1) calls;
  done = Fine;
}

-- the output for an opening and calls, by the opening's error, if it has one
abbrev pub unless_refused : Operation → Opening → List Call → Option OpenError → Output
unless_refused m o calls (Some error) = refused (opening_refusal_line error)
unless_refused m o calls None = output_of m (opened o) o.options calls

-- what the run of a script prints
abbrev pub script_output : Operation → Options → Script → Output
script_output m options script = unless_refused m (opening_of options script) script.calls (opening_refusal (opening_of options script))

abbrev pub played : Operation → Options → Result Script ℕ → Output
played m options (Err line) = refused (numbered_line (codes "fault line ") line)
played m options (Ok script) = script_output m options script

-- what a run of a script's bytes prints, under an operator and options
abbrev pub play_of : Operation → Options → List ℕ → Output
play_of m options input = played m options (script_of input)

-- the cause that rejects a script, by what is read of its bytes
abbrev pub script_cause : Options → List ℕ → Result Script ℕ → Option Cause
script_cause options input (Err line) = Some (AtLine source.Script input line)
script_cause options input (Ok script) = opening_cause (opening_of options script)

-- the cause why the run of a script's bytes fails, under options, if it does
abbrev pub cause_of : Options → List ℕ → Option Cause
cause_of options input = script_cause options input (script_of input)
