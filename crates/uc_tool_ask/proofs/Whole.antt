-- All of the output of a head and a log is printed.
use Rattle.std.proofs.Common.{ℕ, List, Option, Some, None, Result, Ok, Err, drop}
use Rattle.uc_oper.specs.Operation.{Operation}
use Rattle.uc_bytes.specs.declared.write.Write.{Write}
use Rattle.uc_batch.specs.Log.{log_writes}
use Rattle.uc_batch.specs.declared.ended.Ended.{Ended}
use Rattle.uc_batch.specs.declared.ended.Ended.TheVariants as ended
use Rattle.uc_script.specs.Head.{Head, head_of}
use Rattle.uc_script.specs.declared.query.Query.{Query as Asked}
use Rattle.uc_version_state.specs.Openings.{Opening}
use Rattle.uc_version_open.specs.Refusal.{opening_refusal}
use Rattle.uc_version_open.specs.declared.open_error.OpenError.{OpenError}
use Rattle.uc_version_state.specs.declared.options.Options.{Options}
use Rattle.uc_tool_io.specs.Ending.{IsWhole}
use Rattle.uc_tool_ask.specs.Ask.{unless_refused, of_writes, unless_faulty, without_last, asked_of, ask_of}

opening_whole : (m : Operation) (o : Opening) (queries : List Asked) (refusal : Option OpenError) → IsWhole (unless_refused m o queries refusal).done
opening_whole m o queries None = tt
opening_whole m o queries (Some error) = tt

module _ (m : Operation) (o : Options) (keeps : List ℕ) (queries : List Asked) where
  writes_whole : (writes : List Write) → IsWhole (of_writes m o keeps queries writes).done
  writes_whole writes =
      let opening : Opening = record { writes = writes; keeps = keeps; options = o } in
      opening_whole m opening queries (opening_refusal opening)

  log_whole : (writes : List Write) (e : Ended) → IsWhole (unless_faulty m o keeps queries writes e).done
  log_whole writes ended.Clean = writes_whole writes
  log_whole writes (ended.Torn offset) = writes_whole writes
  log_whole writes (ended.LogFault fault offset) = tt
  log_whole writes (ended.BatchFault number fault) = tt

asked_whole : (m : Operation) (o : Options) (later : ℕ) (input : List ℕ) (head : Result Head ℕ) → IsWhole (asked_of m o later input head).done
asked_whole m o later input (Err line) = tt
asked_whole m o later input (Ok head) =
    let log = log_writes (drop head.size input) in
    log_whole m o head.keeps head.queries (without_last later log.list) log.ended

pub ask_whole : (m : Operation) (o : Options) (later : ℕ) (input : List ℕ) → IsWhole (ask_of m o later input).done
ask_whole m o later input = asked_whole m o later input (head_of input)
