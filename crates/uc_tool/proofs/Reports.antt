-- A report on a log prints all of its output.
use Rattle.std.proofs.Common.{ℕ, List, [], Option, Some, None}
use Rattle.uc_oper.specs.Operation.{Operation}
use Rattle.uc_bytes.specs.declared.write.Write.{Write}
use Rattle.uc_batch.specs.Log.{log_writes}
use Rattle.uc_batch.specs.declared.ended.Ended.{Ended}
use Rattle.uc_batch.specs.declared.ended.Ended.TheVariants as ended
use Rattle.uc_version_state.specs.Openings.{Opening}
use Rattle.uc_version_open.specs.Refusal.{opening_refusal}
use Rattle.uc_version_open.specs.declared.open_error.OpenError.{OpenError}
use Rattle.uc_version_state.specs.declared.options.Options.{Options}
use Rattle.uc_tool_io.specs.Ending.{IsWhole}
use Rattle.uc_tool.specs.Report.{unless_refused, of_writes, unless_faulty, report_of}

opening_whole : (m : Operation) (o : Opening) (refusal : Option OpenError) → IsWhole (unless_refused m o refusal).done
opening_whole m o None = tt
opening_whole m o (Some error) = tt

writes_whole : (m : Operation) (o : Options) (writes : List Write) → IsWhole (of_writes m o writes).done
writes_whole m o writes =
    let opening : Opening = record { writes = writes; keeps = []; options = o } in
    opening_whole m opening (opening_refusal opening)

log_whole : (m : Operation) (o : Options) (writes : List Write) (e : Ended) → IsWhole (unless_faulty m o writes e).done
log_whole m o writes ended.Clean = writes_whole m o writes
log_whole m o writes (ended.Torn offset) = writes_whole m o writes
log_whole m o writes (ended.LogFault fault offset) = tt
log_whole m o writes (ended.BatchFault number fault) = tt

pub report_whole : (m : Operation) (o : Options) (input : List ℕ) → IsWhole (report_of m o input).done
report_whole m o input = log_whole m o (log_writes input).list (log_writes input).ended
