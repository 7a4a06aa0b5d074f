-- Printing the writes of payloads one batch after the other, as a loop does.
use Rattle.std.proofs.Common.{◌≡◌, ℕ, List, ◌++◌, map, Option, Ok, Err, refl, ap, sym, ◌∙◌, subst}
use Rattle.std.specs.Io.KnownBytes.{Appends}
use Rattle.std.proofs.lemmas.List.{map-append}
use Rattle.uc_batch.specs.declared.ended.Ended.{Ended}
use Rattle.uc_batch.specs.declared.ended.Ended.TheVariants as ends_at
use Rattle.uc_batch.specs.Log.{log_writes}
use Rattle.uc_batch.specs.Position.{BatchPosition, BatchComesFirst, nothing_ahead}
use Rattle.uc_batch.specs.WriteLog.{WriteLog}
use Rattle.uc_tool_io.specs.Output.{joined, Stops, Prints}
use Rattle.uc_tool_io.specs.Ending.{IsWhole}
use Rattle.uc_tool_io.specs.LogLines.{write_line}
use Rattle.uc_tool_io.specs.Dump.{done_of, dump_of}
use Rattle.uc_tool_io.specs.declared.run_error.RunError.{RunError}
use Rattle.uc_tool_io.specs.declared.run_error.RunError.TheVariants as run_error
use Rattle.uc_tool_io.proofs.Known.{appends_none}
use Rattle.uc_tool_io.proofs.Printing.{GoesOn}
use Rattle.uc_tool_io.proofs.Parts.{prints_behind, stops_within}

-- The part of a log that is still to be printed, and how far it is read, when the writes before this position are printed.
pub record DumpsOn (all : WriteLog) (position : BatchPosition) (old here : Option (List ℕ)) : Type 0 where
  pub lines : GoesOn (map write_line all.list) (map write_line position.ahead.list) old here
  pub ended : position.ahead.ended ≡ all.ended

pub begins : (all : WriteLog) (position : BatchPosition) (old : Option (List ℕ)) → position.ahead ≡ all → DumpsOn all position old old
begins all position old e = subst (λ (log : WriteLog). DumpsOn log position old old) e (record { lines = λ new r q. q; ended = refl })

module _ (all : WriteLog) (position : BatchPosition) (old here : Option (List ℕ)) (so_far : DumpsOn all position old here) where
  -- memory ran out before the next batch
  pub no_memory : Stops (map write_line all.list) old here run_error.Memory
  no_memory = so_far.lines here (Err run_error.Memory) (0, appends_none here)

  module _ (ended : Ended) (end : position.ahead ≡ nothing_ahead ended) where
    pub ends_lines : Appends old here (joined (map write_line all.list))
    ends_lines = so_far.lines here (Ok tt) (subst (λ (log : WriteLog). Appends here here (joined (map write_line log.list))) (sym end) (appends_none here))

    pub ends_ended : ended ≡ all.ended
    ends_ended = sym (ap (λ (log : WriteLog). log.ended) end) ∙ so_far.ended

  module _ (next : BatchPosition) (comes : BatchComesFirst position next) where
    lines_are : map write_line position.ahead.list ≡ map write_line next.batch ++ map write_line next.ahead.list
    lines_are = ap (λ (log : WriteLog). map write_line log.list) comes.first ∙ map-append write_line next.batch next.ahead.list

    -- the batch was printed
    pub goes_on : (after : Option (List ℕ)) → Appends here after (joined (map write_line next.batch)) → DumpsOn all next old after
    goes_on after p = record {
      lines = λ new r q. so_far.lines new r (subst (λ (ls : List (List ℕ)). Prints ls here new r) (sym lines_are) (prints_behind (map write_line next.batch) (map write_line next.ahead.list) here after new r p q));
      ended = sym (ap (λ (log : WriteLog). log.ended) comes.first) ∙ so_far.ended;
    }

    -- there was an error within it
    pub stops : (after : Option (List ℕ)) (e : RunError) → Stops (map write_line next.batch) here after e → Stops (map write_line all.list) old after e
    stops after e p = so_far.lines after (Err e) (subst (λ (ls : List (List ℕ)). Stops ls here after e) (sym lines_are) (stops_within (map write_line next.batch) (map write_line next.ahead.list) here after e p))

-- a dump that prints all ends as one
ended_whole : (ended : Ended) → IsWhole (done_of ended)
ended_whole ends_at.Clean = tt
ended_whole (ends_at.Torn offset) = tt
ended_whole (ends_at.LogFault fault offset) = tt
ended_whole (ends_at.BatchFault number fault) = tt

pub dump_whole : (input : List ℕ) → IsWhole (dump_of input).done
dump_whole input = ended_whole (log_writes input).ended
