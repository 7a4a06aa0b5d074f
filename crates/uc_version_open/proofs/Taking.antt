-- A log that is read step by step into a store that is being opened.
use Rattle.std.proofs.Common.{◌≡◌, ℕ, List, [], ◌++◌, sym}
use Rattle.uc_bytes.specs.declared.write.Write.{Write}
use Rattle.uc_batch.specs.Position.{BatchPosition, BatchComesFirst}
use Rattle.uc_batch.specs.WriteLog.{WriteLog}
use Rattle.uc_batch.proofs.Joined.{JoinsOn, joins}
use Rattle.uc_run_entry.specs.Run.{Contents}
use Rattle.uc_version_state.specs.declared.options.Options.{Options}
use Rattle.uc_version_open.specs.Lending.{StandsIn}
use Rattle.uc_version_open.specs.Progress.{Progress, progress_of}
use Rattle.uc_version_open.specs.Reading.{IsTaken, ReadsOn}

so_far : (options : Options) (log : WriteLog) (batches : BatchPosition) (opener : Progress) → (t : IsTaken options log batches opener) → JoinsOn log batches t.writes
so_far options log batches opener t = record { whole = t.whole; last_is = t.last_is; rising = t.rising }

-- at the start of a log
pub at_start : (options : Options) (log : WriteLog) (batches : BatchPosition) (opener : Progress) → batches.ahead ≡ log → batches.last ≡ 0 → opener ≡ progress_of options [] → IsTaken options log batches opener
at_start options log batches opener ahead last is = record { writes = []; whole = sym ahead; last_is = last; rising = tt; taken = is }

-- a batch more
pub on_batch : {first : BatchPosition} {begun : Progress} (old new : BatchPosition) (opener after : Progress) → ReadsOn first begun old opener → BatchComesFirst old new →
    ((options : Options) (before : List Write) → opener ≡ progress_of options before → after ≡ progress_of options (before ++ new.batch)) →
    ((place : ℕ) (part : List Contents) → StandsIn place part opener.held → StandsIn place part after.held) →
    ReadsOn first begun new after
on_batch old new opener after on comes taken stay = record {
  taken = λ options log t.
      let before = on.taken options log t in
      let joined = joins log old new before.writes (so_far options log old opener before) comes in
      record {
        writes = before.writes ++ new.batch;
        whole = joined.whole;
        last_is = joined.last_is;
        rising = joined.rising;
        taken = taken options before.writes before.taken;
      };
  stay = λ place part stands. stay place part (on.stay place part stands);
}
