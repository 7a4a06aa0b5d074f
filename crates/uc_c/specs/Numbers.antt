-- Options, reports, and how a log ended, as the numbers that C sees.
use Rattle.uc_batch.specs.declared.ended.Ended.{Ended}
use Rattle.uc_batch.specs.declared.ended.Ended.TheVariants as ends
use Rattle.std.specs.Prelude.{◌≡◌, ◌≢◌, ◌⊎◌, ◌==◌, ℕ, ℤ, not}
use Rattle.uc_live.specs.declared.live_options.LiveOptions.{LiveOptions}
use Rattle.uc_engine.specs.declared.report.EngineReport.{EngineReport}
use Rattle.uc_c.specs.FaultCodes.{log_fault_code, batch_fault_code}
use Rattle.uc_c.specs.declared.c_options.COptions.{COptions}
use Rattle.uc_c.specs.declared.c_ended.CEnded.{CEnded}
use Rattle.uc_c.specs.declared.c_report.CReport.{CReport}
use Rattle.uc_c.specs.declared.c_report.TheConstants.{REPORT_SIZE}
use Rattle.uc_c.specs.declared.status.TheConstants.{OK, BAD_SIZE}
use Rattle.uc_c.specs.declared.c_ended.TheConstants.{CLEAN, TORN, LOG_FAULT, BATCH_FAULT}

-- the options of the store with a number
abbrev pub options_in : COptions → ℕ → LiveOptions
options_in c number = record {
  store = record {
    memtable = c.write_buffer_size;
    trigger = c.compaction_trigger;
    ratio = c.size_ratio;
    percent = c.max_size_amplification_percent;
    least = c.min_merge_width;
    greatest = c.max_merge_width;
    first_id = 1;
  };
  stop_trigger = c.stop_trigger;
  max_write_buffer_number = c.max_write_buffer_number;
  compacts_itself = not (c.compacts_itself == 0);
  id = record { number = number };
}

-- how a log ended: its kind, the offset in the log or the number of the payload, and the code of the fault
abbrev pub ended_in : Ended → CEnded
ended_in ends.Clean = record { kind = CLEAN; fault = 0; place = 0 }
ended_in (ends.Torn offset) = record { kind = TORN; fault = 0; place = offset }
ended_in (ends.LogFault fault offset) = record { kind = LOG_FAULT; fault = log_fault_code fault; place = offset }
ended_in (ends.BatchFault number error) = record { kind = BATCH_FAULT; fault = batch_fault_code error; place = number }

-- what an engine holds
abbrev pub report_in : EngineReport → CReport
report_in r = record {
  size = REPORT_SIZE;
  runs = r.runs;
  snapshots = r.keeps;
  points = r.total.points;
  fragments = r.total.fragments;
  bytes = r.total.size;
  gathered = r.gathered;
  last = r.last;
}

-- the report is stored, unless its size isn't the one that is known
abbrev pub Reports : ℤ → EngineReport → CReport → CReport → Type 0
Reports status report old new =
    ((old.size ≡ REPORT_SIZE) × (status ≡ OK) × (new ≡ report_in report))
    ⊎ ((old.size ≢ REPORT_SIZE) × (status ≡ BAD_SIZE))
