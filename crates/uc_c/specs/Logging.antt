-- Batches that are prepared with a mark, and commits that store a report.
use Rattle.std.specs.Prelude.{◌≡◌, ◌≢◌, ◌⊎◌, ◌≤◌, ◌^◌, ℕ, ℤ, Some, Option}
use Rattle.uc_live.specs.Lives.{committed}
use Rattle.uc_engine.specs.Engines.{Engined, with_live}
use Rattle.uc_engine.specs.EngineReports.{report_of}
use Rattle.uc_c.specs.declared.c_report.CReport.{CReport}
use Rattle.uc_c.specs.declared.c_report.TheConstants.{REPORT_SIZE}
use Rattle.uc_c.specs.declared.status.TheConstants.{OK, OUT_OF_MEMORY, BAD_PLACE, BAD_SIZE}
use Rattle.uc_c.specs.Numbers.{report_in}

-- The batch got no mark: the number is greater than a mark tells, or an allocation failed. The store is as it was.
abbrev pub IsUnmarked : ℤ → ℕ → Option Engined → Option Engined → Type 0
IsUnmarked status unsynced old new = (((status ≡ BAD_PLACE) × (2 ^ 63 ≤ unsynced)) ⊎ (status ≡ OUT_OF_MEMORY)) × (new ≡ old)

-- The prepared batch is taken, and the report after that is stored, unless its size isn't the one that is known. Then nothing happens.
abbrev pub CommitsAndReports : ℤ → Engined → Option Engined → CReport → CReport → Type 0
CommitsAndReports status e new report report' =
    ((report.size ≡ REPORT_SIZE) × (status ≡ OK) × (new ≡ Some (with_live (committed e.live) e)) × (report' ≡ report_in (report_of (committed e.live))))
    ⊎ ((report.size ≢ REPORT_SIZE) × (status ≡ BAD_SIZE) × (new ≡ Some e) × (report' ≡ report))
