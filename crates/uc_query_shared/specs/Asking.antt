-- When a batch of queries is answered by workers with readers of their own.
use Rattle.std.specs.Prelude.{ℕ, nat_le, Option, Some, if◌then◌else◌}
use Rattle.uc_query_workers.specs.Asking.{ask_refusal}
use Rattle.uc_query_workers.specs.declared.ask_error.AskError.{AskError}
use Rattle.uc_query_workers.specs.declared.ask_error.AskError.TheVariants.{BadWorkers}

-- why this number of workers with this number of readers can't answer pieces of this number of queries: each has its own reader,
-- and the number of workers is checked first
abbrev pub batch_refusal : ℕ → ℕ → ℕ → Option AskError
batch_refusal readers workers piece = if nat_le workers readers then ask_refusal workers piece else Some BadWorkers
