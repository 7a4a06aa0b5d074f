-- Numbers of threads that answer and compact, and of queries in a piece.
use Rattle.std.specs.Prelude.{ℕ, ◌<◌, ◌≤◌}
use Rattle.uc_query_workers.specs.declared.ask_error.TheConstants.{MOST_WORKERS}
use Rattle.uc_tool_ask.specs.declared.plan.TheConstants.{MOST_COMPACTORS}

-- 1 to 64 workers, pieces of a query or more, and up to 16 compactors
pub record IsPlan (workers piece compactors : ℕ) : Type 0 where
  pub some_worker : 0 < workers
  pub few_workers : workers ≤ MOST_WORKERS
  pub some_query : 0 < piece
  pub few_compactors : compactors ≤ MOST_COMPACTORS
