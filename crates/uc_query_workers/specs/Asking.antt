-- When a batch of queries is answered by workers, and how.
use Rattle.std.specs.Prelude.{ℕ, ◌+◌, ◌==◌, Bool, ◌&&◌, List, map, nat_lt, Option, Some, None, if◌then◌else◌}
use Rattle.uc_oper.specs.Operation.{Operation}
use Rattle.uc_query_read.specs.declared.query.Query.{Query}
use Rattle.uc_query_read.specs.declared.answer.Answer.{Answer}
use Rattle.uc_query_read.specs.Answers.{answer_of}
use Rattle.uc_version_state.specs.Versions.{Stored, writes_in}
use Rattle.uc_query_workers.specs.declared.ask_error.TheConstants.{MOST_WORKERS}
use Rattle.uc_query_workers.specs.declared.ask_error.AskError.{AskError}
use Rattle.uc_query_workers.specs.declared.ask_error.AskError.TheVariants.{BadWorkers, BadPiece}

-- whether this number of workers is allowed
abbrev pub are_workers : ℕ → Bool
are_workers workers = nat_lt 0 workers && nat_lt workers (MOST_WORKERS + 1)

-- why this number of workers can't be given pieces of this number of queries: the number of workers is checked first
abbrev pub ask_refusal : ℕ → ℕ → Option AskError
ask_refusal workers piece =
    if are_workers workers then (if piece == 0 then Some BadPiece else None) else Some BadWorkers

-- the answers to queries, in their order
abbrev pub answers_of : Operation → Stored → List Query → List Answer
answers_of m v queries = map (answer_of m (writes_in v) v.keeps) queries
