-- The pieces of a batch.
use Rattle.std.specs.Prelude.{ℕ, ◌*◌, ◌<◌, List, length, take, drop}
use Rattle.uc_query_read.specs.declared.query.Query.{Query}

-- queries, and how many of them a piece has
pub record Batch : Type 0 where
  pub queries : List Query
  pub piece : ℕ

-- the piece with a number, from 0: `piece` queries, except the last one, which may have fewer
abbrev pub piece_of : Batch → ℕ → List Query
piece_of batch number = take batch.piece (drop (number * batch.piece) batch.queries)

-- the numbers below `pieces` are those of pieces with a query
abbrev pub AreNumbers : Batch → ℕ → Type 0
AreNumbers batch pieces = (number : ℕ) → number < pieces → number * batch.piece < length batch.queries
