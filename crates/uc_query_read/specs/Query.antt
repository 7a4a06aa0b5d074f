-- The keys and sequence number of a query.
use Rattle.std.specs.Prelude.{ℕ}
use Rattle.uc_query_read.specs.declared.query.Query.{Query}
use Rattle.uc_query_read.specs.declared.query.Query.TheVariants.{Get, Scan}

-- the sequence at which a query reads
abbrev pub at_of : Query → ℕ
at_of (Get key at) = at
at_of (Scan low high at limit) = at
