-- The query of a line that reads from a store, once that is open.
use Rattle.std.specs.Prelude.{ℕ}
use Rattle.uc_query_read.specs.declared.query.Query.{Query}
use Rattle.uc_query_read.specs.declared.query.Query.TheVariants as query
use Rattle.uc_script.specs.declared.query.Query.{Query as Asked}
use Rattle.uc_script.specs.declared.query.Query.TheVariants as asked
use Rattle.uc_script.specs.declared.seq.Seq.{Seq}
use Rattle.uc_script.specs.declared.seq.Seq.TheVariants.{Number, Last}

-- the sequence that a line names, where `last` is the last one at opening
abbrev pub seq_at : ℕ → Seq → ℕ
seq_at last (Number number) = number
seq_at last Last = last

-- what the line asks then
abbrev pub query_of : ℕ → Asked → Query
query_of last (asked.Get key at) = query.Get key (seq_at last at)
query_of last (asked.Scan low high limit at) = query.Scan low high (seq_at last at) limit
