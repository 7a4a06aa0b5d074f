-- Optimistic transactions, over a plain list of writes, oldest first.
use Rattle.std.specs.Prelude.{◌≡◌, ℕ, ⊤, Bool, false, ◌&&◌, List, [], ◌∷◌, ◌++◌, Option, nat_lt, if◌then◌else◌}
use Rattle.std.specs.List.{AllByRecursion, list_any}
use Rattle.std.specs.Ordering.{is_lt}
use Rattle.uc_bytes.specs.Bytes.{bytes_cmp}
use Rattle.uc_bytes.specs.declared.op.Op.{Op}
use Rattle.uc_bytes.specs.declared.op.Op.TheVariants.{Put, Delete, Merge, DeleteRange}
use Rattle.uc_bytes.specs.declared.write.Write.{Write}
use Rattle.uc_oper.specs.Operation.{Operation}
use Rattle.uc_model.specs.Meaning.{touches_key, value_of}
use Rattle.uc_batch.specs.Rising.{last_of}
use Rattle.uc_query_read.specs.Answers.{Reads, is_below, is_in_range, reading}
use Rattle.uc_query_read.specs.Query.{at_of}
use Rattle.uc_query_read.specs.declared.answer.Answer.{Answer}
use Rattle.uc_query_read.specs.declared.query.Query.{Query}
use Rattle.uc_query_read.specs.declared.query.Query.TheVariants.{Get, Scan}

-- ---- what was written since a sequence

-- whether some write above a sequence touches a key
abbrev pub is_written_since : List Write → List ℕ → ℕ → Bool
is_written_since log key since = list_any (λ w. nat_lt since w.seq && touches_key key w.op) log

-- the greater of two keys
abbrev pub greater : List ℕ → List ℕ → List ℕ
greater key other = if is_lt (bytes_cmp key other) then other else key

-- whether an operation touches some key from `low` on, and below `high` if there is one
abbrev pub touches_range : List ℕ → Option (List ℕ) → Op → Bool
touches_range low high (Put named value) = is_in_range low high named
touches_range low high (Delete named) = is_in_range low high named
touches_range low high (Merge named operand) = is_in_range low high named
touches_range low high (DeleteRange begin end) = is_lt (bytes_cmp (greater low begin) end) && is_below (greater low begin) high

-- whether some write above a sequence touches such a key
abbrev pub is_written_in : List Write → List ℕ → Option (List ℕ) → ℕ → Bool
is_written_in log low high since = list_any (λ w. nat_lt since w.seq && touches_range low high w.op) log

-- no key that a query reads was written above the query's sequence
abbrev pub IsUntouched : List Write → Query → Type 0
IsUntouched log query = (key : List ℕ) → Reads query key → is_written_since log key (at_of query) ≡ false

-- each key that a query reads has the value at a sequence that it has at the query's
abbrev pub IsCurrent : Operation → List Write → ℕ → Query → Type 0
IsCurrent m log at query = (key : List ℕ) → Reads query key → value_of m log key at ≡ value_of m log key (at_of query)

-- ---- transactions

-- the query at another sequence
abbrev pub at_sequence : ℕ → Query → Query
at_sequence at (Get key since) = Get key at
at_sequence at (Scan low high since limit) = Scan low high at limit

-- a query, at the transaction's snapshot, with its answer
pub record Seen : Type 0 where
  pub query : Query
  pub answer : Answer

-- what a transaction read, and what it writes at its end
pub record Transaction : Type 0 where
  pub reads : List Seen
  pub writes : List Write

-- A transaction may commit on a log: it saw what the log answers at its snapshot, and nothing that it read has changed since.
pub record MayCommit (m : Operation) (log : List Write) (t : Transaction) : Type 0 where
  pub saw : AllByRecursion (λ r. r.answer ≡ reading m log r.query) t.reads
  pub current : AllByRecursion (λ r. IsCurrent m log (last_of 0 log) r.query) t.reads

-- transactions that commit one after the other
abbrev pub AreCommitted : Operation → List Write → List Transaction → Type 0
AreCommitted m log [] = ⊤
AreCommitted m log (t ∷ ts) = MayCommit m log t × AreCommitted m (log ++ t.writes) ts

-- each one read what the log answers at its end, right before the transaction's own writes
abbrev pub AreSerial : Operation → List Write → List Transaction → Type 0
AreSerial m log [] = ⊤
AreSerial m log (t ∷ ts) = AllByRecursion (λ r. r.answer ≡ reading m log (at_sequence (last_of 0 log) r.query)) t.reads × AreSerial m (log ++ t.writes) ts
