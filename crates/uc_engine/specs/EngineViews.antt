-- The contents of an engine at one point in time.
use Rattle.std.specs.Prelude.{ℕ, List, Option, reverse}
use Rattle.uc_model.specs.Meaning.{value_of}
use Rattle.uc_query_read.specs.declared.query.Query.{Query}
use Rattle.uc_query_read.specs.declared.answer.Answer.{Answer}
use Rattle.uc_query_read.specs.Answers.{answer_of, first_rows, named_keys}
use Rattle.uc_live.specs.Views.{Seen, seen_in, writes_of, last}
use Rattle.uc_engine.specs.declared.operator_kind.OperatorKind.{OperatorKind}
use Rattle.uc_engine.specs.Engines.{Engined, meaning_of}

-- which operator merges, and what the store holds
pub record Viewed : Type 0 where
  pub kind : OperatorKind
  pub seen : Seen

-- what an engine holds now
abbrev pub viewed_in : Engined → Viewed
viewed_in e = record { kind = e.kind; seen = seen_in e.live }

-- its answer to a query at a snapshot: that of its plain writes
abbrev pub answer_seen : Viewed → Query → Answer
answer_seen v query = answer_of (meaning_of v.kind) (writes_of v.seen) v.seen.version.keeps query

-- the value of a key at the last sequence: that of its plain writes
abbrev pub value_seen : Viewed → List ℕ → Option (List ℕ)
value_seen v key = value_of (meaning_of v.kind) (writes_of v.seen) key (last v.seen)

-- the rows of a scan at the last sequence
abbrev pub rows_seen : Viewed → List ℕ → Option (List ℕ) → ℕ → List (List ℕ × List ℕ)
rows_seen v low high limit = first_rows (meaning_of v.kind) (writes_of v.seen) (last v.seen) limit (named_keys (writes_of v.seen) low high)

-- the rows of a scan at the last sequence against the order of keys
abbrev pub rows_seen_back : Viewed → List ℕ → Option (List ℕ) → ℕ → List (List ℕ × List ℕ)
rows_seen_back v low high limit = first_rows (meaning_of v.kind) (writes_of v.seen) (last v.seen) limit (reverse (named_keys (writes_of v.seen) low high))
