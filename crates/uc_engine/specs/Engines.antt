-- An engine: a live store whose operator is a value.
use Rattle.std.specs.Prelude.{ℕ, List, ◌==◌, Option, Some, None, if◌then◌else◌}
use Rattle.uc_oper.specs.Operation.{Operation}
use Rattle.uc_oper.specs.Appending.{appending}
use Rattle.uc_oper.specs.Counting.{counting}
use Rattle.uc_oper.specs.Greatest.{greatest}
use Rattle.uc_oper.specs.Tails.{tail}
use Rattle.uc_mixed.specs.Mixing.{mixed}
use Rattle.uc_model.specs.Meaning.{value_of}
use Rattle.uc_query_read.specs.declared.query.Query.{Query}
use Rattle.uc_query_read.specs.declared.answer.Answer.{Answer}
use Rattle.uc_query_read.specs.Answers.{answer_of, first_rows, named_keys}
use Rattle.uc_live.specs.Lives.{Live, writes_of, last}
use Rattle.uc_engine.specs.declared.operator_kind.OperatorKind.{OperatorKind}
use Rattle.uc_engine.specs.declared.operator_kind.OperatorKind.TheVariants.{Append, Counter, Maximum, Tail, Mixed}

-- which operator merges, and the store
pub record Engined : Type 0 where
  pub kind : OperatorKind
  pub live : Live

-- the meaning of each operator: byte strings are joined by a comma, and a tail keeps four bytes
abbrev pub meaning_of : OperatorKind → Operation
meaning_of Append = appending 44
meaning_of Counter = counting
meaning_of Maximum = greatest
meaning_of Tail = tail 4
meaning_of Mixed = mixed

-- the operator with a number
abbrev pub kind_numbered : ℕ → Option OperatorKind
kind_numbered n =
    if n == 0 then Some Append else if n == 1 then Some Counter
    else if n == 2 then Some Maximum else if n == 3 then Some Tail else if n == 4 then Some Mixed else None

-- the engine with another store
abbrev pub with_live : Live → Engined → Engined
with_live l e = record e { live = l }

-- its answer to a query at a snapshot: that of its plain writes
abbrev pub answer_in : Engined → Query → Answer
answer_in e query = answer_of (meaning_of e.kind) (writes_of e.live) e.live.version.keeps query

-- the value of a key at the last sequence: that of its plain writes
abbrev pub last_value : Engined → List ℕ → Option (List ℕ)
last_value e key = value_of (meaning_of e.kind) (writes_of e.live) key (last e.live)

-- the rows of a scan at the last sequence
abbrev pub last_rows : Engined → List ℕ → Option (List ℕ) → ℕ → List (List ℕ × List ℕ)
last_rows e low high limit = first_rows (meaning_of e.kind) (writes_of e.live) (last e.live) limit (named_keys (writes_of e.live) low high)
