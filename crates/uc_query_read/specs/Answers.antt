-- The answers to queries, over a plain list of writes, oldest first.
use Rattle.std.specs.Prelude.{◌≡◌, ℕ, IsTrue, Bool, true, ◌&&◌, ◌==◌, List, [], Option, Some, None, option_map, take, fold, if◌then◌else◌}
use Rattle.std.specs.List.{filter_map, list_any}
use Rattle.std.specs.Ordering.{is_lt, is_le}
use Rattle.std.specs.BTreeSet.{insert_key}
use Rattle.uc_bytes.specs.Bytes.{bytes_cmp}
use Rattle.uc_oper.specs.Operation.{Operation}
use Rattle.uc_bytes.specs.declared.op.Op.{Op}
use Rattle.uc_bytes.specs.declared.op.Op.TheVariants.{Put, Delete, Merge, DeleteRange}
use Rattle.uc_bytes.specs.declared.write.Write.{Write}
use Rattle.uc_model.specs.Meaning.{value_of}
use Rattle.uc_query_read.specs.declared.query.Query.{Query}
use Rattle.uc_query_read.specs.declared.query.Query.TheVariants.{Get, Scan}
use Rattle.uc_query_read.specs.Query.{at_of}
use Rattle.uc_query_read.specs.declared.answer.Answer.{Answer}
use Rattle.uc_query_read.specs.declared.answer.Answer.TheVariants.{Value, Rows, NotProtected}

abbrev pub is_below : List ℕ → Option (List ℕ) → Bool
is_below key None = true
is_below key (Some high) = is_lt (bytes_cmp key high)

-- a key from `low` on, and below `high` if there is one
abbrev pub is_in_range : List ℕ → Option (List ℕ) → List ℕ → Bool
is_in_range low high key = is_le (bytes_cmp low key) && is_below key high

-- a key that a query reads
abbrev pub Reads : Query → List ℕ → Type 0
Reads (Get named at) key = named ≡ key
Reads (Scan low high at limit) key = IsTrue (is_in_range low high key)

-- the keys so far, and the one that an operation names, if it is a put or a merge of a key in the range
abbrev pub with_key : List ℕ → Option (List ℕ) → List (List ℕ) → Op → List (List ℕ)
with_key low high keys (Put key value) = if is_in_range low high key then insert_key bytes_cmp keys key else keys
with_key low high keys (Delete key) = keys
with_key low high keys (Merge key operand) = if is_in_range low high key then insert_key bytes_cmp keys key else keys
with_key low high keys (DeleteRange begin end) = keys

-- the keys of the range that puts and merges name, in byte order, each once
abbrev pub named_keys : List Write → List ℕ → Option (List ℕ) → List (List ℕ)
named_keys writes low high = fold (λ keys w. with_key low high keys w.op) [] writes

-- those keys that have a value at a sequence, with it
abbrev pub rows_of : Operation → List Write → ℕ → List (List ℕ) → List (List ℕ × List ℕ)
rows_of m writes at keys = filter_map (λ key. option_map (λ value. (key, value)) (value_of m writes key at)) keys

-- whether a snapshot protects a sequence
abbrev pub is_protected : List ℕ → ℕ → Bool
is_protected keeps at = list_any (λ keep. keep == at) keeps

-- the first of them
abbrev pub first_rows : Operation → List Write → ℕ → ℕ → List (List ℕ) → List (List ℕ × List ℕ)
first_rows m writes at limit keys = take limit (rows_of m writes at keys)

-- what is read, at a sequence that is protected
abbrev pub reading : Operation → List Write → Query → Answer
reading m writes (Get key at) = Value (value_of m writes key at)
reading m writes (Scan low high at limit) = Rows (first_rows m writes at limit (named_keys writes low high))

-- the answer to a query
abbrev pub answer_of : Operation → List Write → List ℕ → Query → Answer
answer_of m writes keeps query = if is_protected keeps (at_of query) then reading m writes query else NotProtected (at_of query)
