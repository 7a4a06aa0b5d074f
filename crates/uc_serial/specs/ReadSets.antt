-- The reads of a transaction, and whether they are unchanged.
use Rattle.std.specs.Prelude.{◌≡◌, ℕ, zero, suc, ◌-◌, ◌^◌, ⊤, IsTrue, List, [], ◌∷◌, map, Option, Some, None}
use Rattle.uc_bytes.specs.declared.write.Write.{Write}
use Rattle.uc_oper.specs.Operation.{Operation}
use Rattle.uc_query_read.specs.Answers.{is_in_range, reading}
use Rattle.uc_query_read.specs.declared.query.Query.{Query}
use Rattle.uc_query_read.specs.declared.query.Query.TheVariants.{Get, Scan}
use Rattle.uc_serial.specs.Transactions.{Seen}
use Rattle.uc_serial.specs.declared.read.Read.{Read}
use Rattle.uc_serial.specs.declared.read.Read.TheVariants.{Key, Range}

-- a key that a read covers
abbrev pub Covers : Read → List ℕ → Type 0
Covers (Key named) key = named ≡ key
Covers (Range low high) key = IsTrue (is_in_range low high key)

-- Each key that a read covers has the value that it had. `before` and `now` give the values of all keys.
abbrev pub IsUnchanged : (List ℕ → Option (List ℕ)) → (List ℕ → Option (List ℕ)) → Read → Type 0
IsUnchanged before now read = (key : List ℕ) → Covers read key → now key ≡ before key

-- the place of the first read that isn't unchanged, or none
abbrev pub IsFirstChanged : (List ℕ → Option (List ℕ)) → (List ℕ → Option (List ℕ)) → List Read → Option ℕ → Type 0
IsFirstChanged before now [] None = ⊤
IsFirstChanged before now [] (Some place) = ⊥
IsFirstChanged before now (read ∷ reads) None = IsUnchanged before now read × IsFirstChanged before now reads None
IsFirstChanged before now (read ∷ reads) (Some zero) = ¬ IsUnchanged before now read
IsFirstChanged before now (read ∷ reads) (Some (suc place)) = IsUnchanged before now read × IsFirstChanged before now reads (Some place)

-- ---- as queries

-- the query of a read at a sequence: of a range all rows
abbrev pub query_at : ℕ → Read → Query
query_at at (Key key) = Get key at
query_at at (Range low high) = Scan low high at (2 ^ 64 - 1)

-- reads at a sequence, with what a log answers there
abbrev pub seen_at : Operation → List Write → ℕ → List Read → List Seen
seen_at m log at reads = map (λ read. record { query = query_at at read; answer = reading m log (query_at at read) }) reads
