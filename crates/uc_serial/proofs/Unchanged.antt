-- Reads whose keys have the values that they had.
use Rattle.std.proofs.Common.{◌≡◌, ℕ, ◌<◌, ◌≤◌, List, [], ◌∷◌, length, Option, Some, None, IsTrue, Any, ⊎_elim, refl, sym, ◌∙◌, subst, arith}
use Rattle.std.specs.List.{AllByRecursion}
use Rattle.std.proofs.lemmas.List.Elements.{All-contains, All-weaker}
use Rattle.uc_bytes.specs.declared.write.Write.{Write}
use Rattle.uc_oper.specs.Operation.{Operation}
use Rattle.uc_model.specs.Meaning.{Gives, value_of}
use Rattle.uc_batch.specs.Rising.{last_of}
use Rattle.uc_query_read.specs.Answers.{first_rows, is_in_range, named_keys, reading}
use Rattle.uc_query_read.specs.Scans.{IsRow, IsScan}
use Rattle.uc_serial.specs.ReadSets.{IsFirstChanged, IsUnchanged, query_at, seen_at}
use Rattle.uc_serial.specs.Transactions.{IsCurrent, MayCommit}
use Rattle.uc_serial.specs.declared.read.Read.{Read}
use Rattle.uc_serial.specs.declared.read.Read.TheVariants.{Key, Range}

abbrev Row : Type 0
Row = List ℕ × List ℕ

-- ---- rows

abbrev AreGiven : Operation → Type 0
AreGiven m = (writes : List Write) (key value : List ℕ) (at : ℕ) → value_of m writes key at ≡ Some value → Any (λ w. (w.seq ≤ at) × Gives key w.op) writes

-- a key of the range that has a value is a row
is_row : (m : Operation) → AreGiven m → (log : List Write) (low : List ℕ) (high : Option (List ℕ)) (at : ℕ) (row : Row) → IsTrue (is_in_range low high row.0) → value_of m log row.0 at ≡ Some row.1 → IsRow m log low high at row
is_row m given log low high at row within e =
    let a = given log row.0 row.1 at e in ((within, (a.0, a.1, a.2, a.3, a.4.1)), e)

same_option : (x y : Option (List ℕ)) → ((v : List ℕ) → x ≡ Some v → y ≡ Some v) → ((v : List ℕ) → y ≡ Some v → x ≡ Some v) → x ≡ y
same_option (Some v) y to from = sym (to v refl)
same_option None None to from = refl
same_option None (Some v) to from = from v refl

-- a value that is a row of one is one of the other
carried : (m p : Operation) → AreGiven m → (log others : List Write) (low : List ℕ) (high : Option (List ℕ)) (at since limit : ℕ) (rows : List Row) (key value : List ℕ) → IsScan m log low high at limit rows → IsScan p others low high since limit rows → length rows < limit → IsTrue (is_in_range low high key) → value_of m log key at ≡ Some value → value_of p others key since ≡ Some value
carried m p given log others low high at since limit rows key value s t few within e =
    let row : Row = (key, value) in
    ⊎_elim
    (λ there. (All-contains (IsRow p others low high since) rows row t.only there).1)
    (λ full. absurd (omega (arith, few, full.0)))
    (s.first row (is_row m given log low high at row within e))

module _ (m p : Operation) (given : AreGiven m) (too : AreGiven p)
    (first : (writes : List Write) (low : List ℕ) (high : Option (List ℕ)) (at limit : ℕ) → IsScan m writes low high at limit (first_rows m writes at limit (named_keys writes low high)))
    (others_first : (writes : List Write) (low : List ℕ) (high : Option (List ℕ)) (at limit : ℕ) → IsScan p writes low high at limit (first_rows p writes at limit (named_keys writes low high)))
    (log others : List Write) (low : List ℕ) (high : Option (List ℕ)) (at since limit : ℕ) where
  abbrev rows : List Row
  rows = first_rows m log at limit (named_keys log low high)

  abbrev other_rows : List Row
  other_rows = first_rows p others since limit (named_keys others low high)

  -- equal rows, fewer than the limit, say equal values
  pub one_value : rows ≡ other_rows → length rows < limit → (key : List ℕ) → IsTrue (is_in_range low high key) → value_of m log key at ≡ value_of p others key since
  one_value same few key within =
      let s = first log low high at limit in
      let t = subst (IsScan p others low high since limit) (sym same) (others_first others low high since limit) in
      same_option (value_of m log key at) (value_of p others key since)
      (λ v e. carried m p given log others low high at since limit rows key v s t few within e)
      (λ v e. carried p m too others log low high since at limit rows key v t s few within e)

  -- equal values give equal rows
  pub same_rows : ((writes : List Write) (low : List ℕ) (high : Option (List ℕ)) (at limit : ℕ) (rows others : List Row) → IsScan p writes low high at limit rows → IsScan p writes low high at limit others → rows ≡ others)
      → ((key : List ℕ) → IsTrue (is_in_range low high key) → value_of m log key at ≡ value_of p others key since) → rows ≡ other_rows
  same_rows determined same =
      let s = first log low high at limit in
      let to = λ (row : Row) (r : IsRow m log low high at row). is_row p too others low high since row r.0.0 (sym (same row.0 r.0.0) ∙ r.1) in
      let from = λ (row : Row) (r : IsRow p others low high since row). is_row m given log low high at row r.0.0 (same row.0 r.0.0 ∙ r.1) in
      let shown : IsScan p others low high since limit rows = record {
        rise = s.rise;
        only = All-weaker (IsRow m log low high at) (IsRow p others low high since) to rows s.only;
        few = s.few;
        first = λ row q. s.first row (from row q);
      } in
      determined others low high since limit rows other_rows shown (others_first others low high since limit)

-- ---- reads

module _ (m : Operation) (log : List Write) (at n : ℕ) where
  current : (read : Read) → IsUnchanged (λ key. value_of m log key at) (λ key. value_of m log key n) read → IsCurrent m log n (query_at at read)
  current (Key named) same = same
  current (Range low high) same = same

  saw : (reads : List Read) → AllByRecursion (λ r. r.answer ≡ reading m log r.query) (seen_at m log at reads)
  saw [] = tt
  saw (read ∷ reads) = (refl, saw reads)

  all_current : (reads : List Read) → IsFirstChanged (λ key. value_of m log key at) (λ key. value_of m log key n) reads None → AllByRecursion (λ r. IsCurrent m log n r.query) (seen_at m log at reads)
  all_current [] h = tt
  all_current (read ∷ reads) h = (current read h.0, all_current reads h.1)

pub may_commit : (m : Operation) (log writes : List Write) (at : ℕ) (reads : List Read) → IsFirstChanged (λ key. value_of m log key at) (λ key. value_of m log key (last_of 0 log)) reads None → MayCommit m log (record { reads = seen_at m log at reads; writes = writes })
may_commit m log writes at reads h = record {
  saw = saw m log at (last_of 0 log) reads;
  current = all_current m log at (last_of 0 log) reads h;
}
