-- Reads of what wasn't written since.
use Rattle.std.proofs.Common.{◌≡◌, ℕ, ◌<◌, ◌≤◌, Bool, true, false, cond, eqb, ◌&&◌, ◌||◌, List, [], ◌∷◌, ◌++◌, take, fold, Contains, Option, None, refl, sym, ap, ◌∙◌, arith}
use Rattle.std.specs.Prelude.{nat_le, nat_lt, option_map}
use Rattle.std.specs.List.{AllByRecursion, cons_option}
use Rattle.std.proofs.lemmas.Bool.{false≢true}
use Rattle.std.proofs.lemmas.Bool.Decides.{nat_tests}
use Rattle.std.proofs.lemmas.List.Elements.{All-contains_itself, recursion_from_All}
use Rattle.uc_bytes.specs.declared.write.Write.{Write}
use Rattle.uc_oper.specs.Operation.{Operation}
use Rattle.uc_model.specs.Meaning.{changed, is_seen, touches_key, touching, value_of}
use Rattle.uc_batch.specs.Rising.{last_of}
use Rattle.uc_query_read.specs.Answers.{Reads, answer_of, is_protected, named_keys, reading, rows_of}
use Rattle.uc_query_read.specs.Query.{at_of}
use Rattle.uc_query_read.specs.Scans.{IsNamed}
use Rattle.uc_query_read.specs.declared.answer.Answer.{Answer}
use Rattle.uc_query_read.specs.declared.answer.Answer.TheVariants.{Value, Rows, NotProtected}
use Rattle.uc_query_read.specs.declared.query.Query.{Query}
use Rattle.uc_query_read.specs.declared.query.Query.TheVariants.{Get, Scan}
use Rattle.uc_serial.specs.Transactions.{AreCommitted, AreSerial, IsCurrent, IsUntouched, Seen, Transaction, at_sequence, is_written_since}

-- ---- a key

-- a write is seen at both sequences or at neither
seen_alike : (s n seq : ℕ) (touches : Bool) → s ≤ n → (nat_lt s seq && touches) ≡ false → (nat_le seq s && touches) ≡ (nat_le seq n && touches)
seen_alike s n seq true le e = by (nat_le seq s) refl
  where
    by : (b : Bool) → nat_le seq s ≡ b → (nat_le seq s && true) ≡ (nat_le seq n && true)
    by true f = let low : seq ≤ s = grind (arith, nat_tests) in let high : nat_le seq n ≡ true = grind (arith, nat_tests) in ap (λ b. b && true) (f ∙ sym high)
    by false f =
        let above : nat_lt s seq ≡ true = grind (arith, nat_tests) in
        absurd (false≢true (sym e ∙ ap (λ b. b && true) above))
seen_alike s n seq false le e = never (nat_le seq s) ∙ sym (never (nat_le seq n))
  where
    never : (b : Bool) → (b && false) ≡ false
    never true = refl
    never false = refl

first_none : (x y : Bool) → (x || y) ≡ false → (x ≡ false) × (y ≡ false)
first_none true y e = absurd (false≢true (sym e))
first_none false y e = (refl, e)

module _ (key : List ℕ) (s n : ℕ) (le : s ≤ n) where
  pub same_touching : (log : List Write) → is_written_since log key s ≡ false → touching log key n ≡ touching log key s
  same_touching [] e = refl
  same_touching (w ∷ ws) e =
      let parts = first_none (nat_lt s w.seq && touches_key key w.op) (is_written_since ws key s) e in
      let alike = sym (seen_alike s n w.seq (touches_key key w.op) le parts.0) in
      ap (λ b. cond b (w ∷ touching ws key n) (touching ws key n)) alike
      ∙ ap (λ (ws' : List Write). cond (is_seen key s w) (w ∷ ws') ws') (same_touching ws parts.1)

  pub same_value : (m : Operation) (log : List Write) → is_written_since log key s ≡ false → value_of m log key n ≡ value_of m log key s
  same_value m log e = ap (λ (ws : List Write). fold (λ v w. changed m v w.op) None ws) (same_touching log e)

-- ---- rows

module _ (m : Operation) (log others : List Write) (s n : ℕ) where
  abbrev IsSame : List ℕ → Type 0
  IsSame key = value_of m log key n ≡ value_of m others key s

  pub same_rows : (keys : List (List ℕ)) → AllByRecursion IsSame keys → rows_of m log n keys ≡ rows_of m others s keys
  same_rows [] h = refl
  same_rows (k ∷ ks) h =
      ap (λ (v : Option (List ℕ)). cons_option (option_map (λ value. (k, value)) v) (rows_of m log n ks)) h.0
      ∙ ap (λ (rows : List (List ℕ × List ℕ)). cons_option (option_map (λ value. (k, value)) (value_of m others k s)) rows) (same_rows ks h.1)

all-map : {X : Type 0} (P Q : X → Type 0) → ((x : X) → P x → Q x) → (xs : List X) → AllByRecursion P xs → AllByRecursion Q xs
all-map P Q f [] h = tt
all-map P Q f (x ∷ xs) h = (f x h.0, all-map P Q f xs h.1)

-- what holds of each element holds of all
pub all_there : {X : Type 0} (P : X → Type 0) (xs : List X) → ((x : X) → Contains xs x → P x) → AllByRecursion P xs
all_there P xs each = all-map (Contains xs) P each xs (recursion_from_All (Contains xs) xs (All-contains_itself xs))

-- ---- a query

pub untouched_current : (m : Operation) (log : List Write) (query : Query) (at : ℕ) → at_of query ≤ at → IsUntouched log query → IsCurrent m log at query
untouched_current m log query at le none key reads = same_value key (at_of query) at le m log (none key reads)

module _ (m : Operation) (named : (log : List Write) (low : List ℕ) (high : Option (List ℕ)) (key : List ℕ) → Contains (named_keys log low high) key → IsNamed log low high key) where
  pub one_answer : (log : List Write) (query : Query) (n : ℕ) → IsCurrent m log n query → reading m log (at_sequence n query) ≡ reading m log query
  one_answer log (Get key s) n current = ap (λ (v : Option (List ℕ)). Value v) (current key refl)
  one_answer log (Scan low high s limit) n current =
      let keys = named_keys log low high in
      let each = all_there (IsSame m log log s n) keys (λ key there. current key (named log low high key there).0) in
      ap (λ (rows : List (List ℕ × List ℕ)). Rows (take limit rows)) (same_rows m log log s n keys each)

  -- ---- histories

  reads_current : (log : List Write) (n : ℕ) (reads : List Seen) → AllByRecursion (λ r. r.answer ≡ reading m log r.query) reads → AllByRecursion (λ r. IsCurrent m log n r.query) reads → AllByRecursion (λ r. r.answer ≡ reading m log (at_sequence n r.query)) reads
  reads_current log n [] saw current = tt
  reads_current log n (r ∷ rs) saw current = (
    saw.0 ∙ sym (one_answer log r.query n current.0),
    reads_current log n rs saw.1 current.1,
  )

  pub serial : (log : List Write) (ts : List Transaction) → AreCommitted m log ts → AreSerial m log ts
  serial log [] h = tt
  serial log (t ∷ ts) h = (
    reads_current log (last_of 0 log) t.reads h.0.saw h.0.current,
    serial (log ++ t.writes) ts h.1,
  )

-- ---- writes above a snapshot

none_above : (key : List ℕ) (s : ℕ) (log : List Write) → AllByRecursion (λ w. w.seq ≤ s) log → is_written_since log key s ≡ false
none_above key s [] h = refl
none_above key s (w ∷ ws) h =
    let low : nat_lt s w.seq ≡ false = let le : w.seq ≤ s = h.0 in grind (arith, nat_tests) in
    ap (λ b. ((b && touches_key key w.op) || is_written_since ws key s)) low ∙ none_above key s ws h.1

pub untouched_before : (log : List Write) (query : Query) → AllByRecursion (λ w. w.seq ≤ at_of query) log → IsUntouched log query
untouched_before log query h key reads = none_above key (at_of query) log h

-- answers with one snapshot
module _ (m : Operation)
    (equal : (writes others : List Write) (keeps : List ℕ) (query : Query) → (Contains keeps (at_of query) → (key : List ℕ) → Reads query key → value_of m writes key (at_of query) ≡ value_of m others key (at_of query)) → answer_of m writes keeps query ≡ answer_of m others keeps query)
    (nothing : (writes later : List Write) (key : List ℕ) (at : ℕ) → AllByRecursion (λ w. at < w.seq) later → value_of m (writes ++ later) key at ≡ value_of m writes key at) where
  protected : (at : ℕ) → is_protected (at ∷ []) at ≡ true
  protected at = let same : eqb at at ≡ true = grind (arith, nat_tests) in ap (λ b. (b || false)) same

  abbrev answer_by : Bool → List Write → Query → Answer
  answer_by b log query = cond b (reading m log query) (NotProtected (at_of query))

  pub stays : (log later : List Write) (query : Query) → AllByRecursion (λ w. at_of query < w.seq) later → reading m (log ++ later) query ≡ reading m log query
  stays log later query above =
      let kept = protected (at_of query) in
      ap (λ b. answer_by b (log ++ later) query) (sym kept)
      ∙ equal (log ++ later) log (at_of query ∷ []) query (λ there key reads. nothing log later key (at_of query) above)
      ∙ ap (λ b. answer_by b log query) kept
