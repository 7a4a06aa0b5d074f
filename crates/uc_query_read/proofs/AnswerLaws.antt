-- When a query is answered, and a scan by which rows.
use Rattle.std.proofs.Common.{◌≡◌, ℕ, Bool, true, false, cond, ◌||◌, eqb, List, [], ◌∷◌, take, Option, Some, IsTrue, Contains, ◌⊎◌, inl, inr, ⊎_elim, refl, sym, ap, ◌∙◌, subst}
use Rattle.std.specs.Prelude.{◌↔◌}
use Rattle.std.proofs.lemmas.Bool.{eq-eqb, eqb-true, false≢true}
use Rattle.uc_oper.specs.Operation.{Operation}
use Rattle.uc_bytes.specs.declared.write.Write.{Write}
use Rattle.uc_query_read.specs.declared.query.Query.{Query}
use Rattle.uc_query_read.specs.declared.query.Query.TheVariants.{Get, Scan}
use Rattle.uc_query_read.specs.declared.answer.Answer.TheVariants.{Value, Rows, NotProtected}
use Rattle.uc_query_read.specs.Query.{at_of}
use Rattle.uc_model.specs.Meaning.{value_of}
use Rattle.uc_model.proofs.Givers.{value_given}
use Rattle.uc_query_read.specs.Answers.{is_in_range, is_protected, named_keys, rows_of, first_rows, Reads, reading, answer_of}
use Rattle.uc_query_read.specs.Scans.{IsNamed, IsRow, IsScan}
use Rattle.uc_model.proofs.Members.{contains_first, contains_later, contains_cases, contains_nothing}
use Rattle.uc_query_read.proofs.FirstRows.{first_alike, rows_first, rows_once}

abbrev Row : Type 0
Row = List ℕ × List ℕ

or_cases : (a b : Bool) → (a || b) ≡ true → (a ≡ true) ⊎ (b ≡ true)
or_cases true b e = inl refl
or_cases false b e = inr e

or_later : (a b : Bool) → b ≡ true → (a || b) ≡ true
or_later true b e = refl
or_later false b e = e

protected_stands : (keeps : List ℕ) (at : ℕ) → is_protected keeps at ≡ true → Contains keeps at
protected_stands [] at e = absurd (false≢true e)
protected_stands (keep ∷ keeps) at e =
    ⊎_elim (λ same. contains_first keep at keeps (eqb-true keep at same)) (λ later. contains_later keep at keeps (protected_stands keeps at later)) (or_cases (eqb keep at) (is_protected keeps at) e)

stands_protected : (keeps : List ℕ) (at : ℕ) → Contains keeps at → is_protected keeps at ≡ true
stands_protected [] at c = absurd (contains_nothing at c)
stands_protected (keep ∷ keeps) at c =
    ⊎_elim (λ same. rw (eq-eqb keep at same) refl) (λ later. or_later (eqb keep at) (is_protected keeps at) (stands_protected keeps at later)) (contains_cases keep at keeps c)

-- a scan at a protected sequence is answered by its first rows
pub scan_answered : (m : Operation) (ws : List Write) (keeps : List ℕ) (low : List ℕ) (high : Option (List ℕ)) (at limit : ℕ) (rows : List Row) → Contains keeps at → (answer_of m ws keeps (Scan low high at limit) ≡ Rows rows) ↔ IsScan m ws low high at limit rows
scan_answered m ws keeps low high at limit rows c =
    let first = take limit (rows_of m ws at (named_keys ws low high)) in
    let answered : answer_of m ws keeps (Scan low high at limit) ≡ Rows first = rw (stands_protected keeps at c) refl in (
      λ e. let same : first ≡ rows = cc in subst (IsScan m ws low high at limit) same (rows_first m ws low high at limit),
      λ s. answered ∙ ap Rows (rows_once m ws low high at limit first rows (rows_first m ws low high at limit) s),
    )

read_answers : (m : Operation) (ws : List Write) (query : Query) (seq : ℕ) → reading m ws query ≡ NotProtected seq → ⊥
read_answers m ws (Get key at) seq e = cc
read_answers m ws (Scan low high at limit) seq e = cc

refused_cases : (m : Operation) (ws : List Write) (query : Query) (seq : ℕ) (b : Bool) → cond b (reading m ws query) (NotProtected (at_of query)) ≡ NotProtected seq → (b ≡ false) × (at_of query ≡ seq)
refused_cases m ws query seq true e = absurd (read_answers m ws query seq e)
refused_cases m ws query seq false e = (refl, cc)

not_both : (b : Bool) → b ≡ true → b ≡ false → ⊥
not_both b e f = false≢true (sym f ∙ e)

is_false : (b : Bool) → (b ≡ true → ⊥) → b ≡ false
is_false true never = absurd (never refl)
is_false false never = refl

-- a query fails exactly if its sequence number isn't protected
pub refused : (m : Operation) (ws : List Write) (keeps : List ℕ) (query : Query) (seq : ℕ) → (answer_of m ws keeps query ≡ NotProtected seq) ↔ ((at_of query ≡ seq) × (¬ Contains keeps seq))
refused m ws keeps query seq = (
  λ e.
      let r = refused_cases m ws query seq (is_protected keeps (at_of query)) e in
      (r.1, λ c. not_both (is_protected keeps (at_of query)) (stands_protected keeps (at_of query) (subst (Contains keeps) (sym r.1) c)) r.0),
  λ p.
      let open_ : is_protected keeps (at_of query) ≡ false = is_false (is_protected keeps (at_of query)) (λ e. p.1 (subst (Contains keeps) p.0 (protected_stands keeps (at_of query) e))) in
      rw open_ (ap NotProtected p.0),
)

-- lists of writes that give the keys of a query the same values
module _ (m : Operation) (ws vs : List Write) where
  -- a key that has a value is named in the other list too
  named_by_value : (low : List ℕ) (high : Option (List ℕ)) (at : ℕ) (row : Row) → IsTrue (is_in_range low high row.0) → value_of m vs row.0 at ≡ Some row.1 → IsNamed vs low high row.0
  named_by_value low high at row within e =
      let a = value_given m row.0 row.1 at vs e in (within, (a.0, a.1, a.2, a.3, a.4.1))

  row_alike : (low : List ℕ) (high : Option (List ℕ)) (at : ℕ) → ((key : List ℕ) → IsTrue (is_in_range low high key) → value_of m ws key at ≡ value_of m vs key at) → (row : Row) → IsRow m ws low high at row → IsRow m vs low high at row
  row_alike low high at same row r =
      let worth : value_of m vs row.0 at ≡ Some row.1 = sym (same row.0 r.0.0) ∙ r.1 in
      (named_by_value low high at row r.0.0 worth, worth)

read_alike : (m : Operation) (ws vs : List Write) (query : Query) → ((key : List ℕ) → Reads query key → value_of m ws key (at_of query) ≡ value_of m vs key (at_of query)) → reading m ws query ≡ reading m vs query
read_alike m ws vs (Get key at) same = ap Value (same key refl)
read_alike m ws vs (Scan low high at limit) same =
    let rows = first_rows m ws at limit (named_keys ws low high) in
    let others = first_rows m vs at limit (named_keys vs low high) in
    let back = λ (key : List ℕ) (within : IsTrue (is_in_range low high key)). sym (same key within) in
    let shown = first_alike (IsRow m ws low high at) (IsRow m vs low high at) limit rows (row_alike m ws vs low high at same) (row_alike m vs ws low high at back) (rows_first m ws low high at limit) in
    ap Rows (rows_once m vs low high at limit rows others shown (rows_first m vs low high at limit))

alike_by : (m : Operation) (ws vs : List Write) (query : Query) (b : Bool) → (b ≡ true → reading m ws query ≡ reading m vs query) → cond b (reading m ws query) (NotProtected (at_of query)) ≡ cond b (reading m vs query) (NotProtected (at_of query))
alike_by m ws vs query true same = same refl
alike_by m ws vs query false same = refl

-- give it the same answer
pub answers_alike : (m : Operation) (ws vs : List Write) (keeps : List ℕ) (query : Query) → (Contains keeps (at_of query) → (key : List ℕ) → Reads query key → value_of m ws key (at_of query) ≡ value_of m vs key (at_of query)) → answer_of m ws keeps query ≡ answer_of m vs keeps query
answers_alike m ws vs keeps query same =
    alike_by m ws vs query (is_protected keeps (at_of query)) (λ e. read_alike m ws vs query (same (protected_stands keeps (at_of query) e)))

-- a sequence that two lists keep is answered alike under both
pub kept_alike : (m : Operation) (ws : List Write) (keeps others : List ℕ) (query : Query) → Contains keeps (at_of query) → Contains others (at_of query) → answer_of m ws keeps query ≡ answer_of m ws others query
kept_alike m ws keeps others query kept too =
    ap (λ (b : Bool). cond b (reading m ws query) (NotProtected (at_of query))) (stands_protected keeps (at_of query) kept ∙ sym (stands_protected others (at_of query) too))
